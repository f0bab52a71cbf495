-- The late faults of the lines of tasks and procedures, and the first of them with its line.
use Rattle.std.specs.Prelude.{ℕ, suc, ◌+◌, Result, Ok, Err, Bool, List, [], ◌∷◌, get_or}
use Rattle.std.proofs.Math.Option.{Option, none, some}
use Rattle.table.specs.Mask.{pick, bit}
use Rattle.table.specs.Table.{no_task, node_in, is_absent}
use Rattle.table.specs.declared.Node.{Node}
use Rattle.table.specs.declared.Proc.{Proc}
use Rattle.table.specs.declared.Task.{Task}
use Rattle.text.specs.declared.Fault.{Fault}
use Rattle.text.specs.Reader.{all_below, concat_from}
use Rattle.late_lines.specs.declared.At.{At}
use Rattle.late_nodes.specs.declared.Terms.{Terms}
use Rattle.late_nodes.specs.Terms.{callee_at, present_in, if_closed, node_fault_by}

-- ---- the fault of each line, or none

-- "top parameter not dropped"
abbrev pub drop_fault : Bool → ℕ → ℕ → Option Fault
drop_fault b params d = if_closed b (all_below params (λ j. bit j d))

abbrev pub task_fault_by : Terms → Task → Option Fault
task_fault_by c x = drop_fault c.closed (callee_at c x.top).params (callee_at c x.top).drop

-- the first n tasks
abbrev pub tasks_late_by : Terms → List Task → ℕ → List (Option Fault)
tasks_late_by c xs n = concat_from (λ i. task_fault_by c (get_or xs i no_task) ∷ []) n 0

-- an absent node has no line
abbrev pub node_late_by : Terms → ℕ → Node → List (Option Fault)
node_late_by c m x = pick (is_absent x) [] (node_fault_by c m x ∷ [])

abbrev pub nodes_late_by : Terms → ℕ → Proc → List (Option Fault)
nodes_late_by c m q = concat_from (λ n. node_late_by c m (node_in q n)) q.nodes 0

-- a procedure's line, which has none, and its node lines
abbrev pub proc_late_by : Terms → Proc → List (Option Fault)
proc_late_by c q = none ∷ nodes_late_by c (present_in q) q

-- ---- the first fault of some lines, counted from l, with its line; or the line behind them

unfoldable pub first_at : ℕ → List (Option Fault) → Result ℕ At
first_at l [] = Ok l
first_at l (none ∷ fs) = first_at (suc l) fs
first_at l (some f ∷ fs) = Err (record { fault = f; line = l })

-- a line that is judged
abbrev pub step_at : Result (Unit {0}) Fault → ℕ → Result ℕ At
step_at (Ok u) l = Ok (l + 1)
step_at (Err f) l = Err (record { fault = f; line = l })
