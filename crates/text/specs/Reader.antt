-- What the reader answers to any list of bytes.
use Rattle.std.specs.Prelude.{ℕ, zero, suc, List, [], ◌∷◌, ◌++◌, Bool, true, false, ◌&&◌, ◌||◌, not, ltb, eqb, length, set, replicate}
use Rattle.std.proofs.Math.Option.{Option, none, some}
use Rattle.table.specs.Mask.{pick, bit}
use Rattle.table.specs.Table.{no_task, no_sem, no_queue, no_proc, no_slots, no_table, task_at, queue_at, proc_at, node_in, node_at, removed, arg_at, Act, alone, waits, signals, sends, receives, calls, returns, act, arcs, is_absent}
use Rattle.table.specs.declared.Node.{Node}
use Rattle.table.specs.declared.Slot.{Slot}
use Rattle.table.specs.declared.Task.{Task}
use Rattle.table.specs.declared.Sem.{Sem}
use Rattle.table.specs.declared.Queue.{Queue}
use Rattle.table.specs.declared.Proc.{Proc}
use Rattle.table.specs.declared.Table.{Table}
use Rattle.text.specs.declared.Reading.{Reading}
use Rattle.text.specs.Number.{bytes, every}
use Rattle.text.specs.declared.Fault.{Fault}
use Rattle.text.specs.declared.Fault.TheVariants.{Long, Ended, Arguments, Unclosed}
use Rattle.text.specs.Fault.{number}
use Rattle.text.specs.Value.{unless, or_else}
use Rattle.text.specs.Line.{Vals, Outcome, took, refused, Parser, ◌>>=◌, give, After, at, differs, broken, after, line}
use Rattle.text.specs.Format.{head_line, counts_line, task_line, sem_line, queue_line, proc_line, Scope, node_line, set_of, node_of, task_of, sem_of}

-- ---- "Reader, lines in order, each left to right": faults 2 to 5, 19 and 20

-- so many lines, or groups of lines, counted up from i, each put into its place of l
unfoldable pub rows : {A : Type 0} → (ℕ → Parser A) → ℕ → ℕ → List A → Parser (List A)
rows f zero i l = give l
rows f (suc n) i l = f i >>= λ a. rows f n (suc i) (set l i a)

abbrev pub task_row : ℕ → ℕ → Parser Task
task_row procs i = line (task_line procs i) >>= λ w. give (task_of procs i w)

abbrev pub sem_row : ℕ → Parser Sem
sem_row i = line (sem_line i) >>= λ w. give (sem_of i w)

abbrev pub queue_of : (closed : Bool) (i : ℕ) → Vals (queue_line closed i) → Queue
queue_of false i w = record { cap = w.1.0; blank = false }
queue_of true i w = record { cap = w.1.0; blank = w.1.1.0 }

abbrev pub queue_row : Bool → ℕ → Parser Queue
queue_row closed i = line (queue_line closed i) >>= λ w. give (queue_of closed i w)

-- a node line's number and node
pub record Numbered : Type 0 where
  pub at : ℕ
  pub node : Node

abbrev pub node_row : Scope → ℕ → ℕ → Parser Numbered
node_row c lo n = line (node_line c lo n) >>= λ w. give (record { at = w.0; node = node_of c w.1.0 w.1.1 })

abbrev pub slot_of : Numbered → Slot
slot_of x = record { node = x.node }

-- open: n lines whose numbers count up from 0
abbrev pub open_nodes : Scope → Parser (List Slot)
open_nodes c = rows (λ j. node_row c j (suc j) >>= λ x. give (slot_of x)) c.nodes 0 no_slots

-- a line that begins with a key stands there, also one that the text's end breaks off within the key
abbrev pub standing : After → List ℕ → Bool
standing (at r) s = true
standing differs s = false
standing broken [] = false
standing broken (b ∷ s) = true

abbrev pub stands : List ℕ → List ℕ → Bool
stands key s = standing (after key s) s

-- "each further line beginning `node=` belongs to the procedure before it"; numbers "ascend strictly from 0 and stay below n".
-- So n is enough for the first argument, the count of lines looked at
unfoldable pub further_nodes : Scope → ℕ → ℕ → List Slot → Parser (List Slot)
further_nodes c zero last l = give l
further_nodes c (suc f) last l =
    λ k s. pick (stands (bytes "node=") s) (node_row c (suc last) c.nodes >>= λ x. further_nodes c f x.at (set l x.at (slot_of x))) (give l) k s

-- closed: the first line's number is 0
abbrev pub closed_nodes : Scope → Parser (List Slot)
closed_nodes c = node_row c 0 1 >>= λ x. further_nodes c c.nodes 0 (set no_slots 0 (slot_of x))

abbrev pub nodes_of : Scope → Bool → Parser (List Slot)
nodes_of c false = open_nodes c
nodes_of c true = closed_nodes c

abbrev pub dropped_by : (closed : Bool) (i : ℕ) → Vals (proc_line closed i) → ℕ
dropped_by false i w = 0
dropped_by true i w = set_of w.1.1.1.1.0

abbrev pub proc_of : (closed : Bool) (i : ℕ) → Vals (proc_line closed i) → List Slot → Proc
proc_of closed i w l = record { params = w.1.0; vars = w.1.1.0; nodes = w.1.1.1.0; drop = dropped_by closed i w; slots = l }

abbrev pub scope_of : (closed : Bool) (procs sems queues i : ℕ) → Vals (proc_line closed i) → Scope
scope_of closed procs sems queues i w = record { closed = closed; procs = procs; sems = sems; queues = queues; vars = w.1.1.0; nodes = w.1.1.1.0 }

-- a procedure's line and its node lines
abbrev pub proc_row : Bool → ℕ → ℕ → ℕ → ℕ → Parser Proc
proc_row closed procs sems queues i =
    line (proc_line closed i) >>= λ w.
    nodes_of (scope_of closed procs sems queues i w) closed >>= λ l.
    give (proc_of closed i w l)

-- text that "carries on after its last line"
abbrev pub at_end : Parser (Unit {0})
at_end l [] = took tt l []
at_end l (b ∷ s) = refused Ended l

-- the lines behind the first two
unfoldable pub body : (trap : ℕ) (closed : Bool) (tasks procs sems queues : ℕ) → Parser Table
body trap closed tasks procs sems queues =
    rows (task_row procs) tasks 0 (replicate 4 no_task) >>= λ ts.
    rows sem_row sems 0 (replicate 8 no_sem) >>= λ ss.
    rows (queue_row closed) queues 0 (replicate 8 no_queue) >>= λ qs.
    rows (proc_row closed procs sems queues) procs 0 (replicate 8 no_proc) >>= λ ps.
    at_end >>= λ u.
    give (record { trap = trap; closed = closed; tasks = tasks; procs = procs; sems = sems; queues = queues; task = ts; sem = ss; queue = qs; proc = ps })

unfoldable pub table : Parser Table
table =
    line head_line >>= λ h.
    line counts_line >>= λ c.
    body h.0 h.1.0 c.0 c.1.0 c.1.1.0 c.1.1.1.0

-- ---- "Reader, after all lines, by line": faults 6 and 7

-- all of the n numbers from 0 pass the test
unfoldable pub all_below : ℕ → (ℕ → Bool) → Bool
all_below zero f = true
all_below (suc n) f = f n && all_below n f

abbrev pub all_present : Proc → List ℕ → Bool
all_present q ms = every (λ m. not (is_absent (node_in q m))) ms

abbrev pub is_removed : ℕ → Bool
is_removed v = eqb v removed

abbrev pub iff : Bool → Bool → Bool
iff true b = b
iff false b = not b

-- "argument count differs from the callee's"
abbrev pub count_by : Table → Act → Bool
count_by t alone = true
count_by t (waits i) = true
count_by t (signals i) = true
count_by t (sends q v) = true
count_by t (receives q v) = true
count_by t (calls q xs) = eqb xs.len (proc_at t q).params
count_by t returns = true

abbrev pub count_right : Table → Node → Bool
count_right t x = count_by t (act x)

-- `-` "in `send` and `recv` if and only if the queue is blank, in `args` if and only if the parameter is dropped, in `assert` and `out` freely"
abbrev pub removed_by : Table → Act → Bool
removed_by t alone = true
removed_by t (waits i) = true
removed_by t (signals i) = true
removed_by t (sends q v) = iff (is_removed v) (queue_at t q).blank
removed_by t (receives q v) = iff (is_removed v) (queue_at t q).blank
removed_by t (calls q xs) = all_below xs.len (λ i. iff (is_removed (arg_at xs i)) (bit i (proc_at t q).drop))
removed_by t returns = true

abbrev pub removed_right : Table → Node → Bool
removed_right t x = removed_by t (act x)

-- a node line of procedure q
abbrev pub node_fault : Table → Proc → Node → Option Fault
node_fault t q x = or_else (unless (count_right t x) Arguments) (unless (not t.closed || (all_present q (arcs x) && removed_right t x)) Unclosed)

-- "A task's top procedure there drops all parameters"
abbrev pub task_fault : Table → ℕ → Option Fault
task_fault t i = let q = proc_at t (task_at t i).top in unless (not t.closed || all_below q.params (λ j. bit j q.drop)) Unclosed

-- what each of n things says, from i on, one list after another
unfoldable pub concat_from : {A : Type 0} → (ℕ → List A) → ℕ → ℕ → List A
concat_from f zero i = []
concat_from f (suc n) i = f i ++ concat_from f n (suc i)

abbrev pub node_late : Table → Proc → Node → List (Option Fault)
node_late t q x = pick (is_absent x) [] (node_fault t q x ∷ [])

abbrev pub proc_late : Table → ℕ → List (Option Fault)
proc_late t p = none ∷ concat_from (λ n. node_late t (proc_at t p) (node_at t p n)) (proc_at t p).nodes 0

-- the late fault of each line, or none, from line 1 on
unfoldable pub late : Table → List (Option Fault)
late t =
    none ∷ none ∷ (concat_from (λ i. task_fault t i ∷ []) t.tasks 0
    ++ (replicate t.sems none ++ (replicate t.queues none ++ concat_from (proc_late t) t.procs 0)))

-- ---- the answer

pub data Result : Type 0 where
  good : Table → Result
  bad : Fault → ℕ → Result

-- the first fault of some lines, counted from l, or the table
unfoldable pub first_late : Table → ℕ → List (Option Fault) → Result
first_late t l [] = good t
first_late t l (none ∷ fs) = first_late t (suc l) fs
first_late t l (some f ∷ fs) = bad f l

abbrev pub result_of : Outcome Table → Result
result_of (took t l s) = first_late t 1 (late t)
result_of (refused f l) = bad f l

-- what the lines of a text say, or the first of their faults
unfoldable pub read_lines : List ℕ → Result
read_lines s = result_of (table 1 s)

abbrev pub reading : Result → Reading
reading (good t) = record { number = 0; line = 0; table = t }
reading (bad f l) = record { number = number f; line = l; table = no_table }

-- "Reader, first: text over 65,536 bytes"; "1 gives line 0"
unfoldable pub read : List ℕ → Reading
read s = elim (ltb 65536 (length s)) [ true ↦ reading (bad Long 0) | false ↦ reading (read_lines s) ]
