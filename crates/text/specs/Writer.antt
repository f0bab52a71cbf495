-- The lines that a table stands for, the fault of a hand-made table, and what the writer writes.
use Rattle.std.specs.Prelude.{ℕ, zero, suc, List, [], ◌++◌, Bool, true, false, ◌&&◌, ◌||◌, not, ltb, eqb, length, drop}
use Rattle.table.specs.Mask.{members}
use Rattle.table.specs.Table.{task_at, sem_at, queue_at, proc_at, node_in, arg_places, Act, alone, waits, signals, sends, receives, calls, returns, act, is_absent}
use Rattle.table.specs.declared.Node.{Node}
use Rattle.table.specs.declared.Slot.{Slot}
use Rattle.table.specs.declared.Task.{Task}
use Rattle.table.specs.declared.Sem.{Sem}
use Rattle.table.specs.declared.Queue.{Queue}
use Rattle.table.specs.declared.Proc.{Proc}
use Rattle.table.specs.declared.Table.{Table}
use Rattle.text.specs.declared.Writing.{Writing}
use Rattle.text.specs.declared.Fault.TheVariants.{Unused, Short}
use Rattle.text.specs.Fault.{number}
unfoldable pub use Rattle.text.specs.Number.{every}
use Rattle.text.specs.Line.{Vals, write}
use Rattle.text.specs.Format.{head_line, counts_line, task_line, sem_line, queue_line, proc_line, Scope, node_line, Described, no_line, described, describe, task_vals, sem_vals}
use Rattle.text.specs.Reader.{all_below, concat_from, Result, good, bad, read_lines}

-- ---- the lines that a table stands for, faulty or not

abbrev pub queue_vals : (closed : Bool) (i : ℕ) → Queue → Vals (queue_line closed i)
queue_vals false i x = (i, (x.cap, tt))
queue_vals true i x = (i, (x.cap, (x.blank, tt)))

abbrev pub proc_vals : (closed : Bool) (i : ℕ) → Proc → Vals (proc_line closed i)
proc_vals false i x = (i, (x.params, (x.vars, (x.nodes, tt))))
proc_vals true i x = (i, (x.params, (x.vars, (x.nodes, (members x.drop, tt)))))

-- a place without a node stands for no line
abbrev pub node_text : (c : Scope) → ℕ → Described c → List ℕ
node_text c j no_line = []
node_text c j (described k w) = write (node_line c j (suc j)) (j, (k, w))

abbrev pub scope : Table → Proc → Scope
scope t q = record { closed = t.closed; procs = t.procs; sems = t.sems; queues = t.queues; vars = q.vars; nodes = q.nodes }

abbrev pub proc_text : Table → ℕ → List ℕ
proc_text t i = let q = proc_at t i in
    write (proc_line t.closed i) (proc_vals t.closed i q)
    ++ concat_from (λ j. node_text (scope t q) j (describe (scope t q) (node_in q j))) q.nodes 0

unfoldable pub text : Table → List ℕ
text t =
    write head_line (t.trap, (t.closed, tt))
    ++ (write counts_line (t.tasks, (t.procs, (t.sems, (t.queues, tt))))
    ++ (concat_from (λ i. write (task_line t.procs i) (task_vals t.procs i (task_at t i))) t.tasks 0
    ++ (concat_from (λ i. write (sem_line i) (sem_vals i (sem_at t i))) t.sems 0
    ++ (concat_from (λ i. write (queue_line t.closed i) (queue_vals t.closed i (queue_at t i))) t.queues 0
    ++ concat_from (proc_text t) t.procs 0))))

-- ---- places that are not used

abbrev pub is_zero : ℕ → Bool
is_zero n = eqb n 0

abbrev pub slot_empty : Slot → Bool
slot_empty x = is_absent x.node

abbrev pub task_empty : Task → Bool
task_empty x = is_zero x.top

abbrev pub sem_empty : Sem → Bool
sem_empty x = is_zero x.count

abbrev pub queue_empty : Queue → Bool
queue_empty x = is_zero x.cap && not x.blank

abbrev pub proc_empty : Proc → Bool
proc_empty x = is_zero x.params && (is_zero x.vars && (is_zero x.nodes && (is_zero x.drop && every slot_empty x.slots)))

-- the places behind a call's arguments
abbrev pub empty_behind : Act → Bool
empty_behind alone = true
empty_behind (waits i) = true
empty_behind (signals i) = true
empty_behind (sends q v) = true
empty_behind (receives q v) = true
empty_behind (calls q xs) = every is_zero (drop xs.len (arg_places xs))
empty_behind returns = true

abbrev pub args_empty : Node → Bool
args_empty x = empty_behind (act x)

-- within a procedure: places behind its nodes and behind its calls' arguments, and `drop` in an open table
abbrev pub proc_tidy : Bool → Proc → Bool
proc_tidy closed q = every slot_empty (drop q.nodes q.slots) && (all_below q.nodes (λ j. args_empty (node_in q j)) && (closed || is_zero q.drop))

-- places at or beyond a count, and what an open table does not have
unfoldable pub tidy : Table → Bool
tidy t =
    every task_empty (drop t.tasks t.task)
    && (every sem_empty (drop t.sems t.sem)
    && (every queue_empty (drop t.queues t.queue)
    && (every proc_empty (drop t.procs t.proc)
    && (all_below t.queues (λ i. t.closed || not (queue_at t i).blank)
    && all_below t.procs (λ p. proc_tidy t.closed (proc_at t p))))))

-- ---- "Every call first checks a hand-made table as the lines it stands for: a fault gives the reader's number with line 0,
-- and, after all those, an unused place that isn't 0 gives 2"; 0 where there is none

abbrev pub fault_in : Table → Result → ℕ
fault_in t (good r) = elim (tidy t) [ true ↦ 0 | false ↦ number Unused ]
fault_in t (bad f l) = number f

unfoldable pub fault : Table → ℕ
fault t = fault_in t (read_lines (text t))

-- ---- the writer, into a lent buffer: its answer, and what the buffer then holds

pub record Written : Type 0 where
  pub answer : Writing
  pub buffer : List ℕ

abbrev pub unwritten : ℕ → List ℕ → Written
unwritten n buffer = record { answer = record { number = n; line = 0; len = 0 }; buffer = buffer }

abbrev pub whole : List ℕ → List ℕ → Written
whole s buffer = record { answer = record { number = 0; line = 0; len = length s }; buffer = s ++ drop (length s) buffer }

abbrev pub fitted : List ℕ → List ℕ → Written
fitted s buffer = elim (ltb (length buffer) (length s)) [ true ↦ unwritten (number Short) buffer | false ↦ whole s buffer ]

abbrev pub unless_fault : ℕ → Written → List ℕ → Written
unless_fault zero w buffer = w
unless_fault (suc n) w buffer = unwritten (suc n) buffer

unfoldable pub write_to : Table → List ℕ → Written
write_to t buffer = unless_fault (fault t) (fitted (text t) buffer) buffer
