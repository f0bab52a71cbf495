-- The fault of a hand-made table, from its parts: what the reader says of the lines that it stands for, without reading them.
use Rattle.std.specs.Prelude.{ℕ, zero, suc, ◌-◌, List, [], ◌∷◌, Bool, ◌&&◌, ltb, leb}
use Rattle.std.proofs.Math.Option.{Option, none, some}
use Rattle.table.specs.Mask.{pick}
use Rattle.table.specs.Table.{task_at, sem_at, queue_at, proc_at, node_in, is_absent}
use Rattle.table.specs.declared.Proc.{Proc}
use Rattle.table.specs.declared.Table.{Table}
use Rattle.text.specs.declared.Fault.{Fault}
use Rattle.text.specs.declared.Fault.TheVariants.{Form, Ended, Index, Unused}
use Rattle.text.specs.Fault.{number}
use Rattle.text.specs.Value.{unless, or_else}
use Rattle.text.specs.Line.{line_fault}
use Rattle.text.specs.Format.{head_line, counts_line, task_line, sem_line, queue_line, proc_line, Scope, node_line, Described, no_line, described, describe, task_vals, sem_vals}
use Rattle.text.specs.Reader.{late}
use Rattle.text.specs.Writer.{queue_vals, proc_vals, scope, tidy}

-- the first fault of n things, from i on
unfoldable pub first_of : (ℕ → Option Fault) → ℕ → ℕ → Option Fault
first_of f zero i = none
first_of f (suc n) i = or_else (f i) (first_of f n (suc i))

-- the first fault of some lines
unfoldable pub first_in : List (Option Fault) → Option Fault
first_in [] = none
first_in (f ∷ fs) = or_else f (first_in fs)

-- what stands behind a procedure's lines where a node is due: the next procedure's line, which is a wrong key, or behind the last procedure the text's end
abbrev pub node_due : Bool → Fault
node_due is_last = pick is_last Ended Form

-- what stands where a node is due that is absent, with n places from i on behind it: a later node, whose number is not the one due; else what is behind the procedure's lines
unfoldable pub gap : Bool → Proc → ℕ → ℕ → Fault
gap is_last q zero i = node_due is_last
gap is_last q (suc n) i = pick (is_absent (node_in q i)) (gap is_last q n (suc i)) Index

-- place j of a procedure, the table's last or not: only in closed form, and there behind place 0, may a node be absent
abbrev pub place_fault : (c : Scope) → Bool → Proc → (j : ℕ) → Described c → Option Fault
place_fault c is_last q j no_line = unless (c.closed && ltb 0 j) (gap is_last q (c.nodes - suc j) (suc j))
place_fault c is_last q j (described k w) = line_fault (node_line c j (suc j)) (j, (k, w))

abbrev pub nodes_fault : Table → Bool → Proc → Option Fault
nodes_fault t is_last q = let c = scope t q in first_of (λ j. place_fault c is_last q j (describe c (node_in q j))) q.nodes 0

-- no procedure stands behind procedure p
abbrev pub last_proc : Table → ℕ → Bool
last_proc t p = leb t.procs (suc p)

abbrev pub proc_fault : Table → ℕ → Option Fault
proc_fault t p = let q = proc_at t p in or_else (line_fault (proc_line t.closed p) (proc_vals t.closed p q)) (nodes_fault t (last_proc t p) q)

-- the lines, in their order
abbrev pub head_fault : Table → Option Fault
head_fault t = line_fault head_line (t.trap, (t.closed, tt))

abbrev pub counts_fault : Table → Option Fault
counts_fault t = line_fault counts_line (t.tasks, (t.procs, (t.sems, (t.queues, tt))))

abbrev pub tasks_fault : Table → Option Fault
tasks_fault t = first_of (λ i. line_fault (task_line t.procs i) (task_vals t.procs i (task_at t i))) t.tasks 0

abbrev pub sems_fault : Table → Option Fault
sems_fault t = first_of (λ i. line_fault (sem_line i) (sem_vals i (sem_at t i))) t.sems 0

abbrev pub queues_fault : Table → Option Fault
queues_fault t = first_of (λ i. line_fault (queue_line t.closed i) (queue_vals t.closed i (queue_at t i))) t.queues 0

abbrev pub procs_fault : Table → Option Fault
procs_fault t = first_of (proc_fault t) t.procs 0

unfoldable pub lines_fault : Table → Option Fault
lines_fault t = or_else (head_fault t) (or_else (counts_fault t) (or_else (tasks_fault t) (or_else (sems_fault t) (or_else (queues_fault t) (procs_fault t)))))

-- then the faults after all lines, then unused places
unfoldable pub table_fault : Table → Option Fault
table_fault t = or_else (lines_fault t) (or_else (first_in (late t)) (unless (tidy t) Unused))

abbrev pub numbered : Option Fault → ℕ
numbered none = 0
numbered (some f) = number f
