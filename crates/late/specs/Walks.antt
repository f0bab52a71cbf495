-- The walk over a whole table finds the first late fault.
use Rattle.std.specs.Prelude.{ℕ, suc, ◌+◌, ◌≡◌, refl, List, [], ◌∷◌, ◌++◌, Result, Ok, Err, IsErrAnd, replicate}
use Rattle.std.proofs.Common.{sym, ◌∙◌}
use Rattle.std.proofs.lemmas.Result.{err_from_is_err_and}
use Rattle.std.proofs.Math.Option.{Option, none, some}
use Rattle.table.specs.Mask.{pick}
use Rattle.table.specs.Table.{task_at, proc_at, node_at, is_absent}
use Rattle.table.specs.declared.Table.{Table}
use Rattle.text.specs.declared.Fault.{Fault}
use Rattle.text.specs.Reader.{Result as Reading, good, bad, task_fault, proc_late, concat_from, late, first_late}
use Rattle.late.specs.Late.{late_in}
use Rattle.late_lines.specs.declared.At.{At}
use Rattle.late_lines.specs.Places.{drop_fault, tasks_late_by, proc_late_by, first_at}
use Rattle.late_lines.specs.Walks.{at_good, at_bad, at_none}
use Rattle.late_nodes.specs.declared.Terms.{Terms}
use Rattle.late_nodes.specs.Terms.{terms_of}
use Rattle.late_nodes.specs.NodeLaws.{callee_of_lem, node_of_lem}

abbrev pub tasks_late : Table → List (Option Fault)
tasks_late t = concat_from (λ i. task_fault t i ∷ []) t.tasks 0

abbrev pub procs_late : Table → List (Option Fault)
procs_late t = concat_from (proc_late t) t.procs 0

-- ---- by the terms of a table, the faults of its lines are those that the reader finds

pub tasks_of : (t : Table) {c : Terms} {r : Result ℕ At} → c ≡ terms_of t → r ≡ first_at 3 (tasks_late_by c t.task t.tasks) → r ≡ first_at 3 (tasks_late t)
tasks_of t e h = (rw e at h) ∙ (λ ι. first_at 3 (concat_from (λ i. drop_fault t.closed (callee_of_lem t (task_at t i).top ι).params (callee_of_lem t (task_at t i).top ι).drop ∷ []) t.tasks 0))

pub proc_of_lem : (t : Table) (p l : ℕ) {c : Terms} {r : Result ℕ At} → c ≡ terms_of t → r ≡ first_at l (proc_late_by c (proc_at t p)) → r ≡ first_at l (proc_late t p)
proc_of_lem t p l e h = (rw e at h) ∙ (λ ι. first_at l (none ∷ concat_from (λ n. pick (is_absent (node_at t p n)) [] (node_of_lem t (proc_at t p) (node_at t p n) ι ∷ [])) (proc_at t p).nodes 0))

-- ---- the lines of a whole table

pub tasks_late_lem : (t : Table) {a : At} → Err a ≡ first_at 3 (tasks_late t) → Err a ≡ first_at 1 (late t)
unfolding late first_at
tasks_late_lem t e = at_bad 3 (tasks_late t) _ e

pub procs_late_lem : (t : Table) {k : ℕ} {r : Result ℕ At} → Ok k ≡ first_at 3 (tasks_late t) → r ≡ first_at (k + t.sems + t.queues) (procs_late t) → r ≡ first_at 1 (late t)
unfolding late first_at
procs_late_lem t {k} e h =
    h ∙ sym (at_good 3 (tasks_late t) (replicate t.sems none ++ (replicate t.queues none ++ procs_late t)) e
    ∙ at_none k t.sems (replicate t.queues none ++ procs_late t) ∙ at_none (k + t.sems) t.queues (procs_late t))

-- ---- the answer

abbrev read_as : Table → Result ℕ At → Reading
read_as t (Ok l) = good t
read_as t (Err a) = bad a.fault a.line

first_late_lem : (t : Table) (l : ℕ) (fs : List (Option Fault)) → read_as t (first_at l fs) ≡ first_late t l fs
unfolding first_at first_late
first_late_lem t l [] = refl
first_late_lem t l (none ∷ fs) = first_late_lem t (suc l) fs
first_late_lem t l (some f ∷ fs) = refl

pub late_found : (t : Table) {a : At} → Err a ≡ first_at 1 (late t) → bad a.fault a.line ≡ first_late t 1 (late t)
late_found t e = rw (← first_late_lem t 1 (late t), ← e)

-- what the exit of a `?` answers for a
pub failed_late : (t : Table) {a : At} (r : Result (Unit {0}) At) → Err a ≡ first_at 1 (late t) → IsErrAnd r (λ b. b ≡ a) → late_in t r ≡ first_late t 1 (late t)
failed_late t r e h = let p = err_from_is_err_and r h in rw (p.1, p.2) (late_found t e)

pub late_none : (t : Table) {l : ℕ} → Ok l ≡ first_at 1 (late t) → good t ≡ first_late t 1 (late t)
late_none t e = rw (← first_late_lem t 1 (late t), ← e)
