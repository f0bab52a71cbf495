use Rattle.std.proofs.Common.{[], ◌+◌, ◌≤◌, ◌∷◌, get_or}
use Rattle.table.specs.Table.{no_task}
use Rattle.late_lines.specs.Places.{task_fault_by}
use Rattle.late_lines.specs.Walks.{Walked}
use Rattle.late_lines.proofs.tasks.Given as goal

abbrev pub invariant-loop-x : goal.invariant-loop-x
invariant-loop-x l = (l.line ≤ 3 + l.x-index) × Walked (λ i. task_fault_by l.c (get_or l.fn.task i no_task) ∷ []) l.fn.n 3 l.line l.x-index
