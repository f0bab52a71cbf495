use Rattle.text.specs.Line.{line_fault}
use Rattle.table.specs.Table.{task_at}
use Rattle.text.specs.Format.{task_line, task_vals}
use Rattle.line_faults.specs.Rows.{Passed}
use Rattle.line_faults.proofs.tasks.Given as goal

abbrev pub invariant-loop-x : goal.invariant-loop-x
invariant-loop-x l = Passed (λ i. line_fault (task_line l.t.procs i) (task_vals l.t.procs i (task_at l.t i))) l.t.tasks l.x-index
