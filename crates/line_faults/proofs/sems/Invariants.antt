use Rattle.text.specs.Line.{line_fault}
use Rattle.table.specs.Table.{sem_at}
use Rattle.text.specs.Format.{sem_line, sem_vals}
use Rattle.line_faults.specs.Rows.{Passed}
use Rattle.line_faults.proofs.sems.Given as goal

abbrev pub invariant-loop-x : goal.invariant-loop-x
invariant-loop-x l = Passed (λ i. line_fault (sem_line i) (sem_vals i (sem_at l.t i))) l.t.sems l.x-index
