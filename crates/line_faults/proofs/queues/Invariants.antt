use Rattle.text.specs.Line.{line_fault}
use Rattle.table.specs.Table.{queue_at}
use Rattle.text.specs.Format.{queue_line}
use Rattle.text.specs.Writer.{queue_vals}
use Rattle.line_faults.specs.Rows.{Passed}
use Rattle.line_faults.proofs.queues.Given as goal

abbrev pub invariant-loop-x : goal.invariant-loop-x
invariant-loop-x l = Passed (λ i. line_fault (queue_line l.t.closed i) (queue_vals l.t.closed i (queue_at l.t i))) l.t.queues l.x-index
