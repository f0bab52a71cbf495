use Rattle.report_tasks.specs.RowsLaws.{Counting}
use Rattle.report_tasks.proofs.variable_counts.Given as goal

abbrev pub invariant-loop-i : goal.invariant-loop-i
invariant-loop-i l = Counting l.fn.procs l.counts l.i
