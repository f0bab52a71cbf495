use Rattle.std.proofs.Common.{refl, rules, arith}
use Rattle.report_tasks.specs.RowsLaws.{counting_start, counting_turn, counting_end}
use Rattle.report_tasks.proofs.variable_counts.Goals as goal

pub loop-i-init : goal.loop-i-init
loop-i-init c = counting_start refl

pub loop-i-preserved : goal.loop-i-preserved
loop-i-preserved c = counting_turn c.loop-i.invariant (omega arith)

pub returns : goal.returns
returns c = counting_end (search rules) c.loop-i.invariant (omega arith)
