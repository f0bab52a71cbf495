use Rattle.std.proofs.Common.{arith, rules}
use Rattle.late_lines.specs.Steps.{values_long}
use Rattle.late.specs.Steps.{filled_none, filled_more, filled_terms}
use Rattle.late.proofs.terms_of.Goals as goal

pub loop-p-init : goal.loop-p-init
loop-p-init c = filled_none _

pub loop-p-preserved : goal.loop-p-preserved
loop-p-preserved c = filled_more _ _ _ (omega arith) c.loop-p.invariant

pub returns : goal.returns
returns c = filled_terms _ _ _ (search (rules, values_long)) (omega arith) c.loop-p.invariant
