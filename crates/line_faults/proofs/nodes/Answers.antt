use Rattle.std.proofs.Common.{arith}
use Rattle.line_faults.specs.Rows.{passed_none, passed_more, passed_found, passed_all}
use Rattle.line_faults.proofs.nodes.Goals as goal

pub loop-j-init : goal.loop-j-init
loop-j-init c = passed_none _ _

pub returns-in_err-place : goal.returns-in_err-place
returns-in_err-place c = passed_found _ _ _ c.loop-j.invariant (omega arith) c.in_err-place.ensures c.from_residual.ensures.1

pub loop-j-preserved : goal.loop-j-preserved
loop-j-preserved c = passed_more _ _ _ c.loop-j.invariant (omega arith) c.in_ok-place.ensures

pub returns : goal.returns
returns c = passed_all _ _ _ c.loop-j.invariant (omega arith)
