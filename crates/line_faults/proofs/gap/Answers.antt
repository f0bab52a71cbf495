use Rattle.std.proofs.Common.{arith}
use Rattle.line_faults.specs.LineLaws.{gap_none, gap_more, gap_found, gap_all}
use Rattle.line_faults.proofs.gap.Goals as goal

pub loop-i-init : goal.loop-i-init
loop-i-init c = gap_none _ _ _

pub returns-then-not-absent : goal.returns-then-not-absent
returns-then-not-absent c = gap_found _ _ _ _ c.loop-i.invariant (omega arith) c.if-not-absent.ensures

pub loop-i-preserved : goal.loop-i-preserved
loop-i-preserved c = gap_more _ _ _ _ c.loop-i.invariant (omega arith) c.if-not-absent.ensures

pub returns : goal.returns
returns c = gap_all _ _ _ _ c.loop-i.invariant (omega arith) c.node_due.ensures
