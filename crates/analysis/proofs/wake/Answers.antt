use Rattle.std.proofs.Common.{arith}
use Rattle.analysis.specs.WorklistLaws.{waking_end}
use Rattle.analysis.proofs.wake.Goals as goal

pub returns : goal.returns
returns c = waking_end c.requires c.loop-i.invariant (omega (arith, c.loop-i-test.false))
