use Rattle.std.proofs.Common.{◌-◌, length}
use Rattle.lists.specs.SetLaws.{Rising}
use Rattle.lists.proofs.rising.Given as goal

abbrev pub invariant-loop-to : goal.invariant-loop-to
invariant-loop-to l = Rising l.lo l.below l.e l.t l.from l.to l.mask l.within

abbrev pub decreases-loop-to : goal.decreases-loop-to
decreases-loop-to l = length l.t - l.to
