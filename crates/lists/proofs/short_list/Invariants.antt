use Rattle.std.proofs.Common.{◌-◌, length}
use Rattle.lists.specs.ShortLaws.{Left}
use Rattle.lists.proofs.short_list.Given as goal

abbrev pub invariant-loop-from : goal.invariant-loop-from
invariant-loop-from l = Left l.lo l.below l.u l.from l.mask

abbrev pub decreases-loop-from : goal.decreases-loop-from
decreases-loop-from l = length l.u - l.from
