use Rattle.std.proofs.Common.{◌*◌}
use Rattle.put.specs.ListLaws.{Listing}
use Rattle.put.proofs.fill_ten.Given as goal

abbrev pub invariant-loop-rest : goal.invariant-loop-rest
invariant-loop-rest l = Listing (l.t * 10) l.initial.out l.at l.m l.out l.p l.rest

abbrev pub decreases-loop-rest : goal.decreases-loop-rest
decreases-loop-rest l = l.rest
