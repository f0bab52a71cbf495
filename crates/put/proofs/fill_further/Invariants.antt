use Rattle.put.specs.ListLaws.{Tens}
use Rattle.put.proofs.fill_further.Given as goal

abbrev pub invariant-loop-rest : goal.invariant-loop-rest
invariant-loop-rest l = Tens l.initial.out l.at l.m l.out l.p l.rest l.t

abbrev pub decreases-loop-rest : goal.decreases-loop-rest
decreases-loop-rest l = l.rest
