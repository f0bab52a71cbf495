use Rattle.arguments.specs.NumberLaws.{Going}
use Rattle.arguments.proofs.digits_up_to.Given as goal

abbrev pub invariant-loop-b : goal.invariant-loop-b
invariant-loop-b l = Going l.m l.t l.v l.b-index
