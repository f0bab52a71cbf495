use Rattle.digits.specs.ReadLaws.{Going}
use Rattle.digits.proofs.digit_run.Given as goal

abbrev pub invariant-loop-b : goal.invariant-loop-b
invariant-loop-b l = Going l.t l.v l.b-index
