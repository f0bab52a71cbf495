use Rattle.late.specs.Steps.{Filled}
use Rattle.late.proofs.terms_of.Given as goal

abbrev pub invariant-loop-p : goal.invariant-loop-p
invariant-loop-p l = Filled l.fn.t l.p l.callee
