use Rattle.digits.specs.LeadLaws.{Leading}
use Rattle.digits.proofs.further_digits.Given as goal

abbrev pub invariant-loop-i : goal.invariant-loop-i
invariant-loop-i l = Leading l.first l.s l.from l.v l.i
