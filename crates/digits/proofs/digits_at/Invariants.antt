use Rattle.digits.specs.LeadLaws.{Leading}
use Rattle.digits.proofs.digits_at.Given as goal

abbrev pub invariant-loop-i : goal.invariant-loop-i
invariant-loop-i l = Leading 0 l.s l.at l.v l.i
