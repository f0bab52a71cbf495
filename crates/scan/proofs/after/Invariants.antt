use Rattle.scan.specs.PlaceLaws.{Matching}
use Rattle.scan.proofs.after.Given as goal

abbrev pub invariant-loop-j : goal.invariant-loop-j
invariant-loop-j l = Matching l.key l.s l.at l.j
