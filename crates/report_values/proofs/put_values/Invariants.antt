use Rattle.report_values.specs.ValuesLaws.{Listing}
use Rattle.report_values.proofs.put_values.Given as goal

abbrev pub invariant-loop-i : goal.invariant-loop-i
invariant-loop-i l = Listing l.l l.initial.out l.at l.out l.p l.i
