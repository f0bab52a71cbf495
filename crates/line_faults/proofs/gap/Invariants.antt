use Rattle.line_faults.specs.LineLaws.{GapPassed}
use Rattle.line_faults.proofs.gap.Given as goal

abbrev pub invariant-loop-i : goal.invariant-loop-i
invariant-loop-i l = GapPassed l.last l.q l.j l.i
