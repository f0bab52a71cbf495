use Rattle.std.proofs.Common.{bit_and, ◌^◌}
use Rattle.masks.specs.Cells.{Filled}
use Rattle.reach.proofs.own.Given as goal

abbrev pub invariant-loop-i : goal.invariant-loop-i
invariant-loop-i l = Filled (λ a. bit_and l.kept (2 ^ a)) l.i l.cell-items
