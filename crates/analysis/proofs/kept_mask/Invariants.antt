use Rattle.std.proofs.Common.{◌≡◌}
use Rattle.analysis.specs.Steps.{kept_in}
use Rattle.table.specs.Mask.{mask_of}
use Rattle.analysis.proofs.kept_mask.Given as goal

abbrev pub invariant-loop-n : goal.invariant-loop-n
invariant-loop-n l = l.m ≡ mask_of l.n (kept_in l.fn.q l.base l.cells)
