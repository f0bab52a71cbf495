use Rattle.std.proofs.Common.{◌≡◌, not}
use Rattle.table.specs.Mask.{mask_of}
use Rattle.table.specs.Table.{node_in, is_absent}
use Rattle.late_lines.proofs.present.Given as goal

abbrev pub invariant-loop-n : goal.invariant-loop-n
invariant-loop-n l = l.m ≡ mask_of l.n (λ i. not (is_absent (node_in l.fn.q i)))
