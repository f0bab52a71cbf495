use Rattle.std.proofs.Common.{sym, length-take-le, arith}
use Rattle.vectors.proofs.print.Goals as goal

-- src/main.rt:65:22
pub slice_bounds-write_all-end : goal.slice_bounds-write_all-end
slice_bounds-write_all-end c = let e = c.close_text-n.ensures in sym (length-take-le _ _ (omega (arith, e.few, e.next, e.same)))
