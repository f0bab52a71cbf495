use Rattle.std.proofs.Common.{sym, length-take-le, arith}
use Rattle.vectors.proofs.show.Goals as goal

-- src/main.rt:14:26
pub slice_bounds-write_all-end : goal.slice_bounds-write_all-end
slice_bounds-write_all-end c = let e = c.put_size-e.ensures.put in sym (length-take-le _ _ (omega (arith, e.same)))
