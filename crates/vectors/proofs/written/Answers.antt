use Rattle.std.proofs.Common.{sym, length-take-le, arith}
use Rattle.vectors.proofs.written.Goals as goal

-- src/main.rt:44:17
pub slice_bounds-exact-end-2 : goal.slice_bounds-exact-end-2
slice_bounds-exact-end-2 c = sym (length-take-le _ _ (omega arith))

-- src/main.rt:45:14
pub slice_bounds-short-length : goal.slice_bounds-short-length
slice_bounds-short-length c = sym (length-take-le _ _ (omega arith))
