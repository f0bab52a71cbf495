use Rattle.std.proofs.Common.{sym, length-take-le, arith}
use Rattle.explore.proofs.say_word.Goals as goal

pub slice_bounds-say-end : goal.slice_bounds-say-end
slice_bounds-say-end c = let e = c.word_line-n.ensures in sym (length-take-le _ _ (omega (arith, e.few, e.next, e.same)))
