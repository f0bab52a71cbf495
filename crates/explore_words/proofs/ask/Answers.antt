-- `explore_words::ask` reads the words from the left.
use Rattle.std.proofs.Common.{◌≡◌, Some, None, Err, sym, ◌∙◌, arith}
use Rattle.arguments.specs.ItemLaws.{heard_some, heard_none}
use Rattle.explore_words.specs.declared.Word.TheVariants.{Depth, Bound}
use Rattle.explore_words.specs.WordsLaws.{depth_missing, depth_unread, bound_missing, bound_unread, words_further, words_ask}
use Rattle.explore_words.proofs.ask.Goals as goal

pub returns-then-n-eq0 : goal.returns-then-n-eq0
returns-then-n-eq0 c = let x = c.args in depth_missing x.first.now x.second.now x.n c.if-n-eq0.true

pub returns-in_err-depth : goal.returns-in_err-depth
returns-in_err-depth c =
    let x = c.args in
    let e : c.up_to.result ≡ None = grind arith in
    let q : c.from_residual.result ≡ Err Depth = grind arith in
    rw q (depth_unread x.first.now x.second.now x.n c.if-n-eq0.false (heard_none _ (sym e ∙ c.up_to.ensures)))

pub returns-then-left-eq0 : goal.returns-then-left-eq0
returns-then-left-eq0 c =
    let x = c.args in
    let e : c.up_to.result ≡ Some c.in_ok-depth.depth = grind arith in
    bound_missing x.first.now x.second.now x.n c.if-n-eq0.false (heard_some _ (sym e ∙ c.up_to.ensures)) c.if-left-eq0.true

pub returns-in_err-bound : goal.returns-in_err-bound
returns-in_err-bound c =
    let x = c.args in
    let e : c.up_to.result ≡ Some c.in_ok-depth.depth = grind arith in
    let f : c.up_to-2.result ≡ None = grind arith in
    let q : c.from_residual-in_err-bound.result ≡ Err Bound = grind arith in
    rw q (bound_unread x.first.now x.second.now x.n c.if-n-eq0.false (heard_some _ (sym e ∙ c.up_to.ensures)) c.if-left-eq0.false (heard_none _ (sym f ∙ c.up_to-2.ensures)))

pub returns-then-further : goal.returns-then-further
returns-then-further c =
    let x = c.args in
    let e : c.up_to.result ≡ Some c.in_ok-depth.depth = grind arith in
    let f : c.up_to-2.result ≡ Some c.in_ok-bound.bound = grind arith in
    words_further x.first.now x.second.now x.n c.if-n-eq0.false (heard_some _ (sym e ∙ c.up_to.ensures)) c.if-left-eq0.false (heard_some _ (sym f ∙ c.up_to-2.ensures)) c.if-further.true

pub returns : goal.returns
returns c =
    let x = c.args in
    let e : c.up_to.result ≡ Some c.in_ok-depth.depth = grind arith in
    let f : c.up_to-2.result ≡ Some c.in_ok-bound.bound = grind arith in
    words_ask x.first.now x.second.now x.n c.if-n-eq0.false (heard_some _ (sym e ∙ c.up_to.ensures)) c.if-left-eq0.false (heard_some _ (sym f ∙ c.up_to-2.ensures)) c.if-further.false
