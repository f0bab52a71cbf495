-- `explore_text::explore_ready` prints what the search finds, unless it meets its bound.
use Rattle.text.proofs.ShapeLaws.{shaped}
use Rattle.explore_answer.specs.Ready.{left_low}
use Rattle.explore_text.specs.Reached.{allowed_few, allowed_begins, reached, reached_stated, reached_state, reached_shown, reached_short}
use Rattle.explore_text.specs.TextLaws.{prints_met, prints_none, prints_found}
use Rattle.explore_text.proofs.explore_ready.Goals as goal

pub first-marks-requires : goal.first-marks-requires
first-marks-requires c = allowed_few c.requires

pub seek-r-requires : goal.seek-r-requires
seek-r-requires c = allowed_begins c.requires (shaped c.args.t (_, c.well_formed.0)) c.first-marks.ensures

pub returns-then-r-eq2 : goal.returns-then-r-eq2
returns-then-r-eq2 c = prints_met _ c.requires c.seek-r.ensures c.if-r-eq2.true

pub overflow_sub-tried : goal.overflow_sub-tried
overflow_sub-tried c = left_low _ c.requires c.seek-r.ensures

pub returns-then-r-eq0 : goal.returns-then-r-eq0
returns-then-r-eq0 c = prints_none _ c.requires c.seek-r.ensures c.if-r-eq0.true c.put_none-len.ensures

pub answer-a-requires : goal.answer-a-requires
answer-a-requires c = reached_stated c.requires (reached c.requires (shaped c.args.t (_, c.well_formed.0)) c.seek-r.ensures c.if-r-eq2.false c.if-r-eq0.false)

pub put_found-len-requires : goal.put_found-len-requires
put_found-len-requires c = let f = reached c.requires (shaped c.args.t (_, c.well_formed.0)) c.seek-r.ensures c.if-r-eq2.false c.if-r-eq0.false in
    (reached_shown c.requires f (reached_state c.requires f c.answer-a.ensures), reached_short c.requires f)

pub returns : goal.returns
returns c = let f = reached c.requires (shaped c.args.t (_, c.well_formed.0)) c.seek-r.ensures c.if-r-eq2.false c.if-r-eq0.false in
    prints_found _ c.requires f (reached_state c.requires f c.answer-a.ensures) c.put_found-len.ensures
