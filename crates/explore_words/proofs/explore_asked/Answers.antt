use Rattle.explore_text.specs.TextLaws.{text_sound, text_refused, text_explored}
use Rattle.explore_words.proofs.explore_asked.Goals as goal

pub returns-then-r-ne0 : goal.returns-then-r-ne0
returns-then-r-ne0 c = text_refused _ _ _ c.read-r.ensures c.if-r-ne0.true c.put_refused.ensures

pub explore_loudly-requires : goal.explore_loudly-requires
explore_loudly-requires c = text_sound _ 0 0 c.read-r.ensures c.if-r-ne0.false

pub returns : goal.returns
returns c = text_explored _ _ _ c.read-r.ensures c.if-r-ne0.false c.explore_loudly.ensures
