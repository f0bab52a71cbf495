-- `explore_text::explore_text` refuses a text, or explores its table, which has no fault.
use Rattle.explore_text.specs.TextLaws.{text_sound, text_refused, text_explored, prints_bound}
use Rattle.explore_text.proofs.explore_text.Goals as goal

pub returns-then-r-ne0 : goal.returns-then-r-ne0
returns-then-r-ne0 c = text_refused _ _ _ c.read-r.ensures c.if-r-ne0.true c.put_refused.ensures

pub explore_table-requires : goal.explore_table-requires
explore_table-requires c = text_sound _ 0 0 c.read-r.ensures c.if-r-ne0.false

pub returns-in-Some : goal.returns-in-Some
returns-in-Some c = text_explored _ _ _ c.read-r.ensures c.if-r-ne0.false c.in-Some.ensures.printed

pub returns-in-None : goal.returns-in-None
returns-in-None c = text_explored _ _ _ c.read-r.ensures c.if-r-ne0.false (prints_bound c.in-None.ensures c.put_refused-in-None.ensures)
