use Rattle.std.proofs.Common.{sym, arith}
use Rattle.put.specs.PutLaws.{put_more}
use Rattle.closed_text.specs.PrintLaws.{sound_read, printed_refused, printed_closed, printed_open}
use Rattle.closed_text.proofs.close_text.Goals as goal

pub returns-then-r-ne0 : goal.returns-then-r-ne0
returns-then-r-ne0 c = rw (← printed_refused _ _ c.read-r.ensures c.if-r-ne0.true) (put_more (omega arith) c.put_refused.ensures)

pub returns-then-r : goal.returns-then-r
returns-then-r c = rw (← printed_closed _ _ c.read-r.ensures c.if-r-ne0.false c.if-r.true) (put_more (omega arith) c.put_refused-then-r.ensures)

pub put_closed-requires : goal.put_closed-requires
put_closed-requires c = (sym (sound_read _ _ c.read-r.ensures c.if-r-ne0.false), c.if-r.false)

pub returns-else-r : goal.returns-else-r
returns-else-r c = rw (← printed_open _ _ c.read-r.ensures c.if-r-ne0.false c.if-r.false) c.put_closed.ensures
