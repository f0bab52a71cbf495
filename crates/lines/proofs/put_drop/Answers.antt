use Rattle.std.proofs.Common.{arith}
use Rattle.put.specs.PutLaws.{put_more}
use Rattle.lines.proofs.put_drop.Goals as goal

pub returns-then-closed : goal.returns-then-closed
returns-then-closed c = rw c.if-closed.true (put_more (omega arith) c.put_last_list.ensures.put)

pub returns : goal.returns
returns c = rw c.if-closed.false (put_more (omega arith) c.put_byte.ensures)
