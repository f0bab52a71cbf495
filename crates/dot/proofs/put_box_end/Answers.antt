use Rattle.std.proofs.Common.{arith}
use Rattle.put.specs.PutLaws.{put_more}
use Rattle.dot.proofs.put_box_end.Goals as goal

pub returns-then-kept : goal.returns-then-kept
returns-then-kept c = rw c.if-kept.true (put_more (omega arith) c.put_text.ensures)

pub returns : goal.returns
returns c = rw c.if-kept.false (put_more (omega arith) c.put_text-2.ensures)
