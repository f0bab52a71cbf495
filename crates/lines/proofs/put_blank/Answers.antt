use Rattle.std.proofs.Common.{arith}
use Rattle.put.specs.PutLaws.{put_more}
use Rattle.lines.proofs.put_blank.Goals as goal

pub returns-then-not-closed : goal.returns-then-not-closed
returns-then-not-closed c = rw c.if-not-closed.true (put_more (omega arith) c.put_byte.ensures)

pub returns-then-blank : goal.returns-then-blank
returns-then-blank c = rw (c.if-not-closed.false, c.if-blank.true) (put_more (omega arith) c.put_text.ensures)

pub returns-else-blank : goal.returns-else-blank
returns-else-blank c = rw (c.if-not-closed.false, c.if-blank.false) (put_more (omega arith) c.put_text-else-blank.ensures)
