use Rattle.std.proofs.Common.{arith}
use borrow.Author.Tests.{eq-eqb, ne_eqb}
use Rattle.put.specs.PutLaws.{put_more}
use Rattle.clusters.proofs.put_top.Goals as goal

pub returns-then-i-ne0 : goal.returns-then-i-ne0
returns-then-i-ne0 c = rw (ne_eqb _ 0 c.if-i-ne0.true) (put_more (omega arith) c.put_count.ensures.put)

pub returns-then-several : goal.returns-then-several
returns-then-several c = rw (eq-eqb _ 0 c.if-i-ne0.false, c.if-several.true) (put_more (omega arith) c.put_count-then-several.ensures.put)

pub returns-else-several : goal.returns-else-several
returns-else-several c = rw (eq-eqb _ 0 c.if-i-ne0.false, c.if-several.false) (put_more (omega arith) c.put_count-else-several.ensures.put)
