use Rattle.std.proofs.Common.{arith}
use Rattle.put.specs.PutLaws.{put_after, put_more}
use borrow.Author.Tests.{eq-eqb, ne_eqb}
use Rattle.edges.proofs.put_solid_end.Goals as goal

pub returns-then-word-eq0 : goal.returns-then-word-eq0
returns-then-word-eq0 c = rw (eq-eqb _ 0 c.if-word-eq0.true) (put_more (omega arith) c.put_text.ensures)

pub returns : goal.returns
returns c = rw (ne_eqb _ 0 c.if-word-eq0.false) (put_more (omega arith) (put_after c.put_text-a.ensures (put_after c.put_text-b.ensures c.put_text-2.ensures)))
