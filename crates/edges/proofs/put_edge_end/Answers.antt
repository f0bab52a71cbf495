use Rattle.std.proofs.Common.{arith}
use Rattle.put.specs.PutLaws.{put_after, put_more, field_then}
use Rattle.edges.proofs.put_edge_end.Goals as goal

pub returns-then-toss : goal.returns-then-toss
returns-then-toss c = rw c.if-toss.true (put_more (omega arith) (put_after c.put_text-a.ensures (put_after c.put_text-b.ensures (field_then c.put_count-c.ensures c.put_text.ensures))))

pub returns : goal.returns
returns c = rw c.if-toss.false (put_more (omega arith) c.put_solid_end.ensures)
