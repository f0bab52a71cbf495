use Rattle.std.proofs.Common.{arith}
use Rattle.put.specs.PutLaws.{put_after, put_more}
use Rattle.edges.proofs.put_dead_end.Goals as goal

pub returns : goal.returns
returns c = put_more (omega arith) (put_after c.put_name-a.ensures (put_after c.put_text-b.ensures (put_after c.put_name-c.ensures (put_after c.put_text-d.ensures (put_after c.put_name-e.ensures (put_after c.put_text-f.ensures c.put_solid_end.ensures))))))
