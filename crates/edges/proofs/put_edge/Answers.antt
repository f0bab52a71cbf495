use Rattle.put.specs.PutLaws.{put_after}
use Rattle.edges.proofs.put_edge.Goals as goal

pub returns : goal.returns
returns c = put_after c.put_name-a.ensures (put_after c.put_text-b.ensures (put_after c.put_name-c.ensures c.put_edge_end.ensures))
