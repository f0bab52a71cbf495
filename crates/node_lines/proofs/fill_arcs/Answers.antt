use Rattle.put.specs.PutLaws.{put_after}
use Rattle.node_lines.proofs.fill_arcs.Goals as goal

pub returns : goal.returns
returns c = put_after c.fill_text-a.ensures (put_after c.fill_list-b.ensures (put_after c.fill_text-c.ensures (put_after c.fill_list-d.ensures c.fill_byte.ensures)))
