use Rattle.put.specs.PutLaws.{put_after}
use Rattle.node_lines.proofs.fill_arc.Goals as goal

pub returns : goal.returns
returns c = put_after c.fill_text-a.ensures (put_after c.fill_list-b.ensures c.fill_byte.ensures)
