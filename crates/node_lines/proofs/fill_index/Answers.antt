use Rattle.put.specs.PutLaws.{put_after}
use Rattle.node_lines.specs.NodeLineLaws.{put_end}
use Rattle.node_lines.proofs.fill_index.Goals as goal

pub returns : goal.returns
returns c = put_after c.fill_text-a.ensures (put_end c.fill_small.ensures)
