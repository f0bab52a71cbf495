use Rattle.std.proofs.Common.{arith}
use Rattle.put.specs.PutLaws.{put_more, put_after}
use Rattle.node_lines.specs.NodeLineLaws.{index_then}
use Rattle.node_lines.proofs.fill_variable_node.Goals as goal

pub returns : goal.returns
returns c = put_more (omega arith) (index_then _ c.fill_index-a.ensures (put_after c.fill_text-b.ensures (put_after c.fill_variable-c.ensures c.fill_arc.ensures)))
