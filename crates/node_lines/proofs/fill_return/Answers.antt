use Rattle.std.proofs.Common.{arith}
use Rattle.put.specs.PutLaws.{put_more}
use Rattle.node_lines.specs.NodeLineLaws.{index_then}
use Rattle.node_lines.proofs.fill_return.Goals as goal

pub returns : goal.returns
returns c = put_more (omega arith) (index_then _ c.fill_index-a.ensures c.fill_text.ensures)
