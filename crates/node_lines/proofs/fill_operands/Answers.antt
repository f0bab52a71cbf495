use Rattle.put.specs.PutLaws.{put_after}
use Rattle.node_lines.specs.NodeLineLaws.{put_end}
use Rattle.node_lines.proofs.fill_operands.Goals as goal

pub returns : goal.returns
returns c = put_after c.fill_text-a.ensures (put_after c.fill_op-b.ensures (put_after c.fill_text-c.ensures (put_after c.fill_operand-d.ensures (put_after c.fill_text-e.ensures (put_end c.fill_operand.ensures)))))
