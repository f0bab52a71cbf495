use Rattle.put.specs.PutLaws.{put_after}
use Rattle.labels.proofs.put_operation.Goals as goal

pub returns : goal.returns
returns c = put_after c.put_operand_value-a.ensures (put_after c.put_byte-b.ensures (put_after c.put_op_value-c.ensures (put_after c.put_byte-d.ensures c.put_operand_value.ensures)))
