use Rattle.std.proofs.Common.{arith}
use Rattle.put.specs.PutLaws.{put_after, put_more, field_then}
use Rattle.dot.proofs.put_box.Goals as goal

pub returns : goal.returns
returns c = put_more (omega arith) (put_after c.put_name-a.ensures (field_then c.put_count-b.ensures (put_after c.put_byte-c.ensures (put_after c.put_says-d.ensures (put_after c.put_box_mark-e.ensures c.put_box_end.ensures)))))
