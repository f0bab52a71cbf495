use Rattle.std.proofs.Common.{arith}
use Rattle.put.specs.PutLaws.{put_after, put_more, field_then}
use Rattle.labels.proofs.put_pass.Goals as goal

pub returns : goal.returns
returns c = put_more (omega arith) (field_then c.put_count-a.ensures (put_after c.put_byte-b.ensures c.put_variable.ensures))
