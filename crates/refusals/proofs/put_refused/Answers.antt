use Rattle.std.proofs.Common.{arith}
use Rattle.put.specs.PutLaws.{put_more, field_then}
use Rattle.refusals.proofs.put_refused.Goals as goal

pub returns : goal.returns
returns c = put_more (omega arith) (field_then c.put_count-a.ensures (field_then c.put_size-b.ensures c.put_byte.ensures))
