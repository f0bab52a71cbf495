use Rattle.std.proofs.Common.{arith}
use Rattle.put.specs.PutLaws.{put_more}
use Rattle.dot.proofs.put_plain.Goals as goal

pub returns : goal.returns
returns c = put_more (omega arith) (c.put_arc.ensures)
