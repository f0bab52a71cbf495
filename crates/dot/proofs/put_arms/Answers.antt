use Rattle.std.proofs.Common.{arith}
use Rattle.put.specs.PutLaws.{put_after, put_more}
use Rattle.dot.proofs.put_arms.Goals as goal

pub returns : goal.returns
returns c = put_more (omega arith) (put_after c.put_arc-a.ensures c.put_arc.ensures)
