use Rattle.std.proofs.Common.{arith}
use Rattle.put.specs.PutLaws.{put_after, put_more}
use Rattle.graphs.proofs.put_opening.Goals as goal

pub returns : goal.returns
returns c = put_more (omega arith) (put_after c.put_text-a.ensures (put_after c.put_text-b.ensures c.put_text.ensures))
