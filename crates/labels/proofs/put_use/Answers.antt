use Rattle.std.proofs.Common.{arith}
use Rattle.put.specs.PutLaws.{put_after, put_more}
use Rattle.labels.proofs.put_use.Goals as goal

pub returns : goal.returns
returns c = put_more (omega arith) (put_after c.put_text-a.ensures c.put_variable.ensures)
