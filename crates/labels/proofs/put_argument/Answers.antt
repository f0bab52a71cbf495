use Rattle.put.specs.PutLaws.{put_after}
use Rattle.labels.proofs.put_argument.Goals as goal

pub returns : goal.returns
returns c = put_after c.put_byte-a.ensures c.put_variable.ensures
