use Rattle.put.specs.PutLaws.{field_then}
use Rattle.edges.proofs.put_name.Goals as goal

pub returns : goal.returns
returns c = field_then c.put_count-a.ensures c.put_count.ensures.put
