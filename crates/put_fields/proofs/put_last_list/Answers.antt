use Rattle.std.proofs.Common.{arith}
use Rattle.put.specs.PutLaws.{field_end}
use Rattle.put_fields.proofs.put_last_list.Goals as goal

pub returns : goal.returns
returns c = field_end (omega arith) c.put_list-a.ensures c.put_byte.ensures
