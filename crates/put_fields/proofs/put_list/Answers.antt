use Rattle.put.specs.PutLaws.{field_of}
use Rattle.put_fields.proofs.put_list.Goals as goal

pub returns : goal.returns
returns c = field_of c.put_text-a.ensures c.put_list_value.ensures
