use Rattle.std.proofs.Common.{arith}
use Rattle.put.specs.PutLaws.{field_of}
use Rattle.put_fields.specs.DigitLaws.{number_room, put_twenty}
use Rattle.put_fields.proofs.put_size.Goals as goal

pub put_number-requires : goal.put_number-requires
put_number-requires c = number_room _ _ (omega arith) (omega arith)

pub returns : goal.returns
returns c = field_of c.put_text-a.ensures (put_twenty _ (omega arith) c.put_number.ensures)
