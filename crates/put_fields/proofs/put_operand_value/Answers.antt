use Rattle.std.proofs.Common.{rules}
use Rattle.put_fields.proofs.put_operand_value.Goals as goal

pub returns : goal.returns
returns c = c.put_filled.ensures _ _ (search rules)
