use Rattle.std.proofs.Common.{rules}
use Rattle.operands.specs.OperandLaws.{any_named, any_minus, any_plain}
use Rattle.operands.proofs.any_operand.Goals as goal

pub returns-in-118 : goal.returns-in-118
returns-in-118 c = search (rules, any_named)

pub returns-in-45 : goal.returns-in-45
returns-in-45 c = search (rules, any_minus)

pub returns-in_default : goal.returns-in_default
returns-in_default c = search (rules, any_plain)
