use Rattle.std.proofs.Common.{rules}
use Rattle.arguments.specs.OperandLaws.{operand_none, operand_var, operand_negative, operand_const}
use Rattle.arguments.proofs.operand_value.Goals as goal

pub returns-in-empty : goal.returns-in-empty
returns-in-empty c = search (rules, operand_none)

pub returns-in-118 : goal.returns-in-118
returns-in-118 c = search (rules, operand_var)

pub returns-in-45 : goal.returns-in-45
returns-in-45 c = search (rules, operand_negative)

pub returns-in_default : goal.returns-in_default
returns-in_default c = search (rules, operand_const)
