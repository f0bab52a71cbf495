use Rattle.std.proofs.Common.{rules}
use Rattle.operands.specs.OperandLaws.{operand_unfound, operand_found}
use Rattle.operands.proofs.operand_field.Goals as goal

pub returns-in_err-b : goal.returns-in_err-b
returns-in_err-b c = search (rules, operand_unfound c.in_err-b.ensures c.args.vars)

pub returns : goal.returns
returns c = search (rules, operand_found c.in_ok-b.ensures)
