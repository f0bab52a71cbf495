use Rattle.std.proofs.Common.{rules}
use Rattle.operands.specs.OperandLaws.{variable_unfound, variable_found}
use Rattle.operands.proofs.variable_field.Goals as goal

pub returns-in_err-b : goal.returns-in_err-b
returns-in_err-b c = search (rules, variable_unfound c.in_err-b.ensures c.args.closed c.args.vars)

pub returns : goal.returns
returns c = search (rules, variable_found c.in_ok-b.ensures)
