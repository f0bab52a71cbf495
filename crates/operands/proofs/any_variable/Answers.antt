use Rattle.std.proofs.Common.{rules}
use Rattle.operands.specs.OperandLaws.{variable_refused, variable_step}
use Rattle.operands.proofs.any_variable.Goals as goal

pub returns-in_err-b : goal.returns-in_err-b
returns-in_err-b c = search (rules, variable_refused c.in_err-b.ensures c.args.closed c.args.vars)

pub returns : goal.returns
returns c = search (rules, variable_step c.in_ok-b.ensures)
