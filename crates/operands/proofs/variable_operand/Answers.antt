use Rattle.std.proofs.Common.{rules}
use Rattle.operands.specs.OperandLaws.{named_refused, named_is}
use Rattle.operands.proofs.variable_operand.Goals as goal

pub returns-in_err-x : goal.returns-in_err-x
returns-in_err-x c = search (rules, named_refused c.in_err-x.ensures c.args.vars)

pub returns : goal.returns
returns c = search (rules, named_is c.in_ok-x.ensures)
