use Rattle.std.proofs.Common.{rules}
use Rattle.operands.specs.OperandLaws.{operand_named, by_refused, by_is}
use Rattle.operands.proofs.operand_at.Goals as goal

pub returns-then-b-eq118 : goal.returns-then-b-eq118
returns-then-b-eq118 c = search (rules, operand_named)

pub returns-in_err-x : goal.returns-in_err-x
returns-in_err-x c = search (rules, by_refused c.in_err-x.ensures c.args.at c.args.vars (search rules) c.digits_from.ensures)

pub returns : goal.returns
returns c = search (rules, by_is c.in_ok-x.ensures)
