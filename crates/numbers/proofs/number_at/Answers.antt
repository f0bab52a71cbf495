use Rattle.std.proofs.Common.{rules}
use Rattle.numbers.specs.ValueLaws.{number_refused, number_is}
use Rattle.numbers.proofs.number_at.Goals as goal

pub returns-in_err-v : goal.returns-in_err-v
returns-in_err-v c = search (rules, number_refused c.in_err-v.ensures c.args.lo c.args.below c.args.fault)

pub returns : goal.returns
returns c = search (rules, number_is c.in_ok-v.ensures)
