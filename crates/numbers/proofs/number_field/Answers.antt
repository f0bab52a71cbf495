use Rattle.std.proofs.Common.{rules}
use Rattle.numbers.specs.ValueLaws.{number_unfound, number_found}
use Rattle.numbers.proofs.number_field.Goals as goal

pub returns-in_err-b : goal.returns-in_err-b
returns-in_err-b c = search (rules, number_unfound c.in_err-b.ensures c.args.lo c.args.below c.args.fault)

pub returns : goal.returns
returns c = search (rules, number_found c.in_ok-b.ensures)
