use Rattle.std.proofs.Common.{rules}
use Rattle.numbers.specs.ValueLaws.{number_unfound, number_found}
use Rattle.numbers.proofs.number_word.Goals as goal

pub returns-in_err-e : goal.returns-in_err-e
returns-in_err-e c = search (rules, number_unfound c.in_err-e.ensures c.args.lo c.args.below c.args.fault)

pub returns : goal.returns
returns c = search (rules, number_found c.in_ok-e.ensures)
