use Rattle.std.proofs.Common.{rules}
use Rattle.numbers.specs.NumeralLaws.{spelt_none, spelt_zero, spelt_is}
use Rattle.numbers.proofs.spelt.Goals as goal

pub returns-then-e-at : goal.returns-then-e-at
returns-then-e-at c = search (rules, spelt_none)

pub returns-then-at-e : goal.returns-then-at-e
returns-then-at-e c = search (rules, spelt_zero)

pub returns : goal.returns
returns c = search (rules, spelt_is)
