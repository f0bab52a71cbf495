use Rattle.std.proofs.Common.{rules}
use Rattle.numbers.specs.NumeralLaws.{short_few, short_none, short_one, short_zero, short_two}
use Rattle.numbers.proofs.short_number.Goals as goal

pub returns-then-u-at-lt3 : goal.returns-then-u-at-lt3
returns-then-u-at-lt3 c = search (rules, short_few)

pub returns-then-a-gt9 : goal.returns-then-a-gt9
returns-then-a-gt9 c = search (rules, short_none)

pub returns-then-b-gt9 : goal.returns-then-b-gt9
returns-then-b-gt9 c = search (rules, short_one)

pub returns-then-a-eq0 : goal.returns-then-a-eq0
returns-then-a-eq0 c = search (rules, short_zero)

pub returns : goal.returns
returns c = search (rules, short_two)
