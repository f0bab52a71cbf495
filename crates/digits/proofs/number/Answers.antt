use Rattle.std.proofs.Common.{rules}
use Rattle.digits.specs.ReadLaws.{number_none, number_zero, number_digits}
use Rattle.digits.proofs.number.Goals as goal

pub returns-then-is_empty : goal.returns-then-is_empty
returns-then-is_empty c = search (rules, number_none)

pub returns-then-t-gt1 : goal.returns-then-t-gt1
returns-then-t-gt1 c = search (rules, number_zero)

pub returns : goal.returns
returns c = search (rules, number_digits)
