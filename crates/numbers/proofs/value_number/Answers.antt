use Rattle.std.proofs.Common.{rules}
use Rattle.numbers.specs.NumeralLaws.{numeral_short}
use Rattle.numbers.proofs.value_number.Goals as goal

pub returns-in-Some : goal.returns-in-Some
returns-in-Some c = search (rules, numeral_short _ _ c.in-Some.ensures)
