use Rattle.std.proofs.Common.{rules}
use Rattle.numbers.specs.NumeralLaws.{digits_to_lem}
use Rattle.numbers.proofs.numeral_at.Goals as goal

pub spelt-requires : goal.spelt-requires
spelt-requires c = search (rules, digits_to_lem)
