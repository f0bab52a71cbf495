use Rattle.std.proofs.Common.{rules}
use Rattle.numbers.specs.NumeralLaws.{any_ended, any_misspelt, any_is}
use Rattle.numbers.proofs.any_numeral.Goals as goal

pub returns-in_err-b : goal.returns-in_err-b
returns-in_err-b c = search (rules, any_ended c.in_err-b.ensures c.requires)

pub returns-in_err-v : goal.returns-in_err-v
returns-in_err-v c = search (rules, any_misspelt c.in_ok-b.ensures c.number.ensures c.in_err-v.ensures.ok_part c.in_err-v.ensures.value)

pub returns : goal.returns
returns c = any_is c.in_ok-b.ensures c.number.ensures c.in_ok-v.ensures.ok_part
