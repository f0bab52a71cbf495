-- The digits of a number are those of n / 10000 and the last four.
use Rattle.std.proofs.Common.{rules}
use Rattle.put_fields.specs.DigitLaws.{large_room, last_room, number_four}
use Rattle.put_fields.proofs.+put_number.Goals as goal

pub put_number-next-requires : goal.put_number-next-requires
put_number-next-requires t c = search (rules, large_room)

pub put_four-requires : goal.put_four-requires
put_four-requires t c = (search (rules, last_room), search rules)

pub returns : goal.returns
returns t c = search (rules, number_four)
