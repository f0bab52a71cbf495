use Rattle.std.proofs.Common.{rules}
use Rattle.digits.specs.LeadLaws.{first_once, first_small, first_within, first_twice}
use Rattle.digits.proofs.first_digits.Goals as goal

pub returns-then-four-at : goal.returns-then-four-at
returns-then-four-at c = search (rules, first_once)

pub four_more-requires : goal.four_more-requires
four_more-requires c = search (rules, first_small, first_within)

pub returns : goal.returns
returns c = search (rules, first_twice)
