use Rattle.std.proofs.Common.{rules}
use Rattle.digits.specs.LeadLaws.{four_few, four_none, four_is}
use Rattle.digits.proofs.four_more.Goals as goal

pub returns-then-s-from-lt4 : goal.returns-then-s-from-lt4
returns-then-s-from-lt4 c = search (rules, four_few)

pub returns-then-a-gt9 : goal.returns-then-a-gt9
returns-then-a-gt9 c = search (rules, four_none)

pub returns : goal.returns
returns c = search (rules, four_is)
