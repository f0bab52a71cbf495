use Rattle.std.proofs.Common.{rules}
use Rattle.put_fields.specs.DigitLaws.{few_one, few_two, few_three, few_four}
use Rattle.put_fields.proofs.fill_few.Goals as goal

pub returns-then-n-lt10 : goal.returns-then-n-lt10
returns-then-n-lt10 c = search (rules, few_one)

pub returns-then-n-lt100 : goal.returns-then-n-lt100
returns-then-n-lt100 c = search (rules, few_two)

pub returns-then-n-lt1000 : goal.returns-then-n-lt1000
returns-then-n-lt1000 c = search (rules, few_three)

pub returns : goal.returns
returns c = search (rules, few_four)
