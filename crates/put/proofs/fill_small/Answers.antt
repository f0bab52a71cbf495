use Rattle.std.proofs.Common.{rules}
use Rattle.put.specs.PutLaws.{put_digit, put_two, put_three}
use Rattle.put.proofs.fill_small.Goals as goal

pub returns-then-n-lt10 : goal.returns-then-n-lt10
returns-then-n-lt10 c = search (rules, put_digit)

pub returns-then-n-lt100 : goal.returns-then-n-lt100
returns-then-n-lt100 c = search (rules, put_two)

pub returns : goal.returns
returns c = search (rules, put_three)
