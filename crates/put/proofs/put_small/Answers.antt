use Rattle.std.proofs.Common.{rules}
use Rattle.put.specs.PutLaws.{put_digit}
use Rattle.put.proofs.put_small.Goals as goal

pub returns-then-n-lt10 : goal.returns-then-n-lt10
returns-then-n-lt10 c = search (rules, put_digit)
