use Rattle.std.proofs.Common.{arith}
use Rattle.put_fields.specs.DigitLaws.{ten_four, ten_eight}
use Rattle.put_fields.proofs.fill_number.Goals as goal

pub returns-then-q-lt10000 : goal.returns-then-q-lt10000
returns-then-q-lt10000 c = ten_four c.args.n (omega arith) (omega arith) c.fill_few-a.ensures c.fill_four.ensures

pub returns : goal.returns
returns c = ten_eight c.args.n (omega arith) (omega arith) c.fill_few-a-2.ensures c.fill_four-b.ensures c.fill_four-2.ensures
