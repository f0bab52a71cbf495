-- Each number's words are those that the definition has.
use Rattle.std.proofs.Common.{arith}
use Rattle.reasons.specs.ReasonLaws.{words_of}
use Rattle.reasons.proofs.put_later.Goals as goal

pub returns-in-17 : goal.returns-in-17
returns-in-17 c = words_of 17 c.in-17.is (omega arith) c.put_bytes.ensures

pub returns-in-18 : goal.returns-in-18
returns-in-18 c = words_of 18 c.in-18.is (omega arith) c.put_bytes-in-18.ensures

pub returns-in-19 : goal.returns-in-19
returns-in-19 c = words_of 19 c.in-19.is (omega arith) c.put_bytes-in-19.ensures

pub returns-in_default : goal.returns-in_default
returns-in_default c = words_of 20 (omega arith) (omega arith) c.put_bytes-in_default.ensures
