-- Each number's words are those that the definition has.
use Rattle.std.proofs.Common.{arith}
use Rattle.reasons.specs.ReasonLaws.{words_of}
use Rattle.reasons.proofs.put_runner.Goals as goal

pub returns-in-10 : goal.returns-in-10
returns-in-10 c = words_of 10 c.in-10.is (omega arith) c.put_bytes.ensures

pub returns-in-11 : goal.returns-in-11
returns-in-11 c = words_of 11 c.in-11.is (omega arith) c.put_bytes-in-11.ensures

pub returns-in-12 : goal.returns-in-12
returns-in-12 c = words_of 12 c.in-12.is (omega arith) c.put_bytes-in-12.ensures

pub returns-in-13 : goal.returns-in-13
returns-in-13 c = words_of 13 c.in-13.is (omega arith) c.put_bytes-in-13.ensures

pub returns-in-14 : goal.returns-in-14
returns-in-14 c = words_of 14 c.in-14.is (omega arith) c.put_bytes-in-14.ensures

pub returns-in-15 : goal.returns-in-15
returns-in-15 c = words_of 15 c.in-15.is (omega arith) c.put_bytes-in-15.ensures

pub returns-in_default : goal.returns-in_default
returns-in_default c = words_of 16 (omega arith) (omega arith) c.put_bytes-in_default.ensures
