-- Each number's words are those that the definition has.
use Rattle.std.proofs.Common.{arith}
use Rattle.reasons.specs.ReasonLaws.{words_of}
use Rattle.reasons.proofs.put_reader.Goals as goal

pub returns-in-1 : goal.returns-in-1
returns-in-1 c = words_of 1 c.in-1.is (omega arith) c.put_bytes.ensures

pub returns-in-2 : goal.returns-in-2
returns-in-2 c = words_of 2 c.in-2.is (omega arith) c.put_bytes-in-2.ensures

pub returns-in-3 : goal.returns-in-3
returns-in-3 c = words_of 3 c.in-3.is (omega arith) c.put_bytes-in-3.ensures

pub returns-in-4 : goal.returns-in-4
returns-in-4 c = words_of 4 c.in-4.is (omega arith) c.put_bytes-in-4.ensures

pub returns-in-5 : goal.returns-in-5
returns-in-5 c = words_of 5 c.in-5.is (omega arith) c.put_bytes-in-5.ensures

pub returns-in-6 : goal.returns-in-6
returns-in-6 c = words_of 6 c.in-6.is (omega arith) c.put_bytes-in-6.ensures

pub returns-in_default : goal.returns-in_default
returns-in_default c = words_of 7 (omega arith) (omega arith) c.put_bytes-in_default.ensures
