-- Each number's words are those that the definition has.
use Rattle.std.proofs.Common.{arith}
use Rattle.reasons.specs.ReasonLaws.{words_of}
use Rattle.reasons.proofs.put_closer.Goals as goal

pub returns-in-8 : goal.returns-in-8
returns-in-8 c = words_of 8 c.in-8.is (omega arith) c.put_bytes.ensures

pub returns-in_default : goal.returns-in_default
returns-in_default c = words_of 9 (omega arith) (omega arith) c.put_bytes-in_default.ensures
