-- What was read of the next part.
use Rattle.std.proofs.Common.{rules}
use Rattle.parts.specs.PartLaws.{word_is}
use Rattle.parts.proofs.word.Goals as goal

pub returns-in-Ok : goal.returns-in-Ok
returns-in-Ok c = search (rules, word_is)

pub returns-in-Err : goal.returns-in-Err
returns-in-Err c = search (rules, word_is)

pub returns-in-Ok-2 : goal.returns-in-Ok-2
returns-in-Ok-2 c = search (rules, word_is)
