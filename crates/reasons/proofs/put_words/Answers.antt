-- The words, then an LF.
use Rattle.std.proofs.Common.{rules}
use Rattle.reasons.specs.ReasonLaws.{words_end}
use Rattle.reasons.proofs.put_words.Goals as goal

pub returns : goal.returns
returns c = search (rules, words_end)
