use Rattle.std.proofs.Common.{rules}
use Rattle.scan.specs.WordLaws.{word_same}
use Rattle.scan.proofs.is_word.Goals as goal

pub returns : goal.returns
returns c = search (rules, word_same)
