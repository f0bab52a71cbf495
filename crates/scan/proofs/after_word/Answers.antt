use Rattle.std.proofs.Common.{rules}
use Rattle.scan.specs.PlaceLaws.{word_refused, word_found}
use Rattle.scan.proofs.after_word.Goals as goal

pub returns-in_err-e : goal.returns-in_err-e
returns-in_err-e c = search (rules, word_refused)

pub returns : goal.returns
returns c = search (rules, word_found)
