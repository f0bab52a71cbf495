use Rattle.std.proofs.Common.{◌≡◌, Some, sym, ◌∙◌, arith}
use Rattle.arguments.specs.ItemLaws.{heard_some, number_small}
use Rattle.log_word.proofs.last_words.Goals as goal

pub returns-clause-fits : goal.returns-clause-fits
returns-clause-fits c = let e : c.log.result ≡ Some c.in_ok-k.k = grind arith in number_small _ (heard_some _ (sym e ∙ c.log.ensures))
