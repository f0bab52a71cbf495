use Rattle.std.proofs.Common.{rules}
use Rattle.words.specs.WordLaws.{kind_told, kind_untold}
use Rattle.words.proofs.any_kind.Goals as goal

pub returns-in_err-k : goal.returns-in_err-k
returns-in_err-k c = search (rules, kind_untold c.in_ok-from.ensures c.kind_named.ensures c.in_err-k.ensures.value)

pub returns : goal.returns
returns c = kind_told c.in_ok-from.ensures c.kind_named.ensures c.in_ok-k.ensures.value
