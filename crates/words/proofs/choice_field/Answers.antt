use Rattle.std.proofs.Common.{rules}
use Rattle.words.specs.WordLaws.{choice_told, choice_untold}
use Rattle.words.proofs.choice_field.Goals as goal

pub returns-in_err-v : goal.returns-in_err-v
returns-in_err-v c = search (rules, choice_untold c.args.a.now c.args.b.now c.in_ok-from.ensures c.choice_named.ensures c.in_err-v.ensures.value)

pub returns : goal.returns
returns c = choice_told c.args.a.now c.args.b.now c.in_ok-from.ensures c.choice_named.ensures c.in_ok-v.ensures.value
