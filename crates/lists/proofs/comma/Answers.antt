use Rattle.std.proofs.Common.{rules, tests, refl}
use Rattle.std.proofs.lemmas.Iterator.{YieldsList-from_slice}
use Rattle.std.proofs.lemmas.Iterator.Search.{position_from_yields_List}
use Rattle.lists.specs.ItemLaws.{is_comma, comma_some, comma_none}
use Rattle.lists.proofs.comma.Goals as goal

pub returns-in-Some : goal.returns-in-Some
returns-in-Some c =
    comma_some c.args.t.now c.args.from c.requires refl
    (position_from_yields_List is_comma _ _ c.position.result c.position.ensures.ran (YieldsList-from_slice _ c.iter.ensures.rest) (λ x b q k. search (rules, tests)))
    c.in-Some.is

pub returns-in-None : goal.returns-in-None
returns-in-None c =
    comma_none c.args.t.now c.args.from c.requires refl
    (position_from_yields_List is_comma _ _ c.position.result c.position.ensures.ran (YieldsList-from_slice _ c.iter.ensures.rest) (λ x b q k. search (rules, tests)))
    c.in-None.is
