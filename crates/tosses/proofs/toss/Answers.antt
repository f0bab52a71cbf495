-- The next value chooses a target, or none.
use Rattle.std.proofs.Common.{rules, refl, ◌≡◌, sym, ap, ◌∙◌, w32, of_z, SFits, ◌+◌}
use Rattle.std.proofs.lemmas.Option.{slice_get_read}
use Rattle.std.specs.Prelude.{length, slice_get, Ok, Some}
use Rattle.table.specs.Mask.{members}
use Rattle.values.proofs.Again.{again}
use Rattle.tosses.specs.declared.Target.{Target}
use Rattle.tosses.specs.Tosses.{chosen, tossed}
use Rattle.tosses.specs.TossLaws.{nth_lt}
use Rattle.tosses.proofs.Arcs.{target_is}
use Rattle.tosses.proofs.toss.Goals as goal

pub met-requires : goal.met-requires
met-requires c = nth_lt c.args.arc c.bits_of.result c.in-Some-nth.j (sym c.nth.ensures ∙ c.in-Some-nth.is)

pub returns : goal.returns
returns c = let a = c.args in
    let x = c.in-Some.x.now in
    let f : SFits w32 x = search rules in
    let l = c.in-Some.ensures.lookup in
    let g : slice_get a.values.now a.used ≡ Some x = slice_get_read a.values.now (length a.values.now) a.used x refl l.3.0 l.1 in
    let t = ap (slice_get (members a.arc)) (c.bits_of.ensures ∙ ap (of_z w32) (again x f)) ∙ target_is a.arc x f in
    ap (λ (o : Target). Ok (o, a.used + 1)) c.met.ensures ∙ ap (chosen a.keep (a.used + 1)) (sym c.in-Some-nth.is ∙ c.nth.ensures ∙ t) ∙ ap (tossed (members a.arc) a.keep a.used) (sym g)
