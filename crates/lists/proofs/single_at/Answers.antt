use Rattle.std.proofs.Common.{sym, ◌∙◌}
use Rattle.numbers.specs.NumeralLaws.{short_within}
use Rattle.lists.specs.ShortLaws.{single_at}
use Rattle.lists.proofs.single_at.Goals as goal

pub bounds-s-to : goal.bounds-s-to
bounds-s-to c = short_within _ _ (sym c.in-Some.is ∙ c.short_number.ensures)

pub returns-in-Some : goal.returns-in-Some
returns-in-Some c =
    single_at c.args.s.now c.args.at c.args.lo c.args.below (sym c.in-Some.is ∙ c.short_number.ensures) c.requires.0 c.requires.1 c.stops.ensures c.if-stops.true c.one_of.ensures
