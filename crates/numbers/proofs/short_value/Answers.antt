use Rattle.std.proofs.Common.{rules}
use Rattle.numbers.specs.NumeralLaws.{short_no, short_within, short_space, short_other}
use Rattle.numbers.proofs.short_value.Goals as goal

pub returns-in_err-v : goal.returns-in_err-v
returns-in_err-v c = search (rules, short_no _ _ c.in_err-v.ensures)

pub bounds-s-e : goal.bounds-s-e
bounds-s-e c = search (rules, short_within _ _ c.in_ok-v.ensures)

pub returns-then-s-e-eq32 : goal.returns-then-s-e-eq32
returns-then-s-e-eq32 c = search (rules, short_space _ _ c.in_ok-v.ensures)

pub returns-else-s-e-eq32 : goal.returns-else-s-e-eq32
returns-else-s-e-eq32 c = search (rules, short_other _ _ c.in_ok-v.ensures)
