-- The number at a place, by what the value there spells.
use Rattle.reasons.specs.ReasonLaws.{count_low, count_high, count_good, count_unread}
use Rattle.reasons.proofs.count_in.Goals as goal
use Rattle.reasons.proofs.count_in.Goals.{then-v-lo-via-then-v-lo, then-v-lo-via-else-v-lo+then-hi-v}

pub returns-in_default : goal.returns-in_default
returns-in_default c = count_unread _ _ c.in_default.ensures

pub returns-then-v-lo : goal.returns-then-v-lo
returns-then-v-lo c = elim c.then-v-lo.branch [ then-v-lo-via-then-v-lo w ↦ count_low c.in-Ok.ensures c.requires.1 w.if-v-lo.true | then-v-lo-via-else-v-lo+then-hi-v w ↦ count_high c.in-Ok.ensures c.requires.1 w.if-hi-v.true ]

pub returns : goal.returns
returns c = count_good c.in-Ok.ensures c.requires.1 c.if-v-lo.false c.if-hi-v.false
