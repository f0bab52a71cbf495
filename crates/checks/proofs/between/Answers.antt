use Rattle.checks.specs.ValueChecks.{range_in, range_off}
use Rattle.checks.proofs.between.Goals as goal

pub returns-then-v-lo : goal.returns-then-v-lo
returns-then-v-lo c = range_off _ _ _ c.then-v-lo.either

pub returns : goal.returns
returns c = range_in _ _ _ c.if-v-lo.false c.if-hi-v.false
