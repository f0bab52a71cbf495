use Rattle.std.proofs.Common.{arith}
use Rattle.masks.specs.Bits.{one_shl}
use Rattle.targets.specs.ListChecks.{dropped_in, dropped_out, dropped_all}
use Rattle.targets.proofs.dropped.Goals as goal
use Rattle.targets.proofs.dropped.Goals.{else-params-lt8-via-then-params-lt8+else-params-from, else-params-lt8-via-else-params-lt8}

pub returns-then-params-from : goal.returns-then-params-from
returns-then-params-from c = dropped_out c.args.params c.args.m (omega arith) (omega (arith, one_shl 32 c.args.params (omega arith)))

pub returns : goal.returns
returns c = elim c.else-params-lt8.branch [
  | else-params-lt8-via-then-params-lt8+else-params-from w ↦ dropped_in c.args.params c.args.m (omega arith) (omega (arith, one_shl 32 c.args.params (omega arith)))
  | else-params-lt8-via-else-params-lt8 w ↦ dropped_all c.args.params c.args.m (omega arith) (omega arith)
]
