use Rattle.std.proofs.Common.{◌-◌, length}
use Rattle.lists.specs.PassingLaws.{Going}
use Rattle.lists.proofs.passing.Given as goal

abbrev pub invariant-loop-v : goal.invariant-loop-v
invariant-loop-v l = Going l.closed l.vars l.e l.t l.from l.args

abbrev pub decreases-loop-v : goal.decreases-loop-v
decreases-loop-v l = length l.t - l.from
