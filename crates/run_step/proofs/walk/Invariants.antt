use Rattle.std.proofs.Common.{◌-◌}
use Rattle.run_step.specs.Walks.{Midway}
use Rattle.run_step.proofs.walk.Given as goal

abbrev pub invariant-loop-k : goal.invariant-loop-k
invariant-loop-k l = Midway l.code l.words l.base l.keep l.first l.initial.w l.values l.before l.most l.w l.n l.used (l.most - l._k)
