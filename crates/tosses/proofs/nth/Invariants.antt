use Rattle.std.proofs.Common.{◌≡◌, ◌-◌, ◌<◌}
use Rattle.std.specs.Prelude.{slice_get}
use Rattle.table.specs.Mask.{members}
use Rattle.tosses.proofs.nth.Given as goal

abbrev pub invariant-loop-k : goal.invariant-loop-k
invariant-loop-k l = (l.rest < 4294967296) × (slice_get (members l.m) l.i ≡ slice_get (members l.rest) (l.i - l._k))
