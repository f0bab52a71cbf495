use Rattle.std.proofs.Common.{◌-◌, ◌≤◌, min, ◌≡◌}
use Rattle.explore_words.proofs.explore_loudly.Given as goal

abbrev pub invariant-loop-len : goal.invariant-loop-len
invariant-loop-len l = (l.out ≡ l.initial.out) × ((l.b ≤ l.most) × (min l.most 1 ≤ l.b))

abbrev pub decreases-loop-len : goal.decreases-loop-len
decreases-loop-len l = l.most - l.b
