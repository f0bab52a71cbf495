use Rattle.std.proofs.Common.{◌^◌}
use Rattle.reach.specs.ReachLaws.{Search, Visits}
use Rattle.masks.specs.Left.{left}
use Rattle.reach.proofs.reach.Given as goal

abbrev pub invariant-loop-left : goal.invariant-loop-left
invariant-loop-left l = Visits l.kept l.gone l.ends l.cells l.from l.todo l.left

abbrev pub decreases-loop-left : goal.decreases-loop-left
decreases-loop-left l = l.left

abbrev pub invariant-loop-todo : goal.invariant-loop-todo
invariant-loop-todo l = Search l.kept l.ends l.cells l.todo

abbrev pub decreases-loop-todo : goal.decreases-loop-todo
decreases-loop-todo l = left 32 (2 ^ 32) l.cells l.todo
