use Rattle.std.proofs.Common.{◌-◌, ◌^◌}
use Rattle.reached.specs.SearchLaws.{Search}
use Rattle.reached.proofs.nodes.Given as goal

abbrev pub invariant-loop-done : goal.invariant-loop-done
invariant-loop-done l = Search l.q l.seen l.done

abbrev pub decreases-loop-done : goal.decreases-loop-done
decreases-loop-done l = 2 ^ 32 - l.done
