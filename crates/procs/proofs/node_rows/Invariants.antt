use Rattle.std.proofs.Common.{◌-◌}
use Rattle.nodes.specs.Answer.{scope_in}
use Rattle.procs.specs.NodesLaws.{Noding}
use Rattle.procs.proofs.node_rows.Given as goal

abbrev pub invariant-loop-c : goal.invariant-loop-c
invariant-loop-c l = Noding (scope_in l.c) l.c.closed l.s l.at l.line l.slots l.p l.l l.next

abbrev pub decreases-loop-c : goal.decreases-loop-c
decreases-loop-c l = l.n - l.next
