use Rattle.table.specs.Table.{node_in}
use Rattle.text.specs.Format.{describe}
use Rattle.text.specs.Structure.{place_fault}
use Rattle.checks.specs.NodeChecks.{scope_in}
use Rattle.line_faults.specs.Rows.{Passed}
use Rattle.line_faults.proofs.nodes.Given as goal

abbrev pub invariant-loop-j : goal.invariant-loop-j
invariant-loop-j l = Passed (λ j. place_fault (scope_in l.c) l.last l.q j (describe (scope_in l.c) (node_in l.q j))) l.q.nodes l.j
