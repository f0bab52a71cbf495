use Rattle.std.proofs.Common.{arith}
use Rattle.table.specs.Table.{node_in}
use Rattle.text.specs.Format.{describe}
use Rattle.checks.specs.NodeChecks.{scope_in}
use Rattle.line_faults.specs.LineLaws.{place_some, place_none}
use Rattle.line_faults.proofs.place.Goals as goal

pub returns-in-Some : goal.returns-in-Some
returns-in-Some c = place_some (scope_in c.args.c) c.args.last c.args.q.now c.args.j (describe (scope_in c.args.c) (node_in c.args.q.now c.args.j)) c.in-Some.ensures

pub returns-in-None : goal.returns-in-None
returns-in-None c = place_none (scope_in c.args.c) c.args.last c.args.q.now c.args.j (describe (scope_in c.args.c) (node_in c.args.q.now c.args.j)) c.in-None.ensures (omega arith) c.gap.ensures
