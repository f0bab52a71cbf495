use Rattle.procs.specs.NodesLaws.{stands_at, stands_broken}
use Rattle.procs.proofs.node_stands.Goals as goal

pub returns-in-Ok : goal.returns-in-Ok
returns-in-Ok c = stands_at c.in-Ok.ensures

pub returns-in-Err-Ended : goal.returns-in-Err-Ended
returns-in-Err-Ended c = stands_broken (rw c.in-Err-Ended.field-0-is at c.in-Err-Ended.ensures)
