use Rattle.late_lines.specs.Walks.{node_absent, node_step}
use Rattle.late_lines.proofs.node_at.Goals as goal

pub returns-then-absent-clause-found : goal.returns-then-absent-clause-found
returns-then-absent-clause-found c = node_absent _ _ _ _ c.if-absent.ensures

pub returns-clause-found : goal.returns-clause-found
returns-clause-found c = node_step _ _ _ _ c.if-absent.ensures c.node.ensures c.step.ensures
