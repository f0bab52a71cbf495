use Rattle.std.proofs.Common.{sym, ◌∙◌}
use Rattle.checks.specs.NodeChecks.{place_line, place_absent, place_due}
use Rattle.checks.proofs.node.Goals as goal

pub returns-then-not-absent : goal.returns-then-not-absent
returns-then-not-absent c = place_line _ _ _ (sym c.absent.ensures ∙ c.if-not-absent.true) c.line.ensures

pub returns-then-j-ne0 : goal.returns-then-j-ne0
returns-then-j-ne0 c = place_absent _ _ _ c.if-not-absent.ensures c.if-c.true c.if-j-ne0.true

pub returns-else-c : goal.returns-else-c
returns-else-c c = place_due _ _ _ c.if-not-absent.ensures c.else-c.either
