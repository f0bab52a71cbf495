use Rattle.std.proofs.Common.{rules}
use Rattle.table.specs.Table.{parts}
use Rattle.checks.specs.NodeChecks.{not_absent}
use Rattle.checks.proofs.absent.Goals as goal

pub returns-in-Absent : goal.returns-in-Absent
unfolding parts
returns-in-Absent c = search rules

pub returns-in_default : goal.returns-in_default
returns-in_default c = not_absent _ c.in_default.not-Absent
