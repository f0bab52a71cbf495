use Rattle.std.proofs.Common.{rules}
use Rattle.checks.specs.ValueChecks.{removed_closed, removed_open, variable_is}
use Rattle.checks.proofs.variable.Goals as goal

pub returns-then-v-ne-REMOVED : goal.returns-then-v-ne-REMOVED
returns-then-v-ne-REMOVED c = search (rules, variable_is)

pub returns-then-closed : goal.returns-then-closed
returns-then-closed c = search (rules, removed_closed)

pub returns-else-closed : goal.returns-else-closed
returns-else-closed c = search (rules, removed_open)
