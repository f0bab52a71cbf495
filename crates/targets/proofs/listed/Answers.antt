use Rattle.std.proofs.Common.{rules}
use Rattle.targets.specs.ListChecks.{listed_open}
use Rattle.targets.proofs.listed.Goals as goal

pub returns-else-closed : goal.returns-else-closed
returns-else-closed c = search (rules, listed_open)
