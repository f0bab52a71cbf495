use Rattle.std.proofs.Common.{rules}
use Rattle.scan.specs.PlaceLaws.{value_ends, value_over}
use Rattle.scan.proofs.value_at.Goals as goal

pub returns-then-e-s : goal.returns-then-e-s
returns-then-e-s c = search (rules, value_ends)

pub returns-else-e-s : goal.returns-else-e-s
returns-else-e-s c = search (rules, value_over)
