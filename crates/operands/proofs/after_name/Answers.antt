use Rattle.std.proofs.Common.{rules}
use Rattle.scan.specs.PlaceLaws.{name_found, name_differs}
use Rattle.operands.proofs.after_name.Goals as goal

pub returns-then-s-at-eq61 : goal.returns-then-s-at-eq61
returns-then-s-at-eq61 c = search (rules, name_found)

pub returns-else-s-at-eq32 : goal.returns-else-s-at-eq32
returns-else-s-at-eq32 c = search (rules, name_differs)
