use Rattle.std.proofs.Common.{rules}
use Rattle.lists.specs.ListLaws.{one_outside, one_is}
use Rattle.lists.proofs.one_of.Goals as goal

pub returns-then-b-eq0 : goal.returns-then-b-eq0
returns-then-b-eq0 c = search (rules, one_outside)

pub returns-else-b-eq0 : goal.returns-else-b-eq0
returns-else-b-eq0 c = search (rules, one_is)
