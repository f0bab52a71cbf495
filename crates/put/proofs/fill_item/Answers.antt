use Rattle.std.proofs.Common.{rules}
use Rattle.put.specs.ListLaws.{item_one, item_two}
use Rattle.put.proofs.fill_item.Goals as goal

pub returns-then-t-eq0 : goal.returns-then-t-eq0
returns-then-t-eq0 c = search (rules, item_one)

pub returns : goal.returns
returns c = search (rules, item_two)
