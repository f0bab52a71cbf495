use Rattle.std.proofs.Common.{arith}
use Rattle.put.specs.ListLaws.{list_none, list_some}
use Rattle.put.proofs.fill_list.Goals as goal

pub returns-then-m-eq0 : goal.returns-then-m-eq0
returns-then-m-eq0 c = list_none _ c.if-m-eq0.true c.fill_text.ensures

pub returns : goal.returns
returns c = list_some _ (omega arith) (omega arith) c.fill_items.ensures
