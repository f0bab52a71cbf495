use Rattle.lists.specs.ItemLaws.{item_bad, item_good}
use Rattle.lists.proofs.item_at.Goals as goal

pub returns-in_err-v : goal.returns-in_err-v
returns-in_err-v c = rw c.from_residual.ensures (item_bad c.comma-to.ensures c.args.lo c.args.below c.in_err-v.ensures)

pub returns : goal.returns
returns c = item_good c.comma-to.ensures c.args.lo c.args.below c.in_ok-v.ensures c.bit.ensures
