use Rattle.std.proofs.Common.{arith}
use Rattle.put.specs.ListLaws.{further_few, items_put}
use Rattle.put.proofs.fill_items.Goals as goal

pub fill_further-requires : goal.fill_further-requires
fill_further-requires c = omega (arith, further_few c.args.m (omega arith) c.requires.1)

pub returns : goal.returns
returns c = items_put _ (omega arith) c.requires.1 c.fill_small-p.ensures c.fill_further.ensures
