-- The loop's invariant: the numbers taken out of the mask stand at their place.
use Rattle.std.proofs.Common.{arith}
use Rattle.put.specs.ListLaws.{listing_start, listing_below, listing_place, listing_turn, listing_end}
use Rattle.put.proofs.fill_ten.Goals as goal

pub loop-rest-init : goal.loop-rest-init
loop-rest-init c = listing_start _ _ (omega arith)

pub fill_item-p-requires : goal.fill_item-p-requires
fill_item-p-requires c = (listing_place c.loop-rest.invariant (omega arith) c.requires.0, (omega arith, listing_below c.loop-rest.invariant (omega arith)))

pub loop-rest-preserved : goal.loop-rest-preserved
loop-rest-preserved c = listing_turn c.loop-rest.invariant (omega arith) c.fill_item-p.ensures

pub returns : goal.returns
returns c = listing_end c.loop-rest.invariant (omega arith)
