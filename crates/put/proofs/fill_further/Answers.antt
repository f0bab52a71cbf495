-- The loop's invariant: the numbers of the tens passed stand at their place.
use Rattle.std.proofs.Common.{arith}
use Rattle.put.specs.ListLaws.{tens_start, tens_few, tens_place, tens_turn, tens_end}
use Rattle.put.proofs.fill_further.Goals as goal

pub loop-rest-init : goal.loop-rest-init
loop-rest-init c = tens_start _ (omega arith)

pub fill_ten-p-requires : goal.fill_ten-p-requires
fill_ten-p-requires c = (tens_place c.loop-rest.invariant (omega arith) c.requires, (omega (arith, tens_few c.loop-rest.invariant (omega arith)), omega arith))

pub loop-rest-preserved : goal.loop-rest-preserved
loop-rest-preserved c = tens_turn c.loop-rest.invariant (omega arith) c.fill_ten-p.ensures

pub returns : goal.returns
returns c = tens_end c.loop-rest.invariant (omega arith)
