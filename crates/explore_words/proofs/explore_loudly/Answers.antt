-- `explore_words::explore_loudly` answers as the search of the bound asked for does.
use Rattle.std.proofs.Common.{refl, arith}
use Rattle.explore_words.specs.WordsLaws.{loud_printed, loud_same, loud_bound}
use Rattle.explore_words.proofs.explore_loudly.Goals as goal

pub loop-len-init : goal.loop-len-init
loop-len-init c = (refl, c.first_bound-b.ensures)

pub explore_table-requires : goal.explore_table-requires
explore_table-requires c = c.requires

pub shape_of-out-in-Some : goal.shape_of-out-in-Some
shape_of-out-in-Some c = (loud_printed c.loop-len.invariant.0 c.loop-len.invariant.1.0 c.in-Some.ensures).same

pub returns-in-Some : goal.returns-in-Some
returns-in-Some c = loud_printed c.loop-len.invariant.0 c.loop-len.invariant.1.0 c.in-Some.ensures

pub shape_of-out-then-most-b : goal.shape_of-out-then-most-b
shape_of-out-then-most-b c = (loud_bound c.loop-len.invariant.0 c.loop-len.invariant.1.0 c.in_default.ensures c.if-most-b.true c.put_refused.ensures).same

pub returns-then-most-b : goal.returns-then-most-b
returns-then-most-b c = loud_bound c.loop-len.invariant.0 c.loop-len.invariant.1.0 c.in_default.ensures c.if-most-b.true c.put_refused.ensures

pub next_bound-b-requires : goal.next_bound-b-requires
next_bound-b-requires c = (omega (arith, c.loop-len.invariant.1.1, c.if-most-b.false), omega (arith, c.if-most-b.false))

pub loop-len-smaller : goal.loop-len-smaller
loop-len-smaller c = omega (arith, c.next_bound-b.ensures.0, c.next_bound-b.ensures.1)

pub loop-len-preserved : goal.loop-len-preserved
loop-len-preserved c = (loud_same c.loop-len.invariant.0 c.loop-len.invariant.1.0 c.in_default.ensures, (c.next_bound-b.ensures.1, omega (arith, c.next_bound-b.ensures.0)))
