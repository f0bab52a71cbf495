use Rattle.std.proofs.Common.{rules}
use Rattle.numbers.specs.NumeralLaws.{short_within, short_less}
use Rattle.lists.specs.ShortLaws.{left_start, left_none, left_low, left_end, left_other, left_turn, left_over}
use Rattle.lists.proofs.short_list.Goals as goal

pub loop-from-init : goal.loop-from-init
loop-from-init c = search (rules, left_start)

pub returns-in_err-v : goal.returns-in_err-v
returns-in_err-v c = rw c.from_residual.ensures (left_none c.loop-from.invariant c.in_err-v.ensures)

pub returns-then-b-mask : goal.returns-then-b-mask
returns-then-b-mask c = left_low c.loop-from.invariant c.in_ok-v.ensures c.bit-b.ensures c.if-b-mask.true

pub bounds-u-to : goal.bounds-u-to
bounds-u-to c = short_within _ _ c.in_ok-v.ensures

pub returns-then-stops : goal.returns-then-stops
returns-then-stops c = left_end c.loop-from.invariant c.in_ok-v.ensures c.bit-b.ensures c.if-b-mask.false c.stops.ensures c.loop-from-test.true c.if-stops.true

pub returns-then-c-ne44 : goal.returns-then-c-ne44
returns-then-c-ne44 c = left_other c.loop-from.invariant c.in_ok-v.ensures c.bit-b.ensures c.if-b-mask.false c.stops.ensures c.if-stops.false c.if-c-ne44.true

pub loop-from-smaller : goal.loop-from-smaller
loop-from-smaller c = short_less _ _ c.in_ok-v.ensures c.loop-from-test.true

pub loop-from-preserved : goal.loop-from-preserved
loop-from-preserved c = left_turn c.loop-from.invariant c.in_ok-v.ensures c.bit-b.ensures c.if-b-mask.false c.stops.ensures c.loop-from-test.true c.if-stops.false c.if-c-ne44.false

pub returns : goal.returns
returns c = search (rules, left_over)
