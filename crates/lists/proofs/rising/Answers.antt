use Rattle.std.proofs.Common.{rules, arith}
use Rattle.text.specs.declared.Fault.TheVariants.{Misspelt}
use Rattle.lists.specs.SetLaws.{item_less, item_from, item_to, item_spelt, first_bad, rising_start, rising_end, rising_outside, rising_bad, rising_order, rising_fits, rising_turn}
use Rattle.lists.specs.ItemLaws.{item_read, item_next}
use Rattle.scan.specs.PlaceLaws.{ok_some}
use Rattle.lists.proofs.rising.Goals as goal

pub returns-in_err-b : goal.returns-in_err-b
returns-in_err-b c = search (rules, first_bad c.args.e (item_read c.args.lo c.args.below c.args.t.now 0 c.item_at.ensures (omega arith) c.requires) c.in_err-b.ensures.value)

pub loop-to-init : goal.loop-to-init
loop-to-init c = let q = ok_some c.item_at.result Misspelt c.in_ok-b.ensures.value in search (rules, rising_start, item_read)

pub returns-in_err-b-2 : goal.returns-in_err-b-2
returns-in_err-b-2 c = search (rules, rising_bad c.loop-to.invariant c.loop-to-test.true (item_next c.args.lo c.args.below c.args.t.now c.loop-to.to c.item_at-in-loop-to.ensures c.loop-to-test.true c.requires) c.in_err-b-2.ensures.value)

pub slice_bounds-less-count-in-loop-to : goal.slice_bounds-less-count-in-loop-to
slice_bounds-less-count-in-loop-to c = let q = ok_some c.item_at-in-loop-to.result Misspelt c.in_ok-b-2.ensures.value in search (rules, item_from)

pub slice_bounds-less-start-in-loop-to : goal.slice_bounds-less-start-in-loop-to
slice_bounds-less-start-in-loop-to c = let q = ok_some c.item_at-in-loop-to.result Misspelt c.in_ok-b-2.ensures.value in search (rules, item_from)

pub slice_bounds-less-end-in-loop-to : goal.slice_bounds-less-end-in-loop-to
slice_bounds-less-end-in-loop-to c = let q = ok_some c.item_at-in-loop-to.result Misspelt c.in_ok-b-2.ensures.value in search (rules, item_to)

pub less-requires : goal.less-requires
less-requires c = let q = ok_some c.item_at-in-loop-to.result Misspelt c.in_ok-b-2.ensures.value in search (rules, item_spelt)

pub returns-then-not-less : goal.returns-then-not-less
returns-then-not-less c = let q = ok_some c.item_at-in-loop-to.result Misspelt c.in_ok-b-2.ensures.value in search (rules, rising_order, item_next)

pub overflow_add-mask : goal.overflow_add-mask
overflow_add-mask c = let q = ok_some c.item_at-in-loop-to.result Misspelt c.in_ok-b-2.ensures.value in search (rules, rising_fits, item_next)

pub loop-to-smaller : goal.loop-to-smaller
loop-to-smaller c = let q = ok_some c.item_at-in-loop-to.result Misspelt c.in_ok-b-2.ensures.value in search (rules, item_less)

pub loop-to-preserved : goal.loop-to-preserved
loop-to-preserved c = let q = ok_some c.item_at-in-loop-to.result Misspelt c.in_ok-b-2.ensures.value in search (rules, rising_turn, item_next)

pub returns-then-within : goal.returns-then-within
returns-then-within c = search (rules, rising_end)

pub returns-else-within : goal.returns-else-within
returns-else-within c = search (rules, rising_outside)
