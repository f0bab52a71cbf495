use Rattle.std.proofs.Common.{rules}
use Rattle.lists.specs.PassingLaws.{going_start, going_stops, going_end, going_outside, going_turn, going_less}
use Rattle.lists.proofs.passing.Goals as goal

pub loop-v-init : goal.loop-v-init
loop-v-init c = search (rules, going_start)

pub returns-in_err-v : goal.returns-in_err-v
returns-in_err-v c = search (rules, going_stops c.loop-v.invariant c.in_err-v.ensures)

pub returns-in_err-a : goal.returns-in_err-a
returns-in_err-a c = search (rules, going_outside c.loop-v.invariant c.in_ok-v.ensures c.with_variable-args.ensures c.if-t-to.true c.in_err-a.ensures.value)

pub returns-then-t-to : goal.returns-then-t-to
returns-then-t-to c = going_end c.loop-v.invariant c.in_ok-v.ensures c.with_variable-args.ensures c.if-t-to.true c.in_ok-a.ensures.value

pub loop-v-smaller : goal.loop-v-smaller
loop-v-smaller c = going_less c.loop-v.invariant c.in_ok-v.ensures c.with_variable-args.ensures c.if-t-to.false

pub loop-v-preserved : goal.loop-v-preserved
loop-v-preserved c = going_turn c.loop-v.invariant c.in_ok-v.ensures c.with_variable-args.ensures c.if-t-to.false
