use Rattle.std.proofs.Common.{rules}
use Rattle.lists.specs.PassingLaws.{argument_removed, argument_open, argument_bad, argument_is, argument_outside}
use Rattle.lists.proofs.argument_value.Goals as goal

pub returns-then-closed : goal.returns-then-closed
returns-then-closed c = search (rules, argument_removed)

pub returns-then-is_word : goal.returns-then-is_word
returns-then-is_word c = search (rules, argument_open)

pub returns-in_err-v : goal.returns-in_err-v
returns-in_err-v c = search (rules, argument_bad c.args.closed c.args.vars c.args.w.now c.is_word.ensures c.if-is_word.false c.number.ensures c.in_err-v.ensures.value)

pub returns-then-v-vars : goal.returns-then-v-vars
returns-then-v-vars c = argument_is c.args.closed c.args.vars c.args.w.now c.is_word.ensures c.if-is_word.false c.number.ensures c.in_ok-v.ensures.value c.requires c.if-v-vars.true

pub returns-else-v-vars : goal.returns-else-v-vars
returns-else-v-vars c = argument_outside c.args.closed c.args.vars c.args.w.now c.is_word.ensures c.if-is_word.false c.number.ensures c.in_ok-v.ensures.value c.requires c.if-v-vars.false
