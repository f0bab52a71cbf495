use Rattle.std.proofs.Common.{rules, sym, ◌∙◌}
use Rattle.text.specs.declared.Fault.TheVariants.{Misspelt}
use Rattle.scan.specs.PlaceLaws.{ok_some}
use Rattle.operands.specs.OperandLaws.{removed_is, removed_not, variable_bad, variable_good, variable_high}
use Rattle.operands.proofs.variable_value.Goals as goal

pub returns-then-closed : goal.returns-then-closed
returns-then-closed c = search (rules, removed_is)

pub returns-then-is_word : goal.returns-then-is_word
returns-then-is_word c = search (rules, removed_not)

pub returns-in_err-v : goal.returns-in_err-v
returns-in_err-v c = search (rules, variable_bad c.args.closed c.args.vars c.args.t.now c.args.e c.number.ensures c.in_err-v.ensures.value c.is_word.ensures c.if-is_word.false)

pub returns-then-v-vars : goal.returns-then-v-vars
returns-then-v-vars c = search (rules, variable_good (sym (ok_some c.number.result Misspelt c.in_ok-v.ensures.value) ∙ c.number.ensures))

pub returns-else-v-vars : goal.returns-else-v-vars
returns-else-v-vars c = search (rules, variable_high (sym (ok_some c.number.result Misspelt c.in_ok-v.ensures.value) ∙ c.number.ensures))
