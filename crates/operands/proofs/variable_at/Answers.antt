use Rattle.std.proofs.Common.{rules}
use Rattle.operands.specs.OperandLaws.{short_variable, short_undeclared}
use Rattle.operands.proofs.variable_at.Goals as goal

pub returns-then-v-vars : goal.returns-then-v-vars
returns-then-v-vars c = search (rules, short_variable c.in-Some.ensures)

pub returns-else-v-vars : goal.returns-else-v-vars
returns-else-v-vars c = search (rules, short_undeclared c.in-Some.ensures)
