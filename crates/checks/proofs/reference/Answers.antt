use Rattle.std.proofs.Common.{rules}
use Rattle.checks.specs.ValueChecks.{reference_in, reference_out}
use Rattle.checks.proofs.reference.Goals as goal

pub returns-then-v-n : goal.returns-then-v-n
returns-then-v-n c = search (rules, reference_in)

pub returns-else-v-n : goal.returns-else-v-n
returns-else-v-n c = search (rules, reference_out)
