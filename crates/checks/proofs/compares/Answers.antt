use Rattle.std.proofs.Common.{rules}
use Rattle.text.specs.Value.{check}
use Rattle.checks.proofs.compares.Goals as goal

pub returns-in-Lt : goal.returns-in-Lt
unfolding check
returns-in-Lt c = search rules

pub returns-in-Add : goal.returns-in-Add
unfolding check
returns-in-Add c = search rules
