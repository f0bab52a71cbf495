use Rattle.std.proofs.Common.{rules}
use Rattle.numbers.specs.Answer.{within_of}
use Rattle.numbers.proofs.within.Goals as goal

pub returns-then-contains : goal.returns-then-contains
unfolding within_of
returns-then-contains c = search rules

pub returns-else-contains : goal.returns-else-contains
unfolding within_of
returns-else-contains c = search rules
