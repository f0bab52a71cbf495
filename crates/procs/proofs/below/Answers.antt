use Rattle.std.proofs.Common.{rules}
use Rattle.procs.specs.NodesLaws.{below_further, below_next}
use Rattle.procs.proofs.below.Goals as goal

pub returns-then-further : goal.returns-then-further
returns-then-further c = search (rules, below_further)

pub returns-else-further : goal.returns-else-further
returns-else-further c = search (rules, below_next)
