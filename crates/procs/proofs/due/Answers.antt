use Rattle.std.proofs.Common.{rules}
use Rattle.procs.specs.NodesLaws.{due_further, due_next}
use Rattle.procs.proofs.due.Goals as goal

pub returns-then-further : goal.returns-then-further
returns-then-further c = search (rules, due_further)

pub returns-else-further : goal.returns-else-further
returns-else-further c = search (rules, due_next)
