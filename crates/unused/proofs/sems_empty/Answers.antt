use Rattle.std.proofs.Common.{rules}
use Rattle.table.specs.Table.{no_sem}
use Rattle.text.specs.Writer.{sem_empty}
use Rattle.unused.specs.UnusedLaws.{every_is}
use Rattle.unused.proofs.sems_empty.Goals as goal

pub returns : goal.returns
returns c = every_is sem_empty no_sem c.args.sems.now (search rules)
