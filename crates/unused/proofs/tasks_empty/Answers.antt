use Rattle.std.proofs.Common.{rules}
use Rattle.table.specs.Table.{no_task}
use Rattle.text.specs.Writer.{task_empty}
use Rattle.unused.specs.UnusedLaws.{every_is}
use Rattle.unused.proofs.tasks_empty.Goals as goal

pub returns : goal.returns
returns c = every_is task_empty no_task c.args.tasks.now (search rules)
