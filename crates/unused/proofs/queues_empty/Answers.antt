use Rattle.std.proofs.Common.{rules}
use Rattle.table.specs.Table.{no_queue}
use Rattle.text.specs.Writer.{queue_empty}
use Rattle.unused.specs.UnusedLaws.{every_is}
use Rattle.unused.proofs.queues_empty.Goals as goal

pub returns : goal.returns
returns c = every_is queue_empty no_queue c.args.queues.now (search rules)
