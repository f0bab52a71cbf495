use Rattle.std.proofs.Common.{rules}
use Rattle.table.specs.Table.{no_slot}
use Rattle.text.specs.Writer.{slot_empty}
use Rattle.unused.specs.UnusedLaws.{every_is}
use Rattle.unused.proofs.slots_empty.Goals as goal

pub returns : goal.returns
returns c = every_is slot_empty no_slot c.args.slots.now (search rules)
