use Rattle.std.proofs.Common.{not, ◌||◌, rules}
use Rattle.table.specs.Table.{no_queue}
use Rattle.unused.specs.UnusedLaws.{every_is}
use Rattle.unused.proofs.blanks_fit.Goals as goal

pub returns : goal.returns
returns c = every_is (λ x. c.args.closed || not x.blank) no_queue c.args.queues.now (search rules)
