use Rattle.std.proofs.Common.{sym}
use Rattle.late_nodes.specs.Steps.{unclosed_is}
use Rattle.late_nodes.specs.MaskLaws.{removed_right}
use Rattle.late_nodes.proofs.removals.Goals as goal

pub returns : goal.returns
returns c = unclosed_is _ _ (sym (removed_right c.args.xs c.args.drop c.removed.ensures c.low.ensures)) c.unclosed.ensures
