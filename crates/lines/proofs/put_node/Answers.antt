use Rattle.std.proofs.Common.{rules}
use Rattle.lines.proofs.put_node.Goals as goal

pub returns : goal.returns
returns c = c.put_filled.ensures _ _ (search rules)
