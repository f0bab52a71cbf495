use Rattle.std.proofs.Common.{arith}
use Rattle.table.specs.Mask.{mask_of}
use Rattle.late_nodes.proofs.removed.Goals as goal

pub returns : goal.returns
unfolding mask_of
returns c = omega arith
