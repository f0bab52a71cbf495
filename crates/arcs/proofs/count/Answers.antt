use Rattle.std.proofs.Common.{arith}
use Rattle.arcs.specs.ListedLaws.{count_members}
use Rattle.arcs.proofs.count.Goals as goal

pub returns : goal.returns
returns c = count_members c.args.m (omega arith)
