use Rattle.std.proofs.Common.{rules}
use Rattle.late_nodes.specs.MaskLaws.{low_all}
use Rattle.late_nodes.proofs.low.Goals as goal

pub returns-then-n-ge8 : goal.returns-then-n-ge8
returns-then-n-ge8 c = search (rules, low_all)
