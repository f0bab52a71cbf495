use Rattle.std.proofs.Common.{arith}
use Rattle.arguments.specs.ItemLaws.{heard_some, number_small}
use Rattle.arguments.proofs.U8Item.read.Goals as goal

pub overflow_cast-result : goal.overflow_cast-result
overflow_cast-result c = record { fits = omega (arith, number_small _ (heard_some _ c.in_ok-k.ensures)) }
