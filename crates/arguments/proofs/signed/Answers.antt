use Rattle.std.proofs.Common.{rules, to_z-of_z}
use Rattle.arguments.specs.ItemLaws.{signed_not, signed_is}
use Rattle.arguments.proofs.signed.Goals as goal

pub returns-in-Ok-Const-default : goal.returns-in-Ok-Const-default
returns-in-Ok-Const-default c = search (rules, to_z-of_z, signed_is)

pub returns-in_default-2 : goal.returns-in_default-2
returns-in_default-2 c = search (rules, signed_not)
