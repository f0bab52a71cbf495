use Rattle.std.proofs.Common.{arith, sym}
use Rattle.values.specs.Numbered.{operation_last}
use Rattle.values.proofs.operation.Goals as goal

pub returns-in_default : goal.returns-in_default
returns-in_default c = sym (operation_last c.args.n (omega arith))
