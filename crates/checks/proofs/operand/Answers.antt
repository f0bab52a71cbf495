use Rattle.checks.specs.ValueChecks.{operand_var}
use Rattle.checks.proofs.operand.Goals as goal

pub returns-in-Var : goal.returns-in-Var
returns-in-Var c = rw c.in-Var.is (operand_var _ _ c.reference.ensures)
