-- A variable in no place is 0.
use Rattle.std.proofs.Common.{arith, sym, pos}
use lib.ListN.{get_or-eq_default}
use Rattle.run_step.proofs.var_at.Goals as goal

pub returns-else-k-lt16 : goal.returns-else-k-lt16
returns-else-k-lt16 c = sym (get_or-eq_default c.args.vars.now (pos 0) (omega (arith, c.requires, c.if-k-lt16.false)))
