use Rattle.std.proofs.Common.{arith}
use Rattle.line_faults.specs.Rows.{passed_none, passed_more, passed_found, passed_all}
use Rattle.line_faults.proofs.procs.Goals as goal

pub loop-p-init : goal.loop-p-init
loop-p-init c = passed_none _ _

pub returns-in_err-proc : goal.returns-in_err-proc
returns-in_err-proc c = passed_found _ _ _ c.loop-p.invariant (omega arith) c.in_err-proc.ensures c.from_residual.ensures.1

pub loop-p-preserved : goal.loop-p-preserved
loop-p-preserved c = passed_more _ _ _ c.loop-p.invariant (omega arith) c.in_ok-proc.ensures

pub returns : goal.returns
returns c = passed_all _ _ _ c.loop-p.invariant (omega arith)
