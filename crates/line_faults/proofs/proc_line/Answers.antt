use Rattle.checks.specs.Judging.{judged_first, judged_then}
use Rattle.line_faults.specs.LineLaws.{values_line, drops_found, drops_none, no_drops}
use Rattle.line_faults.proofs.proc_line.Goals as goal

pub returns-in_err-between : goal.returns-in_err-between
returns-in_err-between c = values_line _ _ (judged_first _ _ c.in_err-between.ensures c.from_residual.ensures.1)

pub returns-in_err-between-2 : goal.returns-in_err-between-2
returns-in_err-between-2 c = values_line _ _ (judged_then _ _ c.in_ok-between.ensures (judged_first _ _ c.in_err-between-2.ensures c.from_residual-in_err-between-2.ensures.1))

pub returns-in_err-between-3 : goal.returns-in_err-between-3
returns-in_err-between-3 c = values_line _ _ (judged_then _ _ c.in_ok-between.ensures (judged_then _ _ c.in_ok-between-2.ensures (judged_first _ _ c.in_err-between-3.ensures c.from_residual-in_err-between-3.ensures.1)))

pub returns-in_err-dropped : goal.returns-in_err-dropped
returns-in_err-dropped c = values_line _ _ (judged_then _ _ c.in_ok-between.ensures (judged_then _ _ c.in_ok-between-2.ensures (judged_then _ _ c.in_ok-between-3.ensures (drops_found _ c.if-closed.true c.in_err-dropped.ensures c.from_residual-in_err-dropped.ensures.1))))

pub returns-in_ok-dropped : goal.returns-in_ok-dropped
returns-in_ok-dropped c = values_line _ _ (judged_then _ _ c.in_ok-between.ensures (judged_then _ _ c.in_ok-between-2.ensures (judged_then _ _ c.in_ok-between-3.ensures (drops_none _ c.if-closed.true c.in_ok-dropped.ensures))))

pub returns-else-closed : goal.returns-else-closed
returns-else-closed c = values_line _ _ (judged_then _ _ c.in_ok-between.ensures (judged_then _ _ c.in_ok-between-2.ensures (judged_then _ _ c.in_ok-between-3.ensures (no_drops _ c.if-closed.false))))
