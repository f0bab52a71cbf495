use Rattle.checks.specs.Judging.{judged_first, judged_then}
use Rattle.line_faults.specs.LineLaws.{head_line_is}
use Rattle.line_faults.proofs.head.Goals as goal

pub returns-in_err-between : goal.returns-in_err-between
returns-in_err-between c = head_line_is c.args.t.now (judged_first _ _ c.in_err-between.ensures c.from_residual.ensures.1)

pub returns-in_err-between-2 : goal.returns-in_err-between-2
returns-in_err-between-2 c = head_line_is c.args.t.now (judged_then _ _ c.in_ok-between.ensures (judged_first _ _ c.in_err-between-2.ensures c.from_residual-in_err-between-2.ensures.1))

pub returns-in_err-between-3 : goal.returns-in_err-between-3
returns-in_err-between-3 c = head_line_is c.args.t.now (judged_then _ _ c.in_ok-between.ensures (judged_then _ _ c.in_ok-between-2.ensures (judged_first _ _ c.in_err-between-3.ensures c.from_residual-in_err-between-3.ensures.1)))

pub returns-in_err-between-4 : goal.returns-in_err-between-4
returns-in_err-between-4 c = head_line_is c.args.t.now (judged_then _ _ c.in_ok-between.ensures (judged_then _ _ c.in_ok-between-2.ensures (judged_then _ _ c.in_ok-between-3.ensures (judged_first _ _ c.in_err-between-4.ensures c.from_residual-in_err-between-4.ensures.1))))

pub returns : goal.returns
returns c = head_line_is c.args.t.now (judged_then _ _ c.in_ok-between.ensures (judged_then _ _ c.in_ok-between-2.ensures (judged_then _ _ c.in_ok-between-3.ensures (judged_then _ _ c.in_ok-between-4.ensures c.between-5.ensures))))
