use Rattle.std.proofs.Common.{◌<◌, get_or-take, arith}
use Rattle.line_faults.specs.Rows.{passed_none, passed_more, passed_found, passed_all}
use Rattle.line_faults.specs.LineLaws.{sem_is}
use Rattle.line_faults.proofs.sems.Goals as goal

pub loop-x-init : goal.loop-x-init
loop-x-init c = passed_none _ _

pub returns-in_err-between : goal.returns-in_err-between
returns-in_err-between c =
    let l : c.loop-x.x-index < c.from.result = omega arith in
    passed_found _ _ _ c.loop-x.invariant (omega arith) (sem_is _ _ (rw get_or-take at c.in_err-between.ensures)) c.from_residual.ensures.1

pub loop-x-preserved : goal.loop-x-preserved
loop-x-preserved c =
    let l : c.loop-x.x-index < c.from.result = omega arith in
    passed_more _ _ _ c.loop-x.invariant (omega arith) (sem_is _ _ (rw get_or-take at c.in_ok-between.ensures))

pub returns : goal.returns
returns c = passed_all _ _ _ c.loop-x.invariant (omega arith)
