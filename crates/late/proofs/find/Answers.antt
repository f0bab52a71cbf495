use Rattle.std.proofs.Common.{◌<◌, get_or-take, arith}
use Rattle.late_lines.specs.Walks.{walked_more, walked_found, walked_all}
use Rattle.late.specs.Walks.{tasks_of, proc_of_lem, tasks_late_lem, procs_late_lem, failed_late, late_none}
use Rattle.late.proofs.find.Goals as goal

pub returns-in_err-behind : goal.returns-in_err-behind
returns-in_err-behind c = failed_late c.args.t _ (tasks_late_lem c.args.t (tasks_of c.args.t c.terms_of-terms.ensures c.in_err-behind.ensures.found)) c.from_residual.ensures.1

pub returns-in_err-line : goal.returns-in_err-line
returns-in_err-line c =
    let l : c.loop-q.q-index < c.from-3.result = omega arith in
    failed_late c.args.t _ (procs_late_lem c.args.t (tasks_of c.args.t c.terms_of-terms.ensures c.in_ok-behind.ensures.found) (rw (c.from.ensures, c.from-2.ensures) at (walked_found _ _ _ _ _ c.loop-q.invariant.1 (omega arith) (proc_of_lem c.args.t c.loop-q.q-index _ c.terms_of-terms.ensures (rw get_or-take at c.in_err-line.ensures.found))))) c.from_residual-in_err-line.ensures.1

pub loop-q-preserved : goal.loop-q-preserved
loop-q-preserved c =
    let l : c.loop-q.q-index < c.from-3.result = omega arith in
    (omega (arith, c.in_ok-line.ensures.near), walked_more _ _ _ _ _ c.loop-q.invariant.1 (omega arith) (proc_of_lem c.args.t c.loop-q.q-index _ c.terms_of-terms.ensures (rw get_or-take at c.in_ok-line.ensures.found)))

pub returns : goal.returns
returns c = late_none c.args.t (procs_late_lem c.args.t (tasks_of c.args.t c.terms_of-terms.ensures c.in_ok-behind.ensures.found) (rw (c.from.ensures, c.from-2.ensures) at (walked_all _ _ _ _ _ c.loop-q.invariant.1 (omega arith))))
