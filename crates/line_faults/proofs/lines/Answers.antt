use Rattle.checks.specs.Judging.{judged_first, judged_then}
use Rattle.line_faults.specs.LineLaws.{ranges, table_lines}
use Rattle.line_faults.proofs.lines.Goals as goal

pub returns-in_err-head : goal.returns-in_err-head
returns-in_err-head c = table_lines c.args.t (judged_first _ _ c.in_err-head.ensures c.from_residual.ensures.1)

pub tasks-requires : goal.tasks-requires
tasks-requires c = (ranges c.args.t c.in_ok-head.ensures).tasks

pub returns-in_err-tasks : goal.returns-in_err-tasks
returns-in_err-tasks c = table_lines c.args.t (judged_then _ _ c.in_ok-head.ensures (judged_first _ _ c.in_err-tasks.ensures c.from_residual-in_err-tasks.ensures.1))

pub sems-requires : goal.sems-requires
sems-requires c = (ranges c.args.t c.in_ok-head.ensures).sems

pub returns-in_err-sems : goal.returns-in_err-sems
returns-in_err-sems c = table_lines c.args.t (judged_then _ _ c.in_ok-head.ensures (judged_then _ _ c.in_ok-tasks.ensures (judged_first _ _ c.in_err-sems.ensures c.from_residual-in_err-sems.ensures.1)))

pub queues-requires : goal.queues-requires
queues-requires c = (ranges c.args.t c.in_ok-head.ensures).queues

pub returns-in_err-queues : goal.returns-in_err-queues
returns-in_err-queues c = table_lines c.args.t (judged_then _ _ c.in_ok-head.ensures (judged_then _ _ c.in_ok-tasks.ensures (judged_then _ _ c.in_ok-sems.ensures (judged_first _ _ c.in_err-queues.ensures c.from_residual-in_err-queues.ensures.1))))

pub procs-requires : goal.procs-requires
procs-requires c = (ranges c.args.t c.in_ok-head.ensures).procs

pub returns : goal.returns
returns c = table_lines c.args.t (judged_then _ _ c.in_ok-head.ensures (judged_then _ _ c.in_ok-tasks.ensures (judged_then _ _ c.in_ok-sems.ensures (judged_then _ _ c.in_ok-queues.ensures c.procs.ensures))))
