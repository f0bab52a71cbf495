use Rattle.std.proofs.Common.{rules}
use Rattle.machine.specs.State.{sem_count, entries_at}
use Rattle.machine.specs.Report.{sem_line, queue_line}
use Rattle.report.specs.RowsLaws.{state_put}
use Rattle.report.proofs.put_state.Goals as goal

pub returns : goal.returns
returns c = state_put _ _ _ c.variable_counts-counts.ensures c.requires.1
    c.put_tasks-a.ensures
    (c.put_rows-b.ensures.rows (λ i. sem_line i (sem_count c.args.s.sems i)) (search rules))
    (c.put_rows.ensures.rows (λ i. queue_line i (entries_at c.args.s.queues i)) (search rules))
