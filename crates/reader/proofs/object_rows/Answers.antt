use Rattle.reader.specs.ReaderLaws.{tasks_stop, sems_stop, queues_stop, objects_end}
use Rattle.reader.proofs.object_rows.Goals as goal

pub returns-in_err-task : goal.returns-in_err-task
returns-in_err-task c = tasks_stop c.args.closed c.args.counts c.in_err-task.ensures c.from_residual.ensures.1

pub returns-in_err-sem : goal.returns-in_err-sem
returns-in_err-sem c = sems_stop c.args.closed c.args.counts c.in_ok-task.ensures c.in_err-sem.ensures c.from_residual-in_err-sem.ensures.1

pub returns-in_err-queue : goal.returns-in_err-queue
returns-in_err-queue c = queues_stop c.args.closed c.args.counts c.in_ok-task.ensures c.in_ok-sem.ensures c.in_err-queue.ensures c.from_residual-in_err-queue.ensures.1

pub returns : goal.returns
returns c = objects_end c.args.closed c.args.counts c.in_ok-task.ensures c.in_ok-sem.ensures c.in_ok-queue.ensures
