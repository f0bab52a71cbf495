use Rattle.std.proofs.Common.{◌≡◌, refl, ◌∙◌, ◌&&◌, ◌||◌, not, length, take, drop, arith, rules}
use Rattle.text.specs.Writer.{every, task_empty, sem_empty, queue_empty, proc_empty}
use Rattle.checks.specs.ArgumentChecks.{and_more, and_stop}
use Rattle.unused.specs.UnusedLaws.{values_long, from_on, tidy_is}
use Rattle.unused.proofs.all_tidy.Goals as goal
use Rattle.unused.proofs.all_tidy.Goals.{then-tasks_empty, else-tasks_empty, then-sems_empty, else-sems_empty, then-queues_empty, else-queues_empty, then-procs_empty, else-procs_empty}

pub returns-then-blanks_fit : goal.returns-then-blanks_fit
returns-then-blanks_fit c =
    let k : length c.args.t.task ≡ 4 = search (rules, values_long) in
    let l : length c.args.t.sem ≡ 8 = search (rules, values_long) in
    let m : length c.args.t.queue ≡ 8 = search (rules, values_long) in
    let n : length c.args.t.proc ≡ 8 = search (rules, values_long) in
    let a : c.tasks_empty.result ≡ every task_empty (drop c.args.t.tasks c.args.t.task) = from_on task_empty c.args.t.task c.args.t.tasks _ refl (rw c.from-tasks.ensures at c.tasks_empty.ensures) in
    let two : c.if-tasks_empty.value ≡ every task_empty (drop c.args.t.tasks c.args.t.task) && every sem_empty (drop c.args.t.sems c.args.t.sem) =
    elim c.if-tasks_empty.branch [
      | then-tasks_empty w ↦ and_more _ _ _ _ w.if-tasks_empty.true w.value-is a (from_on sem_empty c.args.t.sem c.args.t.sems _ refl (rw c.from-sems.ensures at w.sems_empty.ensures))
      | else-tasks_empty w ↦ and_stop _ _ _ w.if-tasks_empty.false w.value-is a
    ]
    in
    let three : c.if-sems_empty.value ≡ (every task_empty (drop c.args.t.tasks c.args.t.task) && every sem_empty (drop c.args.t.sems c.args.t.sem)) && every queue_empty (drop c.args.t.queues c.args.t.queue) =
    elim c.if-sems_empty.branch [
      | then-sems_empty w ↦ and_more _ _ _ _ w.if-sems_empty.true w.value-is two (from_on queue_empty c.args.t.queue c.args.t.queues _ refl (rw c.from-queues.ensures at w.queues_empty.ensures))
      | else-sems_empty w ↦ and_stop _ _ _ w.if-sems_empty.false w.value-is two
    ]
    in
    let four : c.if-queues_empty.value ≡ ((every task_empty (drop c.args.t.tasks c.args.t.task) && every sem_empty (drop c.args.t.sems c.args.t.sem)) && every queue_empty (drop c.args.t.queues c.args.t.queue)) && every proc_empty (drop c.args.t.procs c.args.t.proc) =
    elim c.if-queues_empty.branch [
      | then-queues_empty w ↦ and_more _ _ _ _ w.if-queues_empty.true w.value-is three (from_on proc_empty c.args.t.proc c.args.t.procs _ refl (rw c.from-procs.ensures at w.procs_empty.ensures))
      | else-queues_empty w ↦ and_stop _ _ _ w.if-queues_empty.false w.value-is three
    ]
    in
    let five : c.if-procs_empty.value ≡ (((every task_empty (drop c.args.t.tasks c.args.t.task) && every sem_empty (drop c.args.t.sems c.args.t.sem)) && every queue_empty (drop c.args.t.queues c.args.t.queue)) && every proc_empty (drop c.args.t.procs c.args.t.proc)) && every (λ x. c.args.t.closed || not x.blank) (take c.args.t.queues c.args.t.queue) =
    elim c.if-procs_empty.branch [
      | then-procs_empty w ↦ and_more _ _ _ _ w.if-procs_empty.true w.value-is four (rw c.from-queues.ensures at w.blanks_fit.ensures)
      | else-procs_empty w ↦ and_stop _ _ _ w.if-procs_empty.false w.value-is four
    ]
    in
    and_more _ _ _ _ c.if-blanks_fit.true refl five (rw c.from-procs.ensures at c.procs_tidy.ensures) ∙ tidy_is c.args.t (omega arith) (omega arith)

pub returns-else-blanks_fit : goal.returns-else-blanks_fit
returns-else-blanks_fit c =
    let k : length c.args.t.task ≡ 4 = search (rules, values_long) in
    let l : length c.args.t.sem ≡ 8 = search (rules, values_long) in
    let m : length c.args.t.queue ≡ 8 = search (rules, values_long) in
    let n : length c.args.t.proc ≡ 8 = search (rules, values_long) in
    let a : c.tasks_empty.result ≡ every task_empty (drop c.args.t.tasks c.args.t.task) = from_on task_empty c.args.t.task c.args.t.tasks _ refl (rw c.from-tasks.ensures at c.tasks_empty.ensures) in
    let two : c.if-tasks_empty.value ≡ every task_empty (drop c.args.t.tasks c.args.t.task) && every sem_empty (drop c.args.t.sems c.args.t.sem) =
    elim c.if-tasks_empty.branch [
      | then-tasks_empty w ↦ and_more _ _ _ _ w.if-tasks_empty.true w.value-is a (from_on sem_empty c.args.t.sem c.args.t.sems _ refl (rw c.from-sems.ensures at w.sems_empty.ensures))
      | else-tasks_empty w ↦ and_stop _ _ _ w.if-tasks_empty.false w.value-is a
    ]
    in
    let three : c.if-sems_empty.value ≡ (every task_empty (drop c.args.t.tasks c.args.t.task) && every sem_empty (drop c.args.t.sems c.args.t.sem)) && every queue_empty (drop c.args.t.queues c.args.t.queue) =
    elim c.if-sems_empty.branch [
      | then-sems_empty w ↦ and_more _ _ _ _ w.if-sems_empty.true w.value-is two (from_on queue_empty c.args.t.queue c.args.t.queues _ refl (rw c.from-queues.ensures at w.queues_empty.ensures))
      | else-sems_empty w ↦ and_stop _ _ _ w.if-sems_empty.false w.value-is two
    ]
    in
    let four : c.if-queues_empty.value ≡ ((every task_empty (drop c.args.t.tasks c.args.t.task) && every sem_empty (drop c.args.t.sems c.args.t.sem)) && every queue_empty (drop c.args.t.queues c.args.t.queue)) && every proc_empty (drop c.args.t.procs c.args.t.proc) =
    elim c.if-queues_empty.branch [
      | then-queues_empty w ↦ and_more _ _ _ _ w.if-queues_empty.true w.value-is three (from_on proc_empty c.args.t.proc c.args.t.procs _ refl (rw c.from-procs.ensures at w.procs_empty.ensures))
      | else-queues_empty w ↦ and_stop _ _ _ w.if-queues_empty.false w.value-is three
    ]
    in
    let five : c.if-procs_empty.value ≡ (((every task_empty (drop c.args.t.tasks c.args.t.task) && every sem_empty (drop c.args.t.sems c.args.t.sem)) && every queue_empty (drop c.args.t.queues c.args.t.queue)) && every proc_empty (drop c.args.t.procs c.args.t.proc)) && every (λ x. c.args.t.closed || not x.blank) (take c.args.t.queues c.args.t.queue) =
    elim c.if-procs_empty.branch [
      | then-procs_empty w ↦ and_more _ _ _ _ w.if-procs_empty.true w.value-is four (rw c.from-queues.ensures at w.blanks_fit.ensures)
      | else-procs_empty w ↦ and_stop _ _ _ w.if-procs_empty.false w.value-is four
    ]
    in
    and_stop _ _ _ c.if-blanks_fit.false refl five ∙ tidy_is c.args.t (omega arith) (omega arith)
