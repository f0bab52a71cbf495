-- `run_state::first` makes the marks of the first state: task by task, then semaphore by semaphore.
use Rattle.std.proofs.Common.{arith, ◌≡◌, ◌∙◌}
use Rattle.machine.specs.State.{with_sems}
use Rattle.run_state.specs.Arrays.{marks_of}
use Rattle.run_state.specs.Begins.{started, counted}
use Rattle.run_state.specs.BeginLaws.{start_none, start_one, count_none, count_one}
use Rattle.run_state.proofs.first.Goals as goal

pub loop-i-init : goal.loop-i-init
loop-i-init c = start_none c.args.task

pub loop-i-preserved : goal.loop-i-preserved
loop-i-preserved c = let l = c.loop-i in
    start_one c.args.task l.i l.r (omega arith) l.invariant

pub loop-j-init : goal.loop-j-init
loop-j-init c = λ task n e. count_none task n c.args.sem c.loop-i.r e

pub loop-j-preserved : goal.loop-j-preserved
loop-j-preserved c = let l = c.loop-j in
    λ task n e. count_one task n c.args.sem l.j l.r (omega arith) (l.invariant task n e)

pub returns : goal.returns
returns c = let a = c.args in
    let l = c.loop-i in
    let m = c.loop-j in
    let i : l.i ≡ a.tasks = omega (arith, c.loop-i-test.false) in
    let j : m.j ≡ 8 = omega (arith, c.loop-j-test.false) in
    m.invariant a.task l.i l.invariant ∙ (λ ι. marks_of (with_sems (started a.task (i ι)) (counted a.sem (j ι))))
