-- `run_state::needed` adds up the inputs of the tasks.
use Rattle.std.proofs.Common.{rules, arith}
use Rattle.run_state.specs.BeginLaws.{tops_few, tops_low, takes_few, sum_first, sum_more, sum_done}
use Rattle.run_state.proofs.needed.Goals as goal

pub loop-i-init : goal.loop-i-init
loop-i-init c = sum_first c.args.task c.args.takes.now c.args.tasks

pub bounds-takes-p : goal.bounds-takes-p
bounds-takes-p c = tops_low c.requires c.loop-i.i (omega arith)

pub overflow_cast-sum : goal.overflow_cast-sum
overflow_cast-sum c = let h = takes_few c.requires c.loop-i.i (omega arith) in
    search rules

pub overflow_add-sum : goal.overflow_add-sum
overflow_add-sum c = let l = c.loop-i in
    omega (arith, takes_few c.requires l.i (omega arith), l.invariant.small, l.invariant.within, tops_few c.requires)

pub loop-i-preserved : goal.loop-i-preserved
loop-i-preserved c = let l = c.loop-i in
    sum_more c.args.task c.args.takes.now c.args.tasks l.invariant (omega arith) (takes_few c.requires l.i (omega arith))

pub returns : goal.returns
returns c = sum_done c.args.task c.args.takes.now c.args.tasks c.loop-i.invariant (omega arith)
