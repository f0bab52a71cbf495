-- `run_state::begin` takes the inputs, task by task, if the values last for all of them.
use Rattle.std.proofs.Common.{rules, arith}
use Rattle.run_state.specs.BeginLaws.{tops_low, takes_few, begins_spent, begins_with, take_first, take_more, take_room, take_done}
use Rattle.run_state.proofs.begin.Goals as goal

pub needed-requires : goal.needed-requires
needed-requires c = c.requires.0

pub returns-then-values-needed : goal.returns-then-values-needed
returns-then-values-needed c = λ t h.
    begins_spent h c.args.values.now c.args.cells.now (omega (arith, c.if-values-needed.true, c.needed.ensures)) c.requires.1

pub loop-i-init : goal.loop-i-init
loop-i-init c = take_first c.args.task c.args.takes.now c.args.tasks c.args.values.now c.args.cells.now c.requires.1

pub bounds-takes-p : goal.bounds-takes-p
bounds-takes-p c = tops_low c.requires.0 c.loop-i.i (omega arith)

pub input_row-requires : goal.input_row-requires
input_row-requires c = let l = c.loop-i in (
  takes_few c.requires.0 l.i (omega arith),
  take_room c.args.task c.args.takes.now c.args.tasks c.args.values.now l.invariant (omega arith) (omega (arith, c.if-values-needed.false, c.needed.ensures)),
)

pub overflow_cast-used : goal.overflow_cast-used
overflow_cast-used c = let l = c.loop-i in
    let h = takes_few c.requires.0 l.i (omega arith) in
    search rules

pub overflow_add-used : goal.overflow_add-used
overflow_add-used c = let l = c.loop-i in
    let r = take_room c.args.task c.args.takes.now c.args.tasks c.args.values.now l.invariant (omega arith) (omega (arith, c.if-values-needed.false, c.needed.ensures)) in
    omega (arith, r, c.well_formed)

pub loop-i-preserved : goal.loop-i-preserved
loop-i-preserved c = let l = c.loop-i in
    take_more c.args.task c.args.takes.now c.args.tasks c.args.values.now l.invariant c.input_row.result (omega arith) c.input_row.ensures

pub returns : goal.returns
returns c = λ t h.
    let l = c.loop-i in
    let d = take_done c.args.task c.args.takes.now c.args.tasks c.args.values.now l.invariant (omega arith) in
    begins_with h c.args.values.now l.used l.cells d.0 (omega (arith, d.0, c.if-values-needed.false, c.needed.ensures)) d.1
