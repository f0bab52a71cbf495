use Rattle.std.proofs.Common.{◌∙◌}
use Rattle.analysis.specs.StepLaws.{places, step_is}
use Rattle.analysis.specs.WorklistLaws.{reached_sized, todo_is, next_is}
use Rattle.analysis.proofs.spread.Goals as goal

pub reach-on-requires : goal.reach-on-requires
reach-on-requires c = (c.requires.0, ((places _ _ _ _ c.requires.1.0 c.flow_of-f.ensures).first_low, c.requires.1.1))

pub reach-requires : goal.reach-requires
reach-requires c = let f = places _ _ _ _ c.requires.1.0 c.flow_of-f.ensures in
    let e = c.reach-on.ensures in
    (c.requires.0, (f.second_low, reached_sized c.args.cells.now c.args.todo.now c.args.p _ _ c.requires.0 f.first_low c.requires.1.1 e.list e.todo))

pub pass_on-requires : goal.pass_on-requires
pass_on-requires c = let f = places _ _ _ _ c.requires.1.0 c.flow_of-f.ensures in
    let e = c.reach-on.ensures in
    let d = c.reach.ensures in
    let s = reached_sized c.args.cells.now c.args.todo.now c.args.p _ _ c.requires.0 f.first_low c.requires.1.1 e.list e.todo in
    (f.extra_high, (f.extra_low, reached_sized _ _ c.args.p _ _ c.requires.0 f.second_low s d.list d.todo))

pub returns : goal.returns
returns c = let b = c.args in
    let f = c.flow_of-f.ensures in
    let e = c.reach-on.ensures in
    let d = c.reach.ensures in
    record {
      list = step_is _ _ _ _ b.p _ _ _ f e.list d.list c.pass_on.ensures.list;
      todo = todo_is b.recvs.now _ _ _ _ _ _ _ b.p _ _ _ f e.list d.list e.todo d.todo c.pass_on.ensures.todo;
      next = c.then_some.ensures ∙ next_is b.cells.now _ b.p _ _ _ f e.new;
    }
