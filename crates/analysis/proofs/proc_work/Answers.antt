use Rattle.analysis.specs.Todo.{leads_low, leads_below}
use Rattle.analysis.specs.Work.{along_start, along_end, going_end}
use Rattle.analysis.specs.WorklistLaws.{seen_less, seen_along, toward_lowest, toward_along, toward_end, toward_done}
use Rattle.analysis.proofs.proc_work.Goals as goal

pub loop-next-init : goal.loop-next-init
loop-next-init c = let h = c.loop-todo in
    let z = c.loop-todo-test.true in
    let d = leads_low c.args.p h.todo h.invariant.going.todo z c.target.ensures in
    record { low = d.low; along = along_start _ _ h.invariant.going.masks h.invariant.going.todo d; toward = toward_lowest _ _ _ _ z c.target.ensures }

pub loop-next-smaller : goal.loop-next-smaller
loop-next-smaller c = let b = c.requires in
    let f = c.visit-next.ensures in
    seen_less c.in-Some.n b.0 b.1.1.1.0 c.loop-next.invariant.along c.in-Some.is c.take.ensures f.list f.todo

pub loop-next-preserved : goal.loop-next-preserved
loop-next-preserved c = let b = c.requires in
    let h = c.loop-next.invariant in
    let t = c.take.ensures in
    let f = c.visit-next.ensures in
    let a = seen_along c.in-Some.n b.0 b.1.1.1.0 h.along c.in-Some.is t f.list f.todo f.next in
    record { low = leads_below a.leads; along = a; toward = toward_along c.in-Some.n h.toward c.in-Some.is t f.list f.todo f.next }

pub loop-todo-preserved : goal.loop-todo-preserved
loop-todo-preserved c = let h = c.loop-todo.invariant in
    let e = c.in_default.is in
    record { going = along_end h.going c.loop-next.invariant.along e; toward = toward_end h.toward c.loop-next.invariant.toward e }

pub returns : goal.returns
returns c = let h = c.loop-todo.invariant in record { seen = toward_done h.toward c.loop-todo-test.false; works = going_end h.going c.loop-todo-test.false }
