use Rattle.std.proofs.Common.{arith}
use Rattle.reach.specs.ReachLaws.{visits_start, visits_next, visits_less, search_next, search_less, search_end}
use Rattle.reach.proofs.reach.Goals as goal

pub loop-left-init : goal.loop-left-init
loop-left-init c = visits_start _ _ _ c.requires c.own-cells.ensures (omega arith)

pub loop-left-smaller : goal.loop-left-smaller
loop-left-smaller c = visits_less _ _ _ c.loop-left.invariant c.loop-left-test.true c.last-n.ensures c.step-again.ensures.list c.step-again.ensures.flag c.next-todo.ensures c.note.ensures c.minus-left.ensures

pub loop-left-preserved : goal.loop-left-preserved
loop-left-preserved c = visits_next _ _ _ c.loop-left.invariant c.loop-left-test.true c.last-n.ensures c.step-again.ensures.list c.step-again.ensures.flag c.next-todo.ensures c.note.ensures c.minus-left.ensures

pub loop-todo-smaller : goal.loop-todo-smaller
loop-todo-smaller c = search_less _ _ _ c.loop-todo.invariant c.loop-todo-test.true c.last-i.ensures c.loop-left.invariant c.loop-left-test.false c.step-fresh.ensures.list c.step-fresh.ensures.flag c.next-todo-in-loop-todo.ensures

pub loop-todo-preserved : goal.loop-todo-preserved
loop-todo-preserved c = search_next _ _ _ c.loop-todo.invariant c.loop-todo-test.true c.last-i.ensures c.loop-left.invariant c.loop-left-test.false c.step-fresh.ensures.list c.step-fresh.ensures.flag c.next-todo-in-loop-todo.ensures

pub returns : goal.returns
returns c = search_end _ _ c.loop-todo.invariant c.loop-todo-test.false
