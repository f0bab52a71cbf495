use Rattle.std.proofs.Common.{sym, ◌∙◌, arith}
use Rattle.arcs.specs.ListedLaws.{listed_start, listed_place, listed_few, listed_held, listed_passed, listed_end}
use Rattle.arcs.proofs.put_edges.Goals as goal
use Rattle.arcs.proofs.put_edges.Goals.{then-has, else-has}

pub loop-m-init : goal.loop-m-init
loop-m-init c = listed_start _

pub put_edge-a-requires : goal.put_edge-a-requires
put_edge-a-requires c = (omega (arith, listed_place c.loop-m.invariant (omega arith)), c.requires.1)

pub overflow_add-i : goal.overflow_add-i
overflow_add-i c = omega (arith, listed_few c.loop-m.invariant (omega arith))

pub loop-m-preserved : goal.loop-m-preserved
loop-m-preserved c =
    elim c.if-has.branch [
      | then-has w ↦ rw (w.out-is, w.a-is, w.i-is) (listed_held c.loop-m.invariant c.loop-m-test.true (sym w.if-has.true ∙ c.has.ensures) w.put_edge-a.ensures)
      | else-has w ↦ rw (w.out-is, w.a-is, w.i-is) (listed_passed c.loop-m.invariant c.loop-m-test.true (sym w.if-has.false ∙ c.has.ensures))
    ]

pub returns : goal.returns
returns c = listed_end c.loop-m.invariant (omega arith) (omega arith)
