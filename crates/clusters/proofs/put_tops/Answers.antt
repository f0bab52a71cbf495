use Rattle.std.proofs.Common.{sym, ◌∙◌, arith}
use Rattle.clusters.specs.ClusterLaws.{tops_put}
use Rattle.arcs.specs.ListedLaws.{listed_start, listed_place, listed_few, listed_held, listed_passed, listed_end}
use Rattle.clusters.proofs.put_tops.Goals as goal
use Rattle.clusters.proofs.put_tops.Goals.{then-has, else-has}

pub loop-k-init : goal.loop-k-init
loop-k-init c = listed_start _

pub put_top-a-requires : goal.put_top-a-requires
put_top-a-requires c = omega (arith, listed_place c.loop-k.invariant (omega arith))

pub overflow_add-i : goal.overflow_add-i
overflow_add-i c = omega (arith, listed_few c.loop-k.invariant (omega arith))

pub loop-k-preserved : goal.loop-k-preserved
loop-k-preserved c =
    elim c.if-has.branch [
      | then-has w ↦ rw (w.out-is, w.a-is, w.i-is) (listed_held c.loop-k.invariant c.loop-k-test.true (sym w.if-has.true ∙ c.has.ensures) w.put_top-a.ensures)
      | else-has w ↦ rw (w.out-is, w.a-is, w.i-is) (listed_passed c.loop-k.invariant c.loop-k-test.true (sym w.if-has.false ∙ c.has.ensures))
    ]

pub returns : goal.returns
returns c = tops_put _ _ c.count-n.ensures (listed_end c.loop-k.invariant (omega arith) (omega arith))
