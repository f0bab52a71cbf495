use Rattle.analysis.specs.Ready.{Ready}
use Rattle.analysis.specs.Plans.{Scanned, Known}
use Rattle.analysis.specs.Work.{WorkUpto, Work, left_of}
use Rattle.analysis.proofs.dirty_cells.Given as goal

abbrev pub invariant-loop-p : goal.invariant-loop-p
invariant-loop-p l = Scanned l.t l.p l.recvs l.todo l.plans

abbrev pub invariant-loop-k : goal.invariant-loop-k
invariant-loop-k l = Known l.t l.recvs l.plans × ((o : Ready l.t) → WorkUpto l.t o l.k l.cells l.todo)

abbrev pub invariant-loop-p-2 : goal.invariant-loop-p-2
invariant-loop-p-2 l = Known l.t l.recvs l.plans × ((o : Ready l.t) → Work l.t o l.cells l.todo)

abbrev pub decreases-loop-p-2 : goal.decreases-loop-p-2
decreases-loop-p-2 l = left_of l.cells l.todo
