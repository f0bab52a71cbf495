use Rattle.analysis.specs.WorklistLaws.{Waking}
use Rattle.analysis.proofs.wake.Given as goal

abbrev pub invariant-loop-i : goal.invariant-loop-i
invariant-loop-i l = Waking l.recvs l.initial.todo l.todo l.i
