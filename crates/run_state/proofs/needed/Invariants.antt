use Rattle.run_state.specs.BeginLaws.{Summed}
use Rattle.run_state.proofs.needed.Given as goal

abbrev pub invariant-loop-i : goal.invariant-loop-i
invariant-loop-i l = Summed l.task l.takes l.tasks l.i l.sum
