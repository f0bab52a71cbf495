use Rattle.run_state.specs.BeginLaws.{Taking}
use Rattle.run_state.proofs.begin.Given as goal

abbrev pub invariant-loop-i : goal.invariant-loop-i
invariant-loop-i l = Taking l.task l.takes l.tasks l.values l.i l.used l.cells
