use Rattle.std.proofs.Common.{◌≡◌, List, ℕ}
use Rattle.table.specs.declared.Task.{Task}
use Rattle.machine.specs.State.{with_sems}
use Rattle.run_state.specs.Arrays.{marks_of}
use Rattle.run_state.specs.Begins.{started, counted}
use Rattle.run_state.proofs.first.Given as goal

abbrev pub invariant-loop-i : goal.invariant-loop-i
invariant-loop-i l = l.r ≡ marks_of (started l.task l.i)

abbrev pub invariant-loop-j : goal.invariant-loop-j
invariant-loop-j l = (task : List Task) (n : ℕ) → l.initial.r ≡ marks_of (started task n) → l.r ≡ marks_of (with_sems (started task n) (counted l.sem l.j))
