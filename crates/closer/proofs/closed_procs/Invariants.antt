use Rattle.std.proofs.Common.{get_or, ℕ, ◌≤◌, ◌<◌, ◌≡◌}
use Rattle.closer.specs.Parts.{ClosedProc}
use Rattle.table.specs.Table.{proc_at, outside}
use Rattle.closer.proofs.closed_procs.Given as goal

abbrev pub invariant-loop-p : goal.invariant-loop-p
invariant-loop-p l = record {
  done : (a : ℕ) → a < l.p → ClosedProc (proc_at l.fn.t a) a l.cells (get_or l.q-items a outside);
  rest : (a : ℕ) → l.p ≤ a → get_or l.q-items a outside ≡ proc_at l.fn.t a;
}
