-- What holds of every value of the declared type `Table`.
use Rattle.std.specs.Prelude.{ℕ, ◌<◌, ◌^◌, ◌≡◌, length}
use Rattle.table.specs.declared.Table.{Table}
use Rattle.table.specs.Table.{proc_at, node_at, arc_to, arc_no}

-- the lengths of its arrays, and masks of 32 places
pub record Shaped (t : Table) : Type 0 where
  pub tasks : length t.task ≡ 4
  pub sems : length t.sem ≡ 8
  pub queues : length t.queue ≡ 8
  pub procs : length t.proc ≡ 8
  pub slots : (p : ℕ) → p < 8 → length (proc_at t p).slots ≡ 32
  pub drops : (p : ℕ) → (proc_at t p).drop < 2 ^ 32
  pub arcs : (p n : ℕ) → (arc_to (node_at t p n) < 2 ^ 32) × (arc_no (node_at t p n) < 2 ^ 32)
