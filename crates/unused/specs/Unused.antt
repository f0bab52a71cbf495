-- What is asked of a table whose unused places are looked at, and the places behind a call's arguments.
use Rattle.std.specs.Prelude.{ℕ, ◌≤◌, ◌<◌, Bool, ◌||◌, ltb, eqb}
use Rattle.table.specs.Table.{proc_at}
use Rattle.table.specs.declared.Table.{Table}

-- the counts are in range
pub record Ranged (t : Table) : Type 0 where
  pub tasks : t.tasks ≤ 4
  pub sems : t.sems ≤ 8
  pub queues : t.queues ≤ 8
  pub procs : t.procs ≤ 8
  pub nodes : (p : ℕ) → p < t.procs → (proc_at t p).nodes ≤ 32

abbrev pub spare : ℕ → ℕ → ℕ → Bool
spare len k v = ltb k len || eqb v 0
