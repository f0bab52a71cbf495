-- What the closer needs of a table. Each holds of an open table without a fault.
use Rattle.std.specs.Prelude.{ℕ, ◌<◌, ◌≤◌, ◌≡◌, ◌⊎◌, length}
use mathlib.Core.List.{[], ◌∷◌, Memᴰ}
use Rattle.std.proofs.Math.Option.{some}
use Rattle.table.specs.Mask.{members}
use Rattle.table.specs.Table.{task_at, proc_at, node_at, arg_at, Exit, ends, by, either, Act, alone, waits, signals, sends, receives, calls, returns, parts, uses, variable_set, act}
use Rattle.table.specs.declared.Node.{Node}
use Rattle.table.specs.declared.Node.TheVariants.{Absent}
use Rattle.table.specs.declared.Table.{Table}

-- an arc with one target
pub record One (m : ℕ) : Type 0 where
  pub at : ℕ
  pub is : members m ≡ at ∷ []

abbrev pub FitsExit : Exit → Type 0
FitsExit ends = Unit {0}
FitsExit (by m) = One m
FitsExit (either y n) = One y × One n

-- of a procedure with so many variables
abbrev pub FitsAct : Table → ℕ → Act → Type 0
FitsAct t vars alone = Unit {0}
FitsAct t vars (waits s) = Unit {0}
FitsAct t vars (signals s) = Unit {0}
FitsAct t vars (sends q v) = (q < 8) × (v < vars)
FitsAct t vars (receives q v) = q < 8
FitsAct t vars (calls q xs) = (q < 8) × (xs.len ≤ (proc_at t q).params) × ((i : ℕ) → i < xs.len → arg_at xs i < vars)
FitsAct t vars returns = Unit {0}

pub record FitsNode (t : Table) (vars : ℕ) (x : Node) : Type 0 where
  pub uses : (u : ℕ) → Memᴰ u (uses x) → u < vars
  pub sets : (v : ℕ) → variable_set x ≡ some v → v < vars
  pub act : FitsAct t vars (act x)
  pub exit : FitsExit (parts x).exit

pub record Ready (t : Table) : Type 0 where
  pub procs_size : length t.proc ≡ 8
  pub slots_size : (p : ℕ) → p < 8 → length (proc_at t p).slots ≡ 32
  pub queues_size : length t.queue ≡ 8
  pub procs_few : t.procs ≤ 8
  pub nodes_few : (p : ℕ) → (proc_at t p).nodes ≤ 32
  pub tasks_few : t.tasks ≤ 4
  pub tops_low : (k : ℕ) → k < t.tasks → (task_at t k).top < 8
  pub params_few : (p : ℕ) → (proc_at t p).params ≤ 4
  pub params_are_vars : (p : ℕ) → (proc_at t p).params ≤ (proc_at t p).vars
  pub vars_few : (p : ℕ) → (proc_at t p).vars ≤ 16
  pub fits : (p n : ℕ) → FitsNode t (proc_at t p).vars (node_at t p n)
  -- places at or beyond the counts have no node
  pub beyond : (p n : ℕ) → (t.procs ≤ p) ⊎ ((proc_at t p).nodes ≤ n) → node_at t p n ≡ Absent
