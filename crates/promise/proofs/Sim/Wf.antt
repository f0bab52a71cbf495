-- What the reader grants of an open table without a fault: all that the proof of demand 3 asks of it.
use Rattle.std.specs.Prelude.{ℕ, zero, ◌<◌, ◌≤◌, ◌≡◌, false}
use Rattle.std.proofs.Math.Option.{some}
use mathlib.Core.List.{[], ◌∷◌, Memᴰ}
use Rattle.table.specs.Mask.{members}
use Rattle.table.specs.Table.{node_at, proc_at, task_at, Exit, ends, by, either, Act, alone, waits, signals, sends, receives, calls, returns, parts, uses, variable_set, act, arcs, is_absent}
use Rattle.table.specs.declared.Node.TheVariants.{Start}
use Rattle.table.specs.declared.Table.{Table}

-- an arc with one target
abbrev pub Single : ℕ → Type 0
Single a = (m : ℕ) × (members a ≡ m ∷ [])

-- "Targets are .. one in open form"
abbrev pub OneTarget : Exit → Type 0
OneTarget ends = Unit {0}
OneTarget (by m) = Single m
OneTarget (either y n) = Single y × Single n

-- procedure p begins with a `start`
abbrev pub Begins : Table → ℕ → Type 0
Begins t p = (to : ℕ) × (node_at t p zero ≡ Start to)

-- what a node acts on is declared, and a call has as many arguments as the callee has parameters
abbrev pub Declared : Table → Act → Type 0
Declared t alone = Unit {0}
Declared t (waits i) = i < t.sems
Declared t (signals i) = i < t.sems
Declared t (sends q v) = q < t.queues
Declared t (receives q v) = q < t.queues
Declared t (calls q xs) = (xs.len ≡ (proc_at t q).params) × Begins t q
Declared t returns = Unit {0}

pub record Wf (t : Table) : Type 0 where
  pub tasks : t.tasks ≤ 4
  pub params : (p : ℕ) → (proc_at t p).params ≤ 4
  pub vars : (p : ℕ) → (proc_at t p).vars ≤ 16
  pub uses< : (p n u : ℕ) → Memᴰ u (uses (node_at t p n)) → u < (proc_at t p).vars
  pub sets< : (p n v : ℕ) → variable_set (node_at t p n) ≡ some v → v < (proc_at t p).vars
  pub one : (p n : ℕ) → OneTarget (parts (node_at t p n)).exit
  pub declared : (p n : ℕ) → Declared t (act (node_at t p n))
  pub present : (p n m : ℕ) → Memᴰ m (arcs (node_at t p n)) → is_absent (node_at t p m) ≡ false
  pub tops : (k : ℕ) → k < t.tasks → Begins t (task_at t k).top
