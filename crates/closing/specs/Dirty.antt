-- Document 01, "Closing": what is dirty, as the least solution of the rules, and where the new arcs lead.
use Rattle.std.specs.Prelude.{ℕ, zero, ◌<◌, ◌≡◌, ◌≢◌}
use mathlib.Core.List.{List, Memᴰ}
use Rattle.std.proofs.Math.Option.{some}
use Rattle.std.proofs.Math.ListN.{get_elem?}
use Rattle.table.specs.Table.{node_at, proc_at, task_at, arg_list, uses, variable_set, arcs, never, if_clean, absent, keeping, sends, receives, calls, act}
use Rattle.table.specs.declared.Args.{Args}
use Rattle.table.specs.declared.Table.{Table}

pub data Fact : Type 0 where
  setting_at : ℕ → ℕ → Fact  -- procedure, node: what the node sets is a dirty setting
  entry_at : ℕ → ℕ → Fact  -- procedure, variable: entry into the procedure is a dirty setting of it
  dirty_before : ℕ → ℕ → ℕ → Fact  -- procedure, node, variable: it is dirty before the node, and so is a use of it there
  dropped : ℕ → ℕ → Fact  -- procedure, parameter
  blank : ℕ → Fact  -- queue
  deriving Discrete as Fact-discrete

-- A control path within procedure p from m to n on which no node before n sets v.
pub data Clear (t : Table) (p v : ℕ) : ℕ → ℕ → Type 0 where
  here : {n : ℕ} → Clear t p v n n
  on : {m n : ℕ} (k : ℕ) → variable_set (node_at t p m) ≢ some v → Memᴰ k (arcs (node_at t p m)) → Clear t p v k n → Clear t p v m n

pub data Dirty (t : Table) : Fact → Type 0 where
  -- "Dirty settings are the least set with: every `read`": no other kind is never kept;
  by_read : {p n : ℕ} → keeping (node_at t p n) ≡ never → Dirty t (setting_at p n)
  -- "a `set` with a dirty use": no other kind both sets and uses variables;
  by_set : {p n : ℕ} (v u : ℕ) → variable_set (node_at t p n) ≡ some v → Memᴰ u (uses (node_at t p n)) → Dirty t (dirty_before p n u) → Dirty t (setting_at p n)
  -- "a `recv` from a blank queue;
  by_recv : {p n : ℕ} (q v : ℕ) → act (node_at t p n) ≡ receives q v → Dirty t (blank q) → Dirty t (setting_at p n)
  -- entry into a procedure, for its dropped parameters."
  by_entry : {p i : ℕ} → Dirty t (dropped p i) → Dirty t (entry_at p i)
  -- "A use of v at node n is dirty if along some control path from a dirty setting of v to n, after that setting, no node before n sets v":
  -- from the node m, whose arc leads to k. "Unreached nodes count like others." That v is a variable of the procedure is no word of it: in a table without a fault it always is
  from_node : {p n v : ℕ} (m k : ℕ) → v < (proc_at t p).vars → variable_set (node_at t p m) ≡ some v → Memᴰ k (arcs (node_at t p m)) → Clear t p v k n → Dirty t (setting_at p m) → Dirty t (dirty_before p n v)
  -- or from entry, which comes before node 0. "Entry sets every other local to 0, and that is clean": no rule makes it dirty
  from_entry : {p n v : ℕ} → v < (proc_at t p).vars → Clear t p v zero n → Dirty t (entry_at p v) → Dirty t (dirty_before p n v)
  -- "A parameter is dropped if its procedure is some task's top
  top : {p i : ℕ} (k : ℕ) → i < (proc_at t p).params → k < t.tasks → (task_at t k).top ≡ p → Dirty t (dropped p i)
  -- or some call passes it a dirty use."
  passed : {q i : ℕ} (p n u : ℕ) (xs : Args) → i < (proc_at t q).params → act (node_at t p n) ≡ calls q xs → get_elem? (arg_list xs) i ≡ some u → Dirty t (dirty_before p n u) → Dirty t (dropped q i)
  -- "A queue is blank if some send to it has a dirty use."
  sent : {q : ℕ} (p n v : ℕ) → act (node_at t p n) ≡ sends q v → Dirty t (dirty_before p n v) → Dirty t (blank q)

-- "Kept: all nodes but `read`, and `set` or `test` with a dirty use." What is not kept; a place without a node is not kept either:
pub data Unkept (t : Table) (p n : ℕ) : Type 0 where
  no_node : keeping (node_at t p n) ≡ absent → Unkept t p n
  a_read : keeping (node_at t p n) ≡ never → Unkept t p n
  dirty_use : (u : ℕ) → keeping (node_at t p n) ≡ if_clean → Memᴰ u (uses (node_at t p n)) → Dirty t (dirty_before p n u) → Unkept t p n

-- The nodes that an arc with targets ms leads to through nodes that are not kept.
pub data Leads (t : Table) (p : ℕ) (ms : List ℕ) : ℕ → Type 0 where
  target : {m : ℕ} → Memᴰ m ms → Leads t p ms m
  through : {m : ℕ} (n : ℕ) → Unkept t p n → Memᴰ m (arcs (node_at t p n)) → Leads t p ms n → Leads t p ms m
