-- What a table is that has no fault.
use Rattle.std.specs.Prelude.{ℕ, ◌≤◌, ◌<◌, ◌≡◌, ◌≢◌, true, false}
use mathlib.Core.List.{[], ◌∷◌, Memᴰ}
use Rattle.std.proofs.Math.Option.{some}
use Rattle.table.specs.Mask.{bit, members}
use Rattle.table.specs.Table.{task_at, sem_at, queue_at, proc_at, node_at, removed, arg_at, Act, alone, waits, signals, sends, receives, calls, returns, Exit, ends, by, either, parts, uses, variable_set, act, arcs, is_absent}
use Rattle.table.specs.declared.Node.{Node}
use Rattle.table.specs.declared.Node.TheVariants.{Absent, Start, Set, Test, Read, Call, Wait, Signal, Send, Recv, Assert, Out, Return}
use Rattle.table.specs.declared.Table.{Table}
use Rattle.text.specs.Format.{Scope}
use Rattle.text.specs.Reader.{count_right, removed_right}
use Rattle.text.specs.Writer.{scope, tidy}
use Rattle.text.specs.Right.{Compares, OperandIn, Within}

-- ---- nodes

-- a variable, where `-` may stand in closed form
abbrev pub Named : Scope → ℕ → Type 0
Named c v = (v ≡ removed → c.closed ≡ true) × (v ≢ removed → v < c.vars)

-- targets are 1 to n-1, and in open form there is one
abbrev pub Arc : Scope → ℕ → Type 0
Arc c m = Within 1 c.nodes (members m) × (c.closed ≡ false → (k : ℕ) × (members m ≡ k ∷ []))

-- the node at place n: node 0 is the only start, only a closed table lacks nodes, and only an open one reads.
-- A call's arguments are those of its four places; further ones repeat the fourth
abbrev pub NodeValid : Scope → ℕ → Node → Type 0
NodeValid c n Absent = (0 < n) × (c.closed ≡ true)
NodeValid c n (Start to) = (n ≡ 0) × Arc c to
NodeValid c n (Set v o a b to) = (0 < n) × (v < c.vars) × OperandIn c.vars a × OperandIn c.vars b × Arc c to
NodeValid c n (Test o a b y z) = (0 < n) × Compares o × OperandIn c.vars a × OperandIn c.vars b × Arc c y × Arc c z
NodeValid c n (Read v to) = (0 < n) × (c.closed ≡ false) × (v < c.vars) × Arc c to
NodeValid c n (Call q xs to) = (0 < n) × (q < c.procs) × ((i : ℕ) → i < xs.len → i < 4 → Named c (arg_at xs i)) × Arc c to
NodeValid c n (Wait s to) = (0 < n) × (s < c.sems) × Arc c to
NodeValid c n (Signal s to) = (0 < n) × (s < c.sems) × Arc c to
NodeValid c n (Send q v to) = (0 < n) × (q < c.queues) × Named c v × Arc c to
NodeValid c n (Recv q v to) = (0 < n) × (q < c.queues) × Named c v × Arc c to
NodeValid c n (Assert v to) = (0 < n) × Named c v × Arc c to
NodeValid c n (Out v to) = (0 < n) × Named c v × Arc c to
NodeValid c n Return = 0 < n

-- ---- a node by its parts

abbrev pub ActValid : Scope → Act → Type 0
ActValid c alone = Unit {0}
ActValid c (waits i) = i < c.sems
ActValid c (signals i) = i < c.sems
ActValid c (sends q v) = (q < c.queues) × Named c v
ActValid c (receives q v) = (q < c.queues) × Named c v
ActValid c (calls q xs) = (q < c.procs) × ((i : ℕ) → i < xs.len → i < 4 → Named c (arg_at xs i))
ActValid c returns = Unit {0}

abbrev pub ExitValid : Scope → Exit → Type 0
ExitValid c ends = Unit {0}
ExitValid c (by m) = Arc c m
ExitValid c (either y n) = Arc c y × Arc c n

pub record PartsValid (c : Scope) (n : ℕ) (x : Node) : Type 0 where
  pub start : n ≡ 0 → (to : ℕ) × (x ≡ Start to)
  pub act : ActValid c (act x)
  pub exit : ExitValid c (parts x).exit
  -- in open form every variable is one of the procedure's
  pub uses : c.closed ≡ false → (u : ℕ) → Memᴰ u (uses x) → u < c.vars
  pub sets : c.closed ≡ false → (v : ℕ) → variable_set x ≡ some v → v < c.vars

-- ---- lines

pub record ProcValid (t : Table) (p : ℕ) : Type 0 where
  pub params : (proc_at t p).params ≤ 4
  pub vars_low : (proc_at t p).params ≤ (proc_at t p).vars
  pub vars : (proc_at t p).vars ≤ 16
  pub nodes_low : 2 ≤ (proc_at t p).nodes
  pub nodes : (proc_at t p).nodes ≤ 32
  pub drop : t.closed ≡ true → Within 0 (proc_at t p).params (members (proc_at t p).drop)
  pub node : (n : ℕ) → n < (proc_at t p).nodes → NodeValid (scope t (proc_at t p)) n (node_at t p n)

-- no line of a table has a fault
pub record Lined (t : Table) : Type 0 where
  pub trap : t.trap ≡ 1
  pub tasks_low : 1 ≤ t.tasks
  pub tasks : t.tasks ≤ 4
  pub procs_low : 1 ≤ t.procs
  pub procs : t.procs ≤ 8
  pub sems : t.sems ≤ 8
  pub queues : t.queues ≤ 8
  pub top : (i : ℕ) → i < t.tasks → (task_at t i).top < t.procs
  pub count : (i : ℕ) → i < t.sems → (sem_at t i).count ≤ 255
  pub cap : (i : ℕ) → i < t.queues → (1 ≤ (queue_at t i).cap) × ((queue_at t i).cap ≤ 8)
  pub proc : (p : ℕ) → p < t.procs → ProcValid t p

-- ---- tables

pub record Valid (t : Table) : Type 0 where
  pub lines : Lined t
  -- "a task's top procedure there drops all parameters"
  pub dropped : t.closed ≡ true → (i : ℕ) → i < t.tasks → (j : ℕ) → j < (proc_at t (task_at t i).top).params → bit j (proc_at t (task_at t i).top).drop ≡ true
  pub counts : (p n : ℕ) → p < t.procs → n < (proc_at t p).nodes → count_right t (node_at t p n) ≡ true
  -- in closed form every target is a node, and `-` stands where it must
  pub present : t.closed ≡ true → (p n : ℕ) → p < t.procs → n < (proc_at t p).nodes → (m : ℕ) → Memᴰ m (arcs (node_at t p n)) → is_absent (node_at t p m) ≡ false
  pub removals : t.closed ≡ true → (p n : ℕ) → p < t.procs → n < (proc_at t p).nodes → removed_right t (node_at t p n) ≡ true
  pub unused : tidy t ≡ true
