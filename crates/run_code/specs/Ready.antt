-- What the run of a table leans on. All of it holds of a table that has no fault, with the masks of its kept nodes.
use Rattle.std.specs.Prelude.{ℕ, ◌<◌, ◌≤◌, ◌≡◌, List, length, get_or}
use Rattle.table.specs.Mask.{bit}
use Rattle.table.specs.Table.{task_at, queue_at, proc_at, node_at}
use Rattle.table.specs.declared.Node.{Node}
use Rattle.table.specs.declared.Node.TheVariants.{Absent, Start, Set, Test, Read, Call, Wait, Signal, Send, Recv, Assert, Out, Return}
use Rattle.table.specs.declared.Table.{Table}
use Rattle.text.specs.Right.{OperandIn}
use Rattle.machine.specs.Step.{kept_in}

-- what a node names has a place, and its constants are values
unfoldable pub Placed : Node → Type 0
Placed Absent = Unit {0}
Placed (Start to) = Unit {0}
Placed (Set v o a b to) = OperandIn 16 a × OperandIn 16 b
Placed (Test o a b y n) = OperandIn 16 a × OperandIn 16 b
Placed (Read v to) = Unit {0}
Placed (Call q xs to) = (q < 8) × (xs.len ≤ 4)
Placed (Wait i to) = i < 8
Placed (Signal i to) = i < 8
Placed (Send q v to) = q < 8
Placed (Recv q v to) = q < 8
Placed (Assert v to) = Unit {0}
Placed (Out v to) = Unit {0}
Placed Return = Unit {0}

pub record Ready (t : Table) (keep : List ℕ) : Type 0 where
  pub tasks : t.tasks ≤ 4
  pub procs : t.procs ≤ 8
  pub counts : (p : ℕ) → (proc_at t p).nodes ≤ 32
  pub sems : length t.sem ≡ 8
  pub queues : length t.queue ≡ 8
  pub tops : (i : ℕ) → i < t.tasks → (task_at t i).top < t.procs
  pub params : (p : ℕ) → (proc_at t p).params ≤ 4
  pub caps : (q : ℕ) → (queue_at t q).cap ≤ 8
  pub nodes : (p n : ℕ) → Placed (node_at t p n)
  -- places at or beyond the counts have no node
  pub beyond : (p n : ℕ) → (p < t.procs → n < (proc_at t p).nodes → ⊥) → node_at t p n ≡ Absent
  -- bit n of mask p says whether node n of procedure p counts as kept
  pub keeps : (p n : ℕ) → p < 8 → n < 32 → bit n (get_or keep p 0) ≡ kept_in t p n
