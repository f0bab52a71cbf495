-- The parts of a closed table, as the code computes them from the masks of what is dirty and of where each node leads.
use Rattle.std.specs.Prelude.{ℕ, ◌+◌, ◌*◌, ◌%◌, ◌<◌, ◌≤◌, ◌≡◌, not, ◌&&◌, List, length, get_or, ltb}
use Rattle.table.specs.Mask.{pick, bit, mask_of}
use Rattle.table.specs.Table.{removed, node_in, no_slot, no_queue, Act, alone, waits, signals, sends, receives, calls, returns, act, parts, map_args, map_node}
use Rattle.table.specs.declared.Args.{Args}
use Rattle.table.specs.declared.Node.{Node}
use Rattle.table.specs.declared.Node.TheVariants.{Absent}
use Rattle.table.specs.declared.Slot.{Slot}
use Rattle.table.specs.declared.Queue.{Queue}
use Rattle.table.specs.declared.Proc.{Proc}
use Rattle.masks.specs.Cells.{cell, Filled}
use Rattle.flow.specs.Flow.{low, first_to, second_to}
use Rattle.analysis.specs.Steps.{kept_in}
use Rattle.reach.specs.Reach.{Reaches}

-- two targets as one number
abbrev pub two_ends : ℕ → ℕ → ℕ
two_ends f s = f * 32 + s

-- the two targets of a node
abbrev pub end_of : Node → ℕ → ℕ
end_of x n = two_ends (first_to n (parts x).exit) (second_to n (parts x).exit)

-- d: the callee's dropped parameters
abbrev pub arg_with : ℕ → ℕ → ℕ → ℕ → ℕ
arg_with d len k v = pick (ltb k len && bit (k % 32) d) removed v

abbrev pub args_with : ℕ → Args → Args
args_with d x = map_args (arg_with d x.len) x

-- a kept node in the closed table. i: the variables that are dirty before it; d: the dropped parameters of each procedure; b: the blank
-- queues; arc: the new arc for an open one
module _ (i : ℕ) (d : ℕ → ℕ) (b : ℕ) where
  abbrev pub var_with : Act → ℕ → ℕ → ℕ
  var_with alone k v = pick (bit (v % 32) i) removed v
  var_with (waits s) k v = v
  var_with (signals s) k v = v
  var_with (sends q w) k v = pick (bit (q % 32) b) removed v
  var_with (receives q w) k v = pick (bit (q % 32) b) removed v
  var_with (calls q xs) k v = arg_with (d q) xs.len k v
  var_with returns k v = v

  unfoldable pub node_with : (ℕ → ℕ) → Node → Node
  node_with arc x = map_node arc (var_with (act x)) x

-- l: the cells
abbrev pub drop_in : List ℕ → ℕ → ℕ
drop_in l q = cell l (256 + q % 8)

-- arcs: where each node leads
abbrev pub arc_in : List ℕ → ℕ → ℕ
arc_in arcs to = cell arcs (low to)

unfoldable pub slot_with : Proc → ℕ → ℕ → List ℕ → List ℕ → ℕ → Slot
slot_with q base kept l arcs n = record { node = pick (bit (n % 32) kept) (node_with (cell l (base + n)) (drop_in l) (cell l 264) (arc_in arcs) (node_in q n)) Absent }

abbrev pub queue_with : ℕ → ℕ → Queue → Queue
queue_with b i q = record { cap = q.cap; blank = bit (i % 32) b }

-- the closed queues r of the open ones, from the blank queues b
abbrev pub ClosedQueues : ℕ → List Queue → List Queue → Type 0
ClosedQueues b queues r = (length r ≡ 8) × ((i : ℕ) → i < 8 → get_or r i no_queue ≡ queue_with b i (get_or queues i no_queue))

-- a procedure of at most 32 nodes that has none at a place at or beyond their number
pub record Counted (q : Proc) : Type 0 where
  pub few : q.nodes ≤ 32
  pub beyond : (n : ℕ) → q.nodes ≤ n → node_in q n ≡ Absent

-- the first n nodes of q, kept or gone, and their targets; every further place has itself as its targets
pub record Sorted (q : Proc) (base : ℕ) (l : List ℕ) (n kept gone : ℕ) (ends : List ℕ) : Type 0 where
  pub kept_is : kept ≡ mask_of n (kept_in q base l)
  pub gone_is : gone ≡ mask_of n (λ a. not (kept_in q base l a))
  pub size : length ends ≡ 32
  pub done : Filled (λ a. end_of (node_in q a) a) n ends
  pub rest : (a : ℕ) → n ≤ a → a < 32 → get_or ends a 0 ≡ two_ends a a

-- the procedure r on the way to being closed: the first k nodes of q are, the others stand as they were
pub record Upto (q : Proc) (base kept : ℕ) (l arcs : List ℕ) (k : ℕ) (r : Proc) : Type 0 where
  pub head : r ≡ record { params = q.params; vars = q.vars; nodes = q.nodes; drop = q.drop; slots = r.slots }
  pub size : length r.slots ≡ 32
  pub done : (n : ℕ) → n < k → get_or r.slots n no_slot ≡ slot_with q base kept l arcs n
  pub rest : (n : ℕ) → k ≤ n → get_or r.slots n no_slot ≡ get_or q.slots n no_slot

-- the closed procedure r of the open one q, from the cells l
pub record ClosedProc (q : Proc) (p : ℕ) (l : List ℕ) (r : Proc) : Type 0 where
  pub ends : List ℕ
  pub ends_are : Filled (λ n. end_of (node_in q n) n) 32 ends
  pub arcs : List ℕ
  pub reaches : Reaches (mask_of 32 (kept_in q (p * 32) l)) ends arcs
  pub slots : List Slot
  pub size : length slots ≡ 32
  pub slots_are : (n : ℕ) → n < 32 → get_or slots n no_slot ≡ slot_with q (p * 32) (mask_of 32 (kept_in q (p * 32) l)) l arcs n
  pub is : r ≡ record { params = q.params; vars = q.vars; nodes = q.nodes; drop = cell l (256 + p) % 256; slots = slots }
