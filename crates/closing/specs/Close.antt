-- Document 01, "Closing": the closed table of an open one, and what the closer answers.
use Rattle.std.specs.Prelude.{ℕ, zero, suc, Bool, true, false, ◌&&◌, List, [], ◌∷◌, map, length, eqb, ltb}
use Rattle.table.specs.Mask.{pick, members, mask_of}
use Rattle.table.specs.Table.{node_at, proc_at, removed, arcs, no_table, Act, alone, waits, signals, sends, receives, calls, returns, act, map_node}
use Rattle.table.specs.declared.Node.{Node}
use Rattle.table.specs.declared.Node.TheVariants.{Absent}
use Rattle.table.specs.declared.Slot.{Slot}
use Rattle.table.specs.declared.Queue.{Queue}
use Rattle.table.specs.declared.Proc.{Proc}
use Rattle.table.specs.declared.Table.{Table}
use Rattle.text.specs.Writer.{fault}
use Rattle.closing.specs.declared.Closing.{Closing}
use Rattle.closing.specs.Dirty.{Fact, dirty_before, dropped, blank}
use Rattle.table.specs.Reach.{mem, closure}
use Rattle.closing.specs.Closing.{for_each, up_to, dirty, is_dirty, kept}

-- f at each place of a list, counted from i
unfoldable pub map_from : {A B : Type 0} → (ℕ → A → B) → ℕ → List A → List B
map_from f i [] = []
map_from f i (x ∷ xs) = f i x ∷ map_from f (suc i) xs

module _ (t : Table) (d : List Fact) where
  -- ---- new arcs

  -- the arcs of a procedure's nodes that are not kept
  unfoldable pub unkept_arcs : ℕ → List (ℕ × ℕ)
  unkept_arcs p = for_each (up_to (length (proc_at t p).slots)) (λ n. elim (kept d p n (node_at t p n)) [ true ↦ [] | false ↦ map (λ m. (n, m)) (arcs (node_at t p n)) ])

  -- the kept nodes among some
  unfoldable pub kept_among : ℕ → List ℕ → ℕ
  kept_among p ms = mask_of 32 (λ k. mem eqb k ms && kept d p k (node_at t p k))

  -- "the new arc lists exactly the kept nodes reached through nodes that are not kept"
  unfoldable pub new_arc : ℕ → List (ℕ × ℕ) → ℕ → ℕ
  new_arc p es m = kept_among p (closure eqb (members m) es)

  -- ---- what a kept node becomes

  -- the variable at place i of a node gives way to `-`
  abbrev pub gives_way : ℕ → ℕ → Act → ℕ → ℕ → Bool
  gives_way p n (sends q w) i v = is_dirty d (blank q)
  gives_way p n (receives q w) i v = is_dirty d (blank q)
  gives_way p n (calls q xs) i v = ltb i xs.len && is_dirty d (dropped q i)
  gives_way p n alone i v = is_dirty d (dirty_before p n v)
  gives_way p n (waits s) i v = false
  gives_way p n (signals s) i v = false
  gives_way p n returns i v = false

  abbrev pub var_or : ℕ → ℕ → Act → ℕ → ℕ → ℕ
  var_or p n a i v = pick (gives_way p n a i v) removed v

  unfoldable pub closed_node : ℕ → ℕ → (ℕ → ℕ) → Node → Node
  closed_node p n arc x = map_node arc (var_or p n (act x)) x

  -- a node that is not kept leaves its number empty
  unfoldable pub closed_slot : ℕ → List (ℕ × ℕ) → ℕ → Slot → Slot
  closed_slot p es n x = elim (kept d p n x.node) [ true ↦ record { node = closed_node p n (new_arc p es) x.node } | false ↦ record { node = Absent } ]

  -- ---- the lines: "Node numbers and counts remain"

  unfoldable pub closed_proc : ℕ → Proc → Proc
  closed_proc p q = record {
    params = q.params;
    vars = q.vars;
    nodes = q.nodes;
    drop = mask_of q.params (λ i. is_dirty d (dropped p i));
    slots = map_from (closed_slot p (unkept_arcs p)) 0 q.slots;
  }

  abbrev pub closed_queue : ℕ → Queue → Queue
  closed_queue i q = record { cap = q.cap; blank = is_dirty d (blank i) }

  unfoldable pub closed_with : Table
  closed_with = record {
    trap = t.trap;
    closed = true;
    tasks = t.tasks;
    procs = t.procs;
    sems = t.sems;
    queues = t.queues;
    task = t.task;
    sem = t.sem;
    queue = map_from closed_queue 0 t.queue;
    proc = map_from closed_proc 0 t.proc;
  }

-- the closed table of an open one
unfoldable pub close_table : Table → Table
close_table t = closed_with t (dirty t)

-- ---- the answer

abbrev pub refusal : ℕ → Closing
refusal n = record { number = n; line = 0; table = no_table }

-- "Closer: 9, table is closed", after a hand-made table's faults
abbrev pub answer : Table → ℕ → Bool → Closing
answer t zero false = record { number = 0; line = 0; table = close_table t }
answer t zero true = refusal 9
answer t (suc n) c = refusal (suc n)

unfoldable pub close : Table → Closing
close t = answer t (fault t) t.closed
