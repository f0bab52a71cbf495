-- Document 01, "Closing": the closed table of an open one, and what the closer answers, by the rules of Dirty alone. Of the closed table nothing is computed.
use Rattle.std.specs.Prelude.{ℕ, ◌<◌, ◌≡◌, true, false, ◌≢◌, ◌↔◌, length}
use Rattle.table.specs.Mask.{bit, members}
use Rattle.table.specs.Table.{no_table, queue_at, proc_at, node_at, removed, Act, alone, waits, signals, sends, receives, calls, returns, act, map_node}
use Rattle.table.specs.declared.Node.{Node}
use Rattle.table.specs.declared.Node.TheVariants.{Absent}
use Rattle.table.specs.declared.Table.{Table}
use Rattle.text.specs.Writer.{fault}
use Rattle.closing.specs.declared.Closing.{Closing}
use Rattle.closing.specs.Dirty.{dirty_before, dropped, blank, Dirty, Unkept, Leads}

-- "From each arc of a kept node, the new arc lists exactly the kept nodes reached through nodes that are not kept": arc m of procedure p becomes m'.
-- "One target: a plain arc. Two or more: a toss, value i choosing the i-th from 0 .. None: `none`": an arc is the set of its targets, and their number says which it is.
abbrev pub NewArc : Table → ℕ → ℕ → ℕ → Type 0
NewArc t p m m' = (k : ℕ) → (bit k m' ≡ true) ↔ (Leads t p (members m) k × (Unkept t p k → ⊥))

-- "`-` stands as described": what lets variable v give way to it at place i of a node, n of procedure p, by what the node does
abbrev pub GivesWay : Table → ℕ → ℕ → Act → ℕ → ℕ → Type 0
-- "in `send` and `recv` if and only if the queue is blank,
GivesWay t p n (sends q w) i v = Dirty t (blank q)
GivesWay t p n (receives q w) i v = Dirty t (blank q)
-- in `args` if and only if the parameter is dropped"; of the four places those behind the arguments stay
GivesWay t p n (calls q xs) i v = (i < xs.len) × Dirty t (dropped q i)
-- "a `-` in `assert` or `out` is written if and only if that use is dirty": of the nodes that act alone no other has such a place,
GivesWay t p n alone i v = Dirty t (dirty_before p n v)
-- nor have these
GivesWay t p n (waits s) i v = ⊥
GivesWay t p n (signals s) i v = ⊥
GivesWay t p n returns i v = ⊥

-- variable v becomes w, which is `-` if P holds, and v if not
abbrev pub Marked : Type 0 → ℕ → ℕ → Type 0
Marked P v w = (P → w ≡ removed) × ((P → ⊥) → w ≡ v)

-- What a kept node x, n of procedure p, becomes: the same line, but for its arcs and for `-`, both of which are determined.
pub record Becomes (t : Table) (p n : ℕ) (x y : Node) : Type 0 where
  pub arc : ℕ → ℕ
  pub var : ℕ → ℕ → ℕ
  pub new_arcs : (m : ℕ) → NewArc t p m (arc m)
  pub marks : (i v : ℕ) → Marked (GivesWay t p n (act x) i v) v (var i v)
  pub same_line : y ≡ map_node arc var x

-- c is the closed table of t.
pub record ClosedTable (t c : Table) : Type 0 where
  pub closed : c.closed ≡ true
  -- "Kept: all nodes but `read`, and `set` or `test` with a dirty use." The number of any other has no node line.
  pub kept : (p n : ℕ) → (Unkept t p n → ⊥) → Becomes t p n (node_at t p n) (node_at c p n)
  pub unkept : (p n : ℕ) → Unkept t p n → node_at c p n ≡ Absent
  -- "Node numbers and counts remain": of the table, with the lines of tasks and semaphores,
  pub trap : c.trap ≡ t.trap
  pub tasks : c.tasks ≡ t.tasks
  pub procs : c.procs ≡ t.procs
  pub sems : c.sems ≡ t.sems
  pub queues : c.queues ≡ t.queues
  pub task : c.task ≡ t.task
  pub sem : c.sem ≡ t.sem
  -- of its queues, as many places,
  pub queue : length c.queue ≡ length t.queue
  pub cap : (q : ℕ) → (queue_at c q).cap ≡ (queue_at t q).cap
  -- and of its procedures, as many places, each with as many for nodes
  pub proc : length c.proc ≡ length t.proc
  pub params : (p : ℕ) → (proc_at c p).params ≡ (proc_at t p).params
  pub vars : (p : ℕ) → (proc_at c p).vars ≡ (proc_at t p).vars
  pub nodes : (p : ℕ) → (proc_at c p).nodes ≡ (proc_at t p).nodes
  pub slots : (p : ℕ) → length (proc_at c p).slots ≡ length (proc_at t p).slots
  -- what the closed form adds: `blank=yes` for a blank queue, and in `drop=` the dropped parameters
  pub blank : (q : ℕ) → q < length t.queue → ((queue_at c q).blank ≡ true) ↔ Dirty t (blank q)
  pub drop : (p i : ℕ) → (bit i (proc_at c p).drop ≡ true) ↔ Dirty t (dropped p i)

-- Document 01, "Where each check is made": r is the closer's answer to t.
pub record Answers (t : Table) (r : Closing) : Type 0 where
  -- "Every call first checks a hand-made table": its number,
  pub faulty : fault t ≢ 0 → r.number ≡ fault t
  -- "Closer: 9, table is closed",
  pub nine : fault t ≡ 0 → t.closed ≡ true → r.number ≡ 9
  -- or the closed table
  pub accepted : fault t ≡ 0 → t.closed ≡ false → (r.number ≡ 0) × ClosedTable t r.table
  -- "a fault gives the reader's number with line 0", "The closer's 9 gives line 0"; "a place for one is all 0, in the closer's refusals too"
  pub line : r.line ≡ 0
  pub refused : r.number ≢ 0 → r.table ≡ no_table
