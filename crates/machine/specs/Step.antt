-- Document 01, "Stepping": one step of one task, the same for open and closed tables.
use Rattle.std.specs.Prelude.{ℕ, zero, suc, ◌+◌, ◌-◌, Bool, true, false, not, ◌&&◌, List, [], ◌∷◌, ◌++◌, get_or, set, drop, eqb, ltb, ℤ, pos, negsuc}
use Rattle.std.proofs.Math.Option.{Option, none, some}
use Rattle.std.proofs.Math.ListN.{get_elem?}
use Rattle.table.specs.Mask.{pick, members}
use Rattle.table.specs.Values.{apply, holds, eq_z}
use Rattle.table.specs.Table.{node_at, arg_at, arc_to, removed, asserted}
use Rattle.table.specs.declared.Operand.{Operand}
use Rattle.table.specs.declared.Operand.TheVariants.{Var, Const}
use Rattle.table.specs.declared.Args.{Args}
use Rattle.table.specs.declared.Node.{Node}
use Rattle.table.specs.declared.Node.TheVariants.{Absent, Start, Set, Test, Read, Call, Wait, Signal, Send, Recv, Assert, Out, Return}
use Rattle.table.specs.declared.Table.{Table}
use Rattle.text.specs.Reader.{concat_from}
use Rattle.closing.specs.Closing.{dirty, kept}
use Rattle.machine.specs.declared.Frame.{Frame}
use Rattle.machine.specs.declared.Entries.{Entries}
use Rattle.machine.specs.declared.State.{State}
use Rattle.machine.specs.State.{no_frame, with_depth, with_lost, with_frames, with_sems, with_queues, open_frames, place, frame_at, topmost, sem_count, entries_at, var_at, stands_before, is_lost, blocked}

-- ---- the stops of a run, and document 01's number for each
pub data Stop : Type 0 where
  no_such_task : Stop  -- no such task
  log_full : Stop  -- fewer than 8 log bytes left
  task_lost : Stop  -- task lost
  task_blocked : Stop  -- task blocked
  too_many : Stop  -- one dropped node more than allowed
  values_spent : Stop  -- value list spent
  bad_toss : Stop  -- toss value below 0 or not below the arc's count

unfoldable pub stop_number : Stop → ℕ
stop_number no_such_task = 10
stop_number log_full = 11
stop_number task_lost = 12
stop_number task_blocked = 13
stop_number too_many = 14
stop_number values_spent = 15
stop_number bad_toss = 16

-- ---- what nodes work on

-- the variables of a frame, and what tasks share
pub record Memory : Type 0 where
  pub vars : List ℤ
  pub sems : List ℕ
  pub queues : List Entries

abbrev pub operand_in : List ℤ → Operand → ℤ
operand_in l (Var v) = var_at l v
operand_in l (Const c) = c

-- a variable set; `-` is in no place, so it "sets nothing"
abbrev pub assign : ℕ → ℤ → Memory → Memory
assign v x m = record { vars = set m.vars v x; sems = m.sems; queues = m.queues }

abbrev pub with_sem : ℕ → ℕ → Memory → Memory
with_sem i c m = record { vars = m.vars; sems = set m.sems i c; queues = m.queues }

abbrev pub with_entries : ℕ → Entries → Memory → Memory
with_entries q e m = record { vars = m.vars; sems = m.sems; queues = set m.queues q e }

-- "`send` appends an entry, `recv` removes the oldest"
abbrev pub appended : ℤ → Entries → Entries
appended x e = record { len = e.len + 1; items = set e.items e.len x }

abbrev pub oldest : Entries → ℤ
oldest e = get_or e.items 0 (pos 0)

abbrev pub shortened : Entries → Entries
shortened e = record { len = e.len - 1; items = drop 1 e.items ++ (pos 0 ∷ []) }

-- the variable's value, none of `-`
abbrev pub value_of : List ℤ → ℕ → Option ℤ
value_of l v = pick (eqb v removed) none (some (var_at l v))

-- parameter i of a call: "A dropped parameter starts as a local at 0"
abbrev pub passed_at : List ℤ → Args → ℕ → ℤ
passed_at l xs i = pick (ltb i xs.len) (var_at l (arg_at xs i)) (pos 0)

-- the frame that a call opens, before its procedure's start
abbrev pub entering : List ℤ → ℕ → Args → Frame
entering l q xs = record { proc = q; node = 0; vars = concat_from (λ i. passed_at l xs i ∷ []) 16 0 }

-- ---- what executing a node does

pub data Does : Type 0 where
  opens : Frame → Does
  closes : Does
  -- it goes on by an arc, with the memory, the values left and the value that the log shows
  goes : ℕ → Memory → List ℤ → Option ℤ → Does
  stops : Stop → Does

-- "A read takes the next input value"
abbrev pub read_of : ℕ → ℕ → Memory → List ℤ → Does
read_of v to m [] = stops values_spent
read_of v to m (x ∷ vs) = goes to (assign v x m) vs none

-- a node executed in its frame's memory, with the values left, by task k of table t. A place without a node is never executed
unfoldable pub exec : Table → ℕ → Node → Memory → List ℤ → Does
exec t k Absent m vs = goes 0 m vs none
exec t k (Start to) m vs = goes to m vs none
exec t k (Set v o a b to) m vs = goes to (assign v (apply o (operand_in m.vars a) (operand_in m.vars b)) m) vs none
exec t k (Test o a b y n) m vs = goes (pick (holds (apply o (operand_in m.vars a) (operand_in m.vars b))) y n) m vs none
exec t k (Read v to) m vs = read_of v to m vs
exec t k (Call q xs to) m vs = opens (entering m.vars q xs)
exec t k (Wait i to) m vs = goes to (with_sem i (sem_count m.sems i - 1) m) vs none
exec t k (Signal i to) m vs = goes to (with_sem i (sem_count m.sems i + 1) m) vs none
exec t k (Send q v to) m vs = goes to (with_entries q (appended (var_at m.vars v) (entries_at m.queues q)) m) vs none
exec t k (Recv q v to) m vs = goes to (assign v (oldest (entries_at m.queues q)) (with_entries q (shortened (entries_at m.queues q)) m)) vs none
-- "Flag 1 and the value for `assert` and `out` with a variable"
exec t k (Assert v to) m vs = goes to m vs (value_of m.vars v)
exec t k (Out v to) m vs = goes to m vs (value_of m.vars v)
exec t k Return m vs = closes

-- ---- arcs: "One target: a plain arc. Two or more: a toss, value i choosing the i-th from 0 .. None: `none`."

pub data Choice : Type 0 where
  nowhere : List ℤ → Choice
  node : ℕ → List ℤ → Choice
  bad : Stop → Choice

abbrev pub tossed : Option ℕ → List ℤ → Choice
tossed none vs = bad bad_toss
tossed (some m) vs = node m vs

abbrev pub toss : List ℕ → ℤ → List ℤ → Choice
toss ms (pos i) vs = tossed (get_elem? ms i) vs
toss ms (negsuc i) vs = bad bad_toss

abbrev pub choose_from : List ℕ → List ℤ → Choice
choose_from [] vs = nowhere vs
choose_from (m ∷ []) vs = node m vs
choose_from (m ∷ m' ∷ ms) [] = bad values_spent
choose_from (m ∷ m' ∷ ms) (x ∷ vs) = toss (m ∷ m' ∷ ms) x vs

unfoldable pub choose : ℕ → List ℤ → Choice
choose arc vs = choose_from (members arc) vs

-- ---- "then dropped nodes are executed until a kept node is met"

-- which nodes count as kept, by procedure and number
abbrev pub Kept : Type 0
Kept = ℕ → ℕ → Bool

-- "Kept and dropped are as under Closing; in a closed table every node counts as kept"
abbrev pub kept_of : Table → Bool → Kept
kept_of t true = λ p n. true
kept_of t false = let d = dirty t in λ p n. kept d p n (node_at t p n)

abbrev pub kept_in : Table → Kept
kept_in t = kept_of t t.closed

-- where control arrives: before a kept node, or nowhere, with the dropped nodes executed on the way
pub data Walk : Type 0 where
  halts : Stop → Walk
  arrives : Option ℕ → Memory → List ℤ → List ℕ → Walk

abbrev pub along : (ℕ → Memory → List ℤ → Walk) → Memory → Choice → Walk
along k m (nowhere vs) = arrives none m vs []
along k m (node n vs) = k n m vs
along k m (bad c) = halts c

-- calls and returns are always kept, so that no walk meets one: what stands here for them is never taken
abbrev pub onward : (ℕ → Memory → List ℤ → Walk) → Memory → List ℤ → Does → Walk
onward go m vs (opens f) = arrives none m vs []
onward go m vs closes = arrives none m vs []
onward go m vs (goes arc m' ws o) = along go m' (choose arc ws)
onward go m vs (stops c) = halts c

abbrev pub noting : ℕ → Walk → Walk
noting n (halts c) = halts c
noting n (arrives w m vs ns) = arrives w m vs (n ∷ ns)

-- task k from node n of procedure p, at most d dropped nodes: "14 before 15 at one node"
unfoldable pub walk : Table → Kept → ℕ → ℕ → ℕ → ℕ → Memory → List ℤ → Walk
walk t keep k p zero n m vs = elim (keep p n) [ true ↦ arrives (some n) m vs [] | false ↦ halts too_many ]
walk t keep k p (suc d) n m vs = elim (keep p n) [
  | true ↦ arrives (some n) m vs []
  | false ↦ noting n (onward (λ n' m' ws. walk t keep k p d n' m' ws) m vs (exec t k (node_at t p n) m vs))
]

-- ---- failed assertions: "An assertion with a variable fails if its value is 0; one with `-` never fails"

abbrev pub fails : List ℤ → Option ℕ → Bool
fails l none = false
fails l (some v) = not (eqb v removed) && eq_z (var_at l v) (pos 0)

-- the step of task k would fail an assertion
abbrev pub failing : Table → State → ℕ → Bool
failing t s k = fails (topmost s k).vars (asserted (stands_before t s k))

-- ---- the log's entry

pub record Entry : Type 0 where
  pub task : ℕ
  pub proc : ℕ
  pub node : ℕ
  pub value : Option ℤ  -- of an `assert` or `out` with a variable

-- ---- one step

pub data Step : Type 0 where
  stopped : Stop → Step
  -- the log's entry, the dropped nodes executed, the state and the values left
  stepped : Entry → List ℕ → State → List ℤ → Step

-- frame j of task k is f
abbrev pub framed : State → ℕ → ℕ → Frame → State
framed s k j f = with_frames s (set s.frames (place k j) f)

-- with the semaphores and queues as nodes left them
abbrev pub shared : State → Memory → State
shared s m = with_queues (with_sems s m.sems) m.queues

-- task k in frame j, of procedure p, before the node met, or lost: "A closed step taking `none` completes and leaves the task lost"
abbrev pub landed : State → ℕ → ℕ → ℕ → Option ℕ → Memory → State
landed s k j p (some n) m = framed (shared s m) k j (record { proc = p; node = n; vars = m.vars })
landed s k j p none m = with_lost (framed (shared s m) k j (record { proc = p; node = 0; vars = m.vars })) (set s.lost k true)

abbrev pub settled : Entry → State → ℕ → ℕ → ℕ → Walk → Step
settled e s k j p (halts c) = stopped c
settled e s k j p (arrives w m vs ns) = stepped e ns (landed s k j p w m) vs

-- "A call opens a frame; its step ends before the callee's start"
abbrev pub called : State → ℕ → Frame → State
called s k f = framed (with_depth s (set s.depth k (open_frames s k + 1))) k (open_frames s k) f

-- the topmost frame closed
abbrev pub returned : State → ℕ → State
returned s k = framed (with_depth s (set s.depth k (open_frames s k - 1))) k (open_frames s k - 1) no_frame

abbrev pub memory : State → Frame → Memory
memory s f = record { vars = f.vars; sems = s.sems; queues = s.queues }

abbrev pub entry_of : ℕ → Frame → Option ℤ → Entry
entry_of k f o = record { task = k; proc = f.proc; node = f.node; value = o }

module _ (t : Table) (keep : Kept) (most : ℕ) (s : State) (k : ℕ) where
  -- on through dropped nodes of procedure p
  abbrev pub dropping : ℕ → ℕ → Memory → List ℤ → Walk
  dropping p n m vs = walk t keep k p most n m vs

  -- "A return closes the frame and goes on from the caller's call arc"
  abbrev pub resumed : Entry → Frame → List ℤ → Step
  resumed e g vs = settled e (returned s k) k (open_frames s k - 2) g.proc (along (dropping g.proc) (memory s g) (choose (arc_to (node_at t g.proc g.node)) vs))

  abbrev pub step_as : Frame → List ℤ → Does → Step
  step_as f vs (opens g) = stepped (entry_of k f none) [] (called s k g) vs
  step_as f vs closes = resumed (entry_of k f none) (frame_at s k (open_frames s k - 2)) vs
  step_as f vs (goes arc m ws o) = settled (entry_of k f o) s k (open_frames s k - 1) f.proc (along (dropping f.proc) m (choose arc ws))
  step_as f vs (stops c) = stopped c

  -- "One step executes a kept node of one task; then dropped nodes are executed until a kept node is met."
  unfoldable pub step_of : List ℤ → Step
  step_of vs = let f = topmost s k in step_as f vs (exec t k (stands_before t s k) (memory s f) vs)

-- what stops a task before its step: lost, then blocked
unfoldable pub before : Table → State → ℕ → Option Stop
before t s k = elim (is_lost s k) [ true ↦ some task_lost | false ↦ pick (blocked t s k) (some task_blocked) none ]

abbrev pub unless : Option Stop → Step → Step
unless none r = r
unless (some c) r = stopped c

unfoldable pub step : Table → Kept → ℕ → State → ℕ → List ℤ → Step
step t keep most s k vs = unless (before t s k) (step_of t keep most s k vs)
