-- Document 01, "Stepping": the state, the first one, and which tasks are blocked.
use Rattle.std.specs.Prelude.{ℕ, zero, suc, ◌+◌, ◌-◌, ◌*◌, Bool, true, false, ◌&&◌, not, List, [], ◌∷◌, ◌++◌, map, length, get_or, set, take, drop, replicate, eqb, leb, ltb, ℤ, pos}
use Rattle.table.specs.Mask.{pick}
use Rattle.table.specs.Table.{task_at, queue_at, proc_at, node_at, Act, alone, waits, signals, sends, receives, calls, returns, act}
use Rattle.table.specs.declared.Node.{Node}
use Rattle.table.specs.declared.Sem.{Sem}
use Rattle.table.specs.declared.Table.{Table}
use Rattle.text.specs.Reader.{all_below, concat_from}
use Rattle.machine.specs.declared.Frame.{Frame}
use Rattle.machine.specs.declared.Entries.{Entries}
use Rattle.machine.specs.declared.State.{State}

-- ---- places that are 0

abbrev pub no_vars : List ℤ
no_vars = replicate 16 (pos 0)

abbrev pub no_frame : Frame
no_frame = record { proc = 0; node = 0; vars = no_vars }

abbrev pub no_entries : Entries
no_entries = record { len = 0; items = replicate 8 (pos 0) }

abbrev pub no_state : State
no_state = record {
  depth = replicate 4 0;
  lost = replicate 4 false;
  frames = replicate 32 no_frame;
  sems = replicate 8 0;
  queues = replicate 8 no_entries;
}

-- ---- setters: a state with another value of one field

abbrev pub with_depth : State → List ℕ → State
with_depth s l = record { depth = l; lost = s.lost; frames = s.frames; sems = s.sems; queues = s.queues }

abbrev pub with_lost : State → List Bool → State
with_lost s l = record { depth = s.depth; lost = l; frames = s.frames; sems = s.sems; queues = s.queues }

abbrev pub with_frames : State → List Frame → State
with_frames s l = record { depth = s.depth; lost = s.lost; frames = l; sems = s.sems; queues = s.queues }

abbrev pub with_sems : State → List ℕ → State
with_sems s l = record { depth = s.depth; lost = s.lost; frames = s.frames; sems = l; queues = s.queues }

abbrev pub with_queues : State → List Entries → State
with_queues s l = record { depth = s.depth; lost = s.lost; frames = s.frames; sems = s.sems; queues = l }

-- ---- look-ups

abbrev pub open_frames : State → ℕ → ℕ
open_frames s k = get_or s.depth k 0

abbrev pub is_lost : State → ℕ → Bool
is_lost s k = get_or s.lost k false

-- the place of frame j of task k, its first frame being frame 0
abbrev pub place : ℕ → ℕ → ℕ
place k j = 8 * k + j

abbrev pub frame_at : State → ℕ → ℕ → Frame
frame_at s k j = get_or s.frames (place k j) (record { proc = 0; node = 0; vars = [] })

-- the frame in which task k stands
abbrev pub topmost : State → ℕ → Frame
topmost s k = frame_at s k (open_frames s k - 1)

abbrev pub sem_count : List ℕ → ℕ → ℕ
sem_count l i = get_or l i 0

abbrev pub entries_at : List Entries → ℕ → Entries
entries_at l q = get_or l q (record { len = 0; items = [] })

-- a variable's value; that of `-`, which is in no place, is 0
abbrev pub var_at : List ℤ → ℕ → ℤ
var_at l v = get_or l v (pos 0)

-- the node before which task k stands; a lost task stands before none, and `lost` is asked first
abbrev pub stands_before : Table → State → ℕ → Node
stands_before t s k = let f = topmost s k in node_at t f.proc f.node

-- ---- the first state

abbrev pub first_frame : Table → ℕ → Frame
first_frame t i = record { proc = (task_at t i).top; node = 0; vars = no_vars }

abbrev pub first_frames : Table → ℕ → List Frame
first_frames t i = pick (ltb i t.tasks) (first_frame t i) no_frame ∷ replicate 7 no_frame

-- "At first each task stands before node 0 of its top, one frame open, locals 0; semaphores have their counts, queues are empty"
unfoldable pub first_state : Table → State
first_state t =
    with_sems (with_frames (with_depth no_state (concat_from (λ i. pick (ltb i t.tasks) 1 0 ∷ []) 4 0)) (concat_from (first_frames t) 4 0)) (map (λ (x : Sem). x.count) t.sem)

-- "Open form: top parameters then take the first values of the input list"
abbrev pub first_inputs : Table → ℕ → ℕ
first_inputs t i = pick t.closed 0 (proc_at t (task_at t i).top).params

pub data Begun : Type 0 where
  -- the value list is spent
  spent : Begun
  -- the first state and the values left
  begun : State → List ℤ → Begun

abbrev pub with_inputs : Table → ℕ → State → List ℤ → State
with_inputs t i s xs = with_frames s (set s.frames (place i 0) (record { proc = (task_at t i).top; node = 0; vars = xs ++ replicate (16 - length xs) (pos 0) }))

-- "by task, then by parameter": n tasks from i on
unfoldable pub take_inputs : Table → ℕ → ℕ → State → List ℤ → Begun
take_inputs t zero i s vs = begun s vs
take_inputs t (suc n) i s vs = elim (ltb (length vs) (first_inputs t i)) [
  | true ↦ spent
  | false ↦ take_inputs t n (suc i) (with_inputs t i s (take (first_inputs t i) vs)) (drop (first_inputs t i) vs)
]

unfoldable pub begin : Table → List ℤ → Begun
begin t vs = take_inputs t t.tasks 0 (first_state t) vs

-- ---- "Blocked: `wait` at 0, `signal` at 255, `send` to a full queue, `recv` from an empty one, `call` with 8 frames open, `return` of a task's first frame"

unfoldable pub blocked_at : Table → State → ℕ → Act → Bool
blocked_at t s k alone = false
blocked_at t s k (waits i) = eqb (sem_count s.sems i) 0
blocked_at t s k (signals i) = leb 255 (sem_count s.sems i)
blocked_at t s k (sends q v) = leb (queue_at t q).cap (entries_at s.queues q).len
blocked_at t s k (receives q v) = eqb (entries_at s.queues q).len 0
blocked_at t s k (calls q xs) = leb 8 (open_frames s k)
blocked_at t s k returns = leb (open_frames s k) 1

abbrev pub blocked : Table → State → ℕ → Bool
blocked t s k = blocked_at t s k (act (stands_before t s k))

-- "A standstill: every task stands before a blocked node (a lost task stands before none)"
unfoldable pub standstill : Table → State → Bool
standstill t s = all_below t.tasks (λ k. not (is_lost s k) && blocked t s k)
