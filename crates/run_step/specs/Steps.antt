-- What the functions of a step lean on, and what they answer and leave, as functions of the definition's step.
use Rattle.std.specs.Prelude.{ℕ, ◌+◌, ◌-◌, ◌*◌, ◌/◌, ◌%◌, ◌<◌, ◌≤◌, ◌≡◌, false, true, List, [], ◌∷◌, ◌++◌, length, get_or, set, take, drop, ℤ, pos}
use Rattle.std.specs.Prelude.{Option, Some, None, Result, Ok, Err}
use Rattle.std.proofs.Math.Option as maybe
use Rattle.std.proofs.Math.Option.{none, some}
use Rattle.std.specs.Int.{w32}
use Rattle.std.proofs.Common.{of_z}
use Rattle.table.specs.Mask.{bit, members}
use Rattle.table.specs.declared.Table.{Table}
use Rattle.machine.specs.declared.State.{State}
use Rattle.machine.specs.State.{open_frames, is_lost, place, blocked}
use Rattle.machine.specs.Step as step
use Rattle.machine.specs.Step.{assign, choose, kept_in, Walk, halts, arrives, along, walk, Step, stopped, stepped, landed, memory, step_of}
use Rattle.tosses.specs.declared.Stop.{Stop}
use Rattle.tosses.specs.Stops.{said}
use Rattle.run_code.specs.Ready.{Ready}
use Rattle.run_code.specs.Code.{byte, Coded, Worded}
use Rattle.run_state.specs.Good.{frame_in, Good}
use Rattle.run_state.specs.Arrays.{marks_of, cells_of}
use Rattle.run_step.specs.declared.Stepped.{Stepped}
use Rattle.run_step.specs.declared.Effect.{Effect}
use Rattle.run_step.specs.declared.Done.{Done}

-- ---- the lent arrays

-- they hold table t, with the masks of its kept nodes, and state s of it
pub record Marked (t : Table) (s : State) (keep : List ℕ) (code : List (List ℕ)) (marks : List ℕ) : Type 0 where
  pub ready : Ready t keep
  pub coded : Coded t keep code
  pub good : Good t s
  pub marks_are : marks ≡ marks_of s

pub record Held (t : Table) (s : State) (keep : List ℕ) (code words : List (List ℕ)) (marks : List ℕ) (cells : List (List ℤ)) : Type 0 where
  pub marked : Marked t s keep code marks
  pub worded : Worded t words
  pub cells_are : cells ≡ cells_of s

-- some table, and some state in which task i can be asked for
pub record Asked (i : ℕ) (code : List (List ℕ)) (marks : List ℕ) : Type 0 where
  pub t : Table
  pub s : State
  pub keep : List ℕ
  pub marked : Marked t s keep code marks
  pub task : i < t.tasks

pub record Lent (i : ℕ) (keep : List ℕ) (code words : List (List ℕ)) (marks : List ℕ) (cells : List (List ℤ)) : Type 0 where
  pub t : Table
  pub s : State
  pub held : Held t s keep code words marks cells
  pub task : i < t.tasks

-- ---- what stops a task before its step
abbrev pub before_of : maybe.Option step.Stop → Result (Unit {0}) Stop
before_of none = Ok tt
before_of (some c) = Err (said c)

-- ---- where a task stands, by the marks

-- the place of the topmost frame of task i
abbrev pub top_in : List ℕ → ℕ → ℕ
top_in m i = 8 * i + (byte m i - 1)

-- the row of the node before which the frame at place f stands, and that node's arc
abbrev pub row_in : List ℕ → ℕ → ℕ
row_in m f = 32 * byte m (32 + f) + byte m (64 + f)

abbrev pub arc_in : List (List ℕ) → List ℕ → ℕ → ℕ
arc_in words m f = byte (get_or words (row_in m f) []) 2

-- ---- an arc taken by the frame at place g

-- j is 0, or the arc's one target, which is kept
abbrev pub Near : ℕ → ℕ → ℕ → Type 0
Near arc keep j = (j ≡ 0 → ⊥) → (members arc ≡ j ∷ []) × (bit j keep ≡ true)

pub record Going (t : Table) (s : State) (keep : List ℕ) (code words : List (List ℕ)) (marks : List ℕ) (cells : List (List ℤ)) (vs : List ℤ) (g : ℕ) (o : Effect) : Type 0 where
  pub held : Held t s keep code words marks cells
  pub frame : g < 32
  pub here : is_lost s (g / 8) ≡ false
  pub near : Near o.arc (get_or keep (frame_in s.frames g).proc 0) o.near
  pub within : o.used ≤ length vs

pub record Goings (keep : List ℕ) (code words : List (List ℕ)) (marks : List ℕ) (cells : List (List ℤ)) (vs : List ℤ) (g : ℕ) (o : Effect) : Type 0 where
  pub t : Table
  pub s : State
  pub going : Going t s keep code words marks cells vs g o

-- the node before which it then stands is stored, or that its task is lost, which stands before node 0
abbrev pub stood : List ℕ → ℕ → Option ℕ → List ℕ
stood marks g None = set (set marks (64 + g) 0) (4 + g / 8) 1
stood marks g (Some n) = set (set marks (64 + g) n) (4 + g / 8) 0

-- where it leads, after the variable is set
abbrev pub way_of : Table → ℕ → State → List ℤ → ℕ → Effect → Walk
way_of t most s vs g o =
    let f = frame_in s.frames g in
    along (λ n m ws. walk t (kept_in t) (g / 8) f.proc most n m ws) (assign o.var o.value (memory s f)) (choose o.arc (drop o.used vs))

-- the values then used, or the stop
abbrev pub gone_of : List ℤ → Walk → Result ℕ Stop
gone_of vs (halts c) = Err (said c)
gone_of vs (arrives w m ws ns) = Ok (length vs - length ws)

abbrev pub went_to : State → ℕ → Walk → State
went_to s g (halts c) = s
went_to s g (arrives w m ws ns) = landed s (g / 8) (g % 8) (frame_in s.frames g).proc w m

pub record Goes (vs : List ℤ) (s : State) (g : ℕ) (w : Walk) (r : Result ℕ Stop) (marks : List ℕ) (cells : List (List ℤ)) : Type 0 where
  pub answer : r ≡ gone_of vs w
  pub marks_are : marks ≡ marks_of (went_to s g w)
  pub cells_are : cells ≡ cells_of (went_to s g w)

-- ---- a node executed, that is not blocked: its frame is at place f, its row is a

pub record Stands (t : Table) (s : State) (keep : List ℕ) (code words : List (List ℕ)) (marks : List ℕ) (cells : List (List ℤ)) (vs : List ℤ) (used f a : ℕ) : Type 0 where
  pub held : Held t s keep code words marks cells
  pub task : f / 8 < t.tasks
  pub top : f ≡ place (f / 8) (open_frames s (f / 8) - 1)
  pub row : a ≡ 32 * (frame_in s.frames f).proc + (frame_in s.frames f).node
  pub here : is_lost s (f / 8) ≡ false
  pub free : blocked t s (f / 8) ≡ false
  pub within : used ≤ length vs

pub record Standing (keep : List ℕ) (code words : List (List ℕ)) (marks : List ℕ) (cells : List (List ℤ)) (vs : List ℤ) (used f a : ℕ) : Type 0 where
  pub t : Table
  pub s : State
  pub stands : Stands t s keep code words marks cells vs used f a

-- the same where the masks, the words and the values are not asked for
pub record Called (code : List (List ℕ)) (marks : List ℕ) (cells : List (List ℤ)) (used f a : ℕ) : Type 0 where
  pub keep : List ℕ
  pub words : List (List ℕ)
  pub vs : List ℤ
  pub standing : Standing keep code words marks cells vs used f a

-- the kinds of an assertion and of an output; those without an arm of their own, a start's and an absent node's
abbrev pub Shown : ℕ → Type 0
Shown k = (k ≡ 10 → ⊥) → k ≡ 11

pub record Plain (k : ℕ) : Type 0 where
  pub set : k ≡ 2 → ⊥
  pub test : k ≡ 3 → ⊥
  pub read : k ≡ 4 → ⊥
  pub call : k ≡ 5 → ⊥
  pub wait : k ≡ 6 → ⊥
  pub signal : k ≡ 7 → ⊥
  pub send : k ≡ 8 → ⊥
  pub receive : k ≡ 9 → ⊥
  pub assert : k ≡ 10 → ⊥
  pub out : k ≡ 11 → ⊥
  pub return : k ≡ 12 → ⊥

-- the oldest of eight items removed, eight cells beside
abbrev pub shifted_of : List ℤ → List ℤ
shifted_of l = take 7 (drop 1 l) ++ (pos 0 ∷ drop 8 l)

-- the log's flag and the bits of the value
abbrev pub flag_of : Option ℤ → ℕ
flag_of None = 0
flag_of (Some x) = 1

abbrev pub bits_of : Option ℤ → ℕ
bits_of None = 0
bits_of (Some x) = of_z w32 x

-- the value that the log shows, as the code answers it
abbrev pub shown_of : maybe.Option ℤ → Option ℤ
shown_of none = None
shown_of (some x) = Some x

abbrev pub done_of : List ℤ → Step → Result Done Stop
done_of vs (stopped c) = Err (said c)
done_of vs (stepped e ns s rest) = Ok (record { shown = shown_of e.value; used = length vs - length rest })

-- of a node that shows a value
abbrev pub shown_done : maybe.Option ℤ → Result ℕ Stop → Result Done Stop
shown_done v (Ok u) = Ok (record { shown = shown_of v; used = u })
shown_done v (Err c) = Err c

-- of a node that shows no value
abbrev pub gone_done : Result ℕ Stop → Result Done Stop
gone_done r = shown_done none r

-- "A stopped step leaves state .. as before it"
abbrev pub after : State → Step → State
after s (stopped c) = s
after s (stepped e ns z rest) = z

pub record Did (vs : List ℤ) (s : State) (z : Step) (r : Result Done Stop) (marks : List ℕ) (cells : List (List ℤ)) : Type 0 where
  pub answer : r ≡ done_of vs z
  pub marks_are : marks ≡ marks_of (after s z)
  pub cells_are : cells ≡ cells_of (after s z)

-- for every table and state that the arrays hold: what the arm for a kind leaves
abbrev pub Executes : List ℕ → List (List ℕ) → List (List ℕ) → List ℕ → List (List ℤ) → List ℤ → ℕ → ℕ → ℕ → ℕ → Result Done Stop → List ℕ → List (List ℤ) → Type 0
Executes keep code words marks cells vs used most f a r marks' cells' =
    (t : Table) (s : State) → Stands t s keep code words marks cells vs used f a → Did vs s (step_of t (kept_in t) most s (f / 8) (drop used vs)) r marks' cells'

-- ---- the step

abbrev pub answer_of : List ℤ → Step → Result Stepped Stop
answer_of vs (stopped c) = Err (said c)
answer_of vs (stepped e ns s rest) = Ok (record { proc = e.proc; node = e.node; shown = shown_of e.value; used = length vs - length rest })

pub record Steps (vs : List ℤ) (s : State) (z : Step) (r : Result Stepped Stop) (marks : List ℕ) (cells : List (List ℤ)) : Type 0 where
  pub answer : r ≡ answer_of vs z
  pub marks_are : marks ≡ marks_of (after s z)
  pub cells_are : cells ≡ cells_of (after s z)
