-- A run's beginning on the arrays of a state, and the state that arrays hold.
use Rattle.std.specs.Prelude.{ℕ, zero, suc, ◌+◌, ◌-◌, ◌*◌, ◌<◌, ◌≤◌, ◌≡◌, List, [], ◌++◌, length, get_or, set, take, drop, replicate, ℤ, pos, Option, Some, None}
use Rattle.table.specs.Table.{no_task, no_sem}
use Rattle.table.specs.declared.Sem.{Sem}
use Rattle.table.specs.declared.Task.{Task}
use Rattle.table.specs.declared.Table.{Table}
use Rattle.machine.specs.declared.Frame.{Frame}
use Rattle.machine.specs.declared.Entries.{Entries}
use Rattle.machine.specs.declared.State.{State}
use Rattle.machine.specs.declared.Running.{Running}
use Rattle.machine.specs.State.{Begun as Beginning, no_vars, no_state, with_depth, with_frames, with_sems, entries_at, first_state, spent, begun}
use Rattle.run_code.specs.Ready.{Ready}
use Rattle.run_code.specs.Code.{takes_of}
use Rattle.run_state.specs.Good.{frame_in, Shape}
use Rattle.run_state.specs.Arrays.{marks_of, cells_of}

-- ---- the first state

abbrev pub top_at : List Task → ℕ → ℕ
top_at task i = (get_or task i no_task).top

-- the first n tasks stand before node 0 of their tops, one frame open
unfoldable pub started : List Task → ℕ → State
started task zero = no_state
started task (suc n) =
    let s = started task n in
    with_frames (with_depth s (set s.depth n 1)) (set s.frames (8 * n) (record { proc = top_at task n; node = 0; vars = no_vars }))

-- the counts of the first n semaphores
unfoldable pub counted : List Sem → ℕ → List ℕ
counted sem zero = replicate 8 0
counted sem (suc n) = set (counted sem n) n (get_or sem n no_sem).count

-- the marks of the first state of so many tasks and these semaphores
abbrev pub first_marks : ℕ → List Task → List Sem → List ℕ
first_marks tasks task sem = marks_of (with_sems (started task tasks) (counted sem 8))

-- ---- its inputs

-- cells that are all 0
abbrev pub no_cells : List (List ℤ)
no_cells = replicate 40 no_vars

-- how many inputs task i takes, `takes` of them by its top
abbrev pub takes_at : List Task → List ℕ → ℕ → ℕ
takes_at task takes i = get_or takes (top_at task i) 0

-- those of n tasks from i on
unfoldable pub needed_in : List Task → List ℕ → ℕ → ℕ → ℕ
needed_in task takes zero i = 0
needed_in task takes (suc n) i = takes_at task takes i + needed_in task takes n (suc i)

-- variables of which the first are inputs
abbrev pub input_row : List ℤ → List ℤ
input_row xs = xs ++ replicate (16 - length xs) (pos 0)

-- n tasks from i on take their inputs of the values
unfoldable pub input_cells : List Task → List ℕ → ℕ → ℕ → List ℤ → List (List ℤ) → List (List ℤ)
input_cells task takes zero i vs cells = cells
input_cells task takes (suc n) i vs cells =
    let m = takes_at task takes i in
    input_cells task takes n (suc i) (drop m vs) (set cells (8 * i) (input_row (take m vs)))

-- these are a ready table's tasks, and how many inputs each procedure takes as a top
pub record Takes (t : Table) (tasks : ℕ) (task : List Task) (takes : List ℕ) : Type 0 where
  pub keep : List ℕ
  pub ready : Ready t keep
  pub tasks_are : tasks ≡ t.tasks
  pub task_are : task ≡ t.task
  pub takes_are : (p : ℕ) → p < t.procs → get_or takes p 0 ≡ takes_of t p

-- some table's
pub record Tops (tasks : ℕ) (task : List Task) (takes : List ℕ) : Type 0 where
  pub t : Table
  pub have : Takes t tasks task takes

-- the cells where a run begins so, `used` values being used
pub record Began (t : Table) (vs : List ℤ) (s : State) (rest : List ℤ) (used : ℕ) (cells : List (List ℤ)) : Type 0 where
  pub answer : used ≡ length vs - length rest
  pub cells_are : cells ≡ cells_of s
  pub marks_stay : marks_of s ≡ marks_of (first_state t)
  pub within : used ≤ length vs
  pub rest_is : rest ≡ drop used vs

-- "15 at the start .. leaves all locals 0 and 0 used"
abbrev pub Begins : Table → List ℤ → Beginning → Option ℕ → List (List ℤ) → Type 0
Begins t vs spent None cells = cells ≡ cells_of (first_state t)
Begins t vs spent (Some used) cells = ⊥
Begins t vs (begun s rest) None cells = ⊥
Begins t vs (begun s rest) (Some used) cells = Began t vs s rest used cells

-- ---- the state that arrays hold

-- they hold some state
pub record Stated (marks : List ℕ) (cells : List (List ℤ)) : Type 0 where
  pub s : State
  pub shape : Shape s
  pub marks_are : marks ≡ marks_of s
  pub cells_are : cells ≡ cells_of s

-- the frame at a place of the marks and the cells
abbrev pub frame_of : List ℕ → List (List ℤ) → ℕ → Frame
frame_of marks cells j = record { proc = get_or marks (32 + j) 0; node = get_or marks (64 + j) 0; vars = get_or cells j [] }

pub record Frames (marks : List ℕ) (cells : List (List ℤ)) (l : List Frame) : Type 0 where
  pub long : length l ≡ 32
  pub places : (j : ℕ) → j < 32 → frame_in l j ≡ frame_of marks cells j

-- a queue's entries: the first eight cells of its row
abbrev pub entries_of : ℕ → List ℤ → Entries
entries_of n row = record { len = n; items = take 8 row }

abbrev pub queue_of : List ℕ → List (List ℤ) → ℕ → Entries
queue_of marks cells q = entries_of (get_or marks (16 + q) 0) (get_or cells (32 + q) [])

pub record Queues (marks : List ℕ) (cells : List (List ℤ)) (l : List Entries) : Type 0 where
  pub long : length l ≡ 8
  pub places : (q : ℕ) → q < 8 → entries_at l q ≡ queue_of marks cells q

abbrev pub running_of : ℕ → ℕ → ℕ → State → Running
running_of steps used stop s = record { steps = steps; used = used; stop = stop; state = s }
