-- The rows of a report over the state's arrays of tasks and frames.
use Rattle.std.specs.Prelude.{ℕ, ◌≤◌, ◌<◌, ◌≡◌, Bool, false, List, [], ◌++◌, get_or}
use Rattle.table.specs.Table.{outside}
use Rattle.table.specs.declared.Proc.{Proc}
use Rattle.text.specs.Reader.{concat_from}
use Rattle.machine.specs.declared.Frame.{Frame}
use Rattle.machine.specs.State.{place}
use Rattle.machine.specs.Report.{frame_line, task_line}

-- how many variables each procedure has
pub record VariableCounts (procs : List Proc) (counts : List ℕ) : Type 0 where
  pub same : (p : ℕ) → get_or counts p 0 ≡ (get_or procs p outside).vars

-- frame j of task k
abbrev pub frame_in : List Frame → ℕ → ℕ → Frame
frame_in frames k j = get_or frames (place k j) (record { proc = 0; node = 0; vars = [] })

abbrev pub frame_row : List Frame → List ℕ → ℕ → ℕ → List ℕ
frame_row frames counts k j = let f = frame_in frames k j in frame_line j f (get_or counts f.proc 0)

-- a task's lines
abbrev pub task_row : List ℕ → List Bool → List Frame → List ℕ → ℕ → List ℕ
task_row depth lost frames counts k = task_line k (get_or depth k 0) (get_or lost k false) ++ concat_from (frame_row frames counts k) (get_or depth k 0) 0

-- no task has more frames open than places
pub record Few (depth : List ℕ) : Type 0 where
  pub few : (k : ℕ) → k < 4 → get_or depth k 0 ≤ 8
