-- A state of a table: its lists have their lengths, each task has a frame open and no other number has, every procedure is below 8 and every node below 32.
use Rattle.std.specs.Prelude.{ℕ, ◌<◌, ◌≤◌, ◌≡◌, List, [], length, get_or}
use Rattle.table.specs.declared.Table.{Table}
use Rattle.machine.specs.declared.Frame.{Frame}
use Rattle.machine.specs.declared.State.{State}
use Rattle.machine.specs.State.{entries_at}

abbrev pub frame_in : List Frame → ℕ → Frame
frame_in l j = get_or l j (record { proc = 0; node = 0; vars = [] })

pub record Shape (s : State) : Type 0 where
  pub depth : length s.depth ≡ 4
  pub lost : length s.lost ≡ 4
  pub frames : length s.frames ≡ 32
  pub sems : length s.sems ≡ 8
  pub queues : length s.queues ≡ 8
  pub vars : (j : ℕ) → j < 32 → length (frame_in s.frames j).vars ≡ 16
  pub items : (q : ℕ) → q < 8 → length (entries_at s.queues q).items ≡ 8

pub record Good (t : Table) (s : State) : Type 0 where
  pub shape : Shape s
  pub opened : (i : ℕ) → i < t.tasks → 0 < get_or s.depth i 0
  pub bounded : (i : ℕ) → get_or s.depth i 0 ≤ 8
  -- what is no task has no frame
  pub closed : (i : ℕ) → t.tasks ≤ i → get_or s.depth i 0 ≡ 0
  pub procs : (j : ℕ) → (frame_in s.frames j).proc < 8
  pub nodes : (j : ℕ) → (frame_in s.frames j).node < 32
