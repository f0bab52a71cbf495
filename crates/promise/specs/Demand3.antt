-- Demand 3, stated: every completed run of an open table has a completed run of its closed table beside it.
-- Its proof is Proof3; this file is read by itself, with document 01's "Demand 3 is one claim about a whole run".
use Rattle.std.specs.Prelude.{ℕ, ◌+◌, ◌*◌, ◌<◌, ◌≤◌, ◌≡◌, false, length, get_or, take, ℤ, pos}
use mathlib.Core.List.{List, [], Memᴰ}
use Rattle.std.proofs.Math.Option.{Option, none, some}
use Rattle.table.specs.Table.{proc_at, removed, asserted}
use Rattle.table.specs.declared.Table.{Table}
use Rattle.closing.specs.Dirty.{Dirty, Unkept, setting_at, entry_at, blank}
use Rattle.closing.specs.Close.{close}
use Rattle.machine.specs.declared.State.{State}
use Rattle.machine.specs.State.{open_frames, is_lost, frame_at, topmost, sem_count, entries_at, var_at, stands_before, standstill}
use Rattle.machine.specs.Step.{failing}
use Rattle.machine.specs.Run.{Ran, run, completed, SameLog}
use Rattle.promise.specs.History.{History, history, last_setting}

-- ---- what agrees

-- "it is clean if not among the dirty settings"
abbrev pub CleanSetting : Table → ℕ → ℕ → Option ℕ → Type 0
CleanSetting t p v none = Dirty t (entry_at p v) → ⊥
CleanSetting t p v (some n) = Dirty t (setting_at p n) → ⊥

-- a state s of the open run of table t, in which h has been executed, and the state s' of the closed run
pub record SameState (t : Table) (h : History) (s s' : State) : Type 0 where
  -- "Frames are the same if each task has as many, each of the same procedure and, below the topmost, at the same call node"
  pub frames : (k : ℕ) → k < t.tasks → open_frames s k ≡ open_frames s' k
  pub procs : (k j : ℕ) → k < t.tasks → j < open_frames s k → (frame_at s k j).proc ≡ (frame_at s' k j).proc
  pub calls : (k j : ℕ) → k < t.tasks → j < open_frames s k → (frame_at s k j).node ≡ (frame_at s' k j).node
  -- "each task before the same next node"; no task is lost
  pub next : (k : ℕ) → k < t.tasks → (topmost s k).node ≡ (topmost s' k).node
  pub open_stands : (k : ℕ) → k < t.tasks → is_lost s k ≡ false
  pub closed_stands : (k : ℕ) → k < t.tasks → is_lost s' k ≡ false
  -- "equal semaphore counts and queue lengths, equal entries of queues that keep values"
  pub sems : (i : ℕ) → i < t.sems → sem_count s.sems i ≡ sem_count s'.sems i
  pub lengths : (q : ℕ) → q < t.queues → (entries_at s.queues q).len ≡ (entries_at s'.queues q).len
  pub entries : (q : ℕ) → q < t.queues → (Dirty t (blank q) → ⊥) → entries_at s.queues q ≡ entries_at s'.queues q
  -- "equal values of each variable whose last setting in its frame is clean"
  pub vars : (k j v : ℕ) → k < t.tasks → j < open_frames s k → v < (proc_at t (frame_at s k j).proc).vars
      → CleanSetting t (frame_at s k j).proc v (last_setting t (frame_at s k j).proc v none (h k j))
      → var_at (frame_at s k j).vars v ≡ var_at (frame_at s' k j).vars v

-- the runs of the first n task numbers: both complete, n steps each
pub record SameRun (t : Table) (h : History) (n : ℕ) (r r' : Ran) : Type 0 where
  pub open_completes : r.answer.stop ≡ 0
  pub closed_completes : r'.answer.stop ≡ 0
  pub open_steps : r.answer.steps ≡ n
  pub closed_steps : r'.answer.steps ≡ n
  -- "the same kept nodes executed in the same order"
  pub logs : SameLog n r.log r'.log
  pub kept_nodes : (i : ℕ) → i < n → Unkept t (get_or r.log (8 * i + 1) 0) (get_or r.log (8 * i + 2) 0) → ⊥
  pub states : SameState t h r.answer.state r'.answer.state

-- ---- the claim

-- an open run: table, schedule, inputs, most dropped nodes per step, and what the log buffer held
pub record OpenRun : Type 0 where
  pub table : Table
  pub schedule : List ℕ
  pub inputs : List ℤ
  pub most : ℕ
  pub log : List ℕ

-- the closed run beside it, of the closed table and the same schedule
pub record ClosedRun : Type 0 where
  pub tosses : List ℤ
  pub most : ℕ
  pub log : List ℕ

-- the first n task numbers
abbrev pub first : OpenRun → ℕ → List ℕ
first o n = take n o.schedule

-- what the two come to over the task numbers ks
abbrev pub open_ran : OpenRun → List ℕ → Ran
open_ran o ks = run o.table ks o.inputs o.most o.log

abbrev pub closed_ran : OpenRun → ClosedRun → List ℕ → Ran
closed_ran o c ks = run (close o.table).table ks c.tosses c.most c.log

pub record Partner (o : OpenRun) (c : ClosedRun) : Type 0 where
  -- "one list of tosses lets the closed run with the same task numbers complete and is used up"
  pub completes : (closed_ran o c o.schedule).answer.stop ≡ 0
  pub used_up : (closed_ran o c o.schedule).answer.used ≡ length c.tosses
  -- "At the start and after each step the two agree"
  pub agree : (n : ℕ) → n ≤ length o.schedule
      → SameRun o.table (history o.table (first o n) o.inputs o.most (length o.log)) n (open_ran o (first o n)) (closed_ran o c (first o n))

-- "value i choosing the i-th from 0": an arc has at most 32 targets, so each toss is one of the 32-bit values that the runner takes
abbrev pub Toss : ℤ → Type 0
Toss z = (i : ℕ) × (z ≡ pos i) × (i < 32)

abbrev pub Tosses : List ℤ → Type 0
Tosses ts = (z : ℤ) → Memᴰ z ts → Toss z

-- One list of tosses, at most one for each step, serves whatever number of dropped nodes the closed run allows and whatever its log buffer held.
abbrev pub HasPartner : OpenRun → Type 0
HasPartner o =
    (ts : List ℤ) × Tosses ts × (length ts ≤ length o.schedule)
    × ((most : ℕ) (log : List ℕ) → length log ≡ length o.log → Partner o (record { tosses = ts; most = most; log = log }))

-- "For every table that the closer accepts, .. for every list of inputs and every list of task numbers, empty ones too: if the open run completes, .."
abbrev pub Demand3 : Type 0
Demand3 = (o : OpenRun) → (close o.table).number ≡ 0 → (open_ran o o.schedule).answer.stop ≡ 0 → HasPartner o

-- the run of its first n task numbers
abbrev pub cut : OpenRun → ℕ → OpenRun
cut o n = record { table = o.table; schedule = first o n; inputs = o.inputs; most = o.most; log = o.log }

-- "one that stops at a step is covered by the run of the schedule before that step": of a run that begins, since with no task number it completes
abbrev pub Demand3Stopped : Type 0
Demand3Stopped =
    (o : OpenRun) → (close o.table).number ≡ 0 → (open_ran o []).answer.stop ≡ 0
    → let n = (open_ran o o.schedule).answer.steps in (open_ran o (first o n) ≡ completed (open_ran o o.schedule)) × HasPartner (cut o n)

-- ---- its consequences, for such a pair of runs after n steps

-- "So the one is at a standstill exactly when the other is"
abbrev pub SameStandstill : Type 0
SameStandstill =
    (o : OpenRun) → (close o.table).number ≡ 0 → (c : ClosedRun) → Partner o c → (n : ℕ) → n ≤ length o.schedule
    → standstill o.table (open_ran o (first o n)).answer.state ≡ standstill (close o.table).table (closed_ran o c (first o n)).answer.state

-- "and an assertion that keeps its variable fails in the one exactly when it fails in the other": in the closed run task k stands before it
abbrev pub SameFailure : Type 0
SameFailure =
    (o : OpenRun) → (close o.table).number ≡ 0 → (c : ClosedRun) → Partner o c → (n : ℕ) → n ≤ length o.schedule
    → (k v : ℕ) → k < o.table.tasks
    → asserted (stands_before (close o.table).table (closed_ran o c (first o n)).answer.state k) ≡ some v → (v ≡ removed → ⊥)
    → failing o.table (open_ran o (first o n)).answer.state k ≡ failing (close o.table).table (closed_ran o c (first o n)).answer.state k
