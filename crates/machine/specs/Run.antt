-- Document 01, "Stepping": a run over a schedule, its log and its answer.
use Rattle.std.specs.Prelude.{ℕ, zero, suc, ◌+◌, ◌-◌, ◌*◌, ◌/◌, ◌%◌, ◌<◌, ◌≡◌, true, false, List, [], ◌∷◌, length, get_or, ltb, ℤ}
use Rattle.std.proofs.Math.Option.{Option, none, some}
use Rattle.std.proofs.lemmas.List.Edits.{sets}
use Rattle.std.specs.Int.{w32}
use Rattle.std.proofs.Common.{of_z}
use Rattle.table.specs.declared.Table.{Table}
use Rattle.text.specs.Writer.{fault}
use Rattle.machine.specs.declared.State.{State}
use Rattle.machine.specs.declared.Running.{Running}
use Rattle.machine.specs.State.{no_state, first_state, Begun, spent, begun, begin}
use Rattle.machine.specs.Step.{no_such_task, log_full, values_spent, stop_number, Kept, kept_in, Entry, Step, stopped, stepped, step}

-- "Each completed step logs 8 bytes: task, procedure, node, flag, value as 4 bytes, lowest first. .. else zeros."
abbrev pub word : ℕ → List ℕ
word z = z % 256 ∷ z / 256 % 256 ∷ z / 65536 % 256 ∷ z / 16777216 % 256 ∷ []

abbrev pub flagged : Option ℤ → List ℕ
flagged none = 0 ∷ word 0
flagged (some x) = 1 ∷ word (of_z w32 x)

abbrev pub entry_bytes : Entry → List ℕ
entry_bytes e = e.task ∷ e.proc ∷ e.node ∷ flagged e.value

-- the runner's answer, and what its log buffer then holds
pub record Ran : Type 0 where
  pub answer : Running
  pub log : List ℕ

-- of the values given, `rest` are left
abbrev pub ended : ℕ → List ℤ → ℕ → State → List ℤ → List ℕ → Ran
ended stop values steps s rest log = record { answer = record { steps = steps; used = length values - length rest; stop = stop; state = s }; log = log }

-- ---- the completed steps of a schedule

pub record CompletedStep : Type 0 where
  pub entry : Entry
  pub dropped : List ℕ  -- the dropped nodes executed
  pub state : State
  pub rest : List ℤ  -- the values left

-- in order, and the stop number, 0 when the schedule ends
pub record Course : Type 0 where
  pub steps : List CompletedStep
  pub stop : ℕ

-- a log buffer of so many bytes
module _ (t : Table) (keep : Kept) (most room : ℕ) where
  -- "no such task", then "fewer than 8 log bytes left", then what the step says
  unfoldable pub turn : ℕ → ℕ → State → List ℤ → Step
  turn k n s vs = elim (ltb k t.tasks) [
    | true ↦ elim (ltb room (8 * n + 8)) [ true ↦ stopped log_full | false ↦ step t keep most s k vs ]
    | false ↦ stopped no_such_task
  ]

  abbrev pub and_then : (State → List ℤ → Course) → Step → Course
  and_then go (stopped c) = record { steps = []; stop = stop_number c }
  and_then go (stepped e ns s vs) = let c = go s vs in record { steps = record { entry = e; dropped = ns; state = s; rest = vs } ∷ c.steps; stop = c.stop }

  -- "It runs the first task number of the schedule, then the rest of the schedule.", n steps being completed
  unfoldable pub course_from : List ℕ → ℕ → State → List ℤ → Course
  course_from [] n s vs = record { steps = []; stop = 0 }
  course_from (k ∷ ks) n s vs = and_then (λ s' vs'. course_from ks (suc n) s' vs') (turn k n s vs)

-- ---- the run

-- what the completed steps leave; "A stopped step leaves state, log and used count as before it"
unfoldable pub ran_from : ℕ → List ℤ → ℕ → State → List ℤ → List ℕ → List CompletedStep → Ran
ran_from stop values n s rest log [] = ended stop values n s rest log
ran_from stop values n s rest log (c ∷ cs) = ran_from stop values (suc n) c.state c.rest (sets log (8 * n) (entry_bytes c.entry)) cs

-- "15 at the start comes before every step's faults, those met before a step too, and leaves all locals 0 and 0 used"
abbrev pub run_begun : Table → List ℕ → List ℤ → ℕ → List ℕ → Begun → Ran
run_begun t ks vs most log spent = ended (stop_number values_spent) vs 0 (first_state t) vs log
run_begun t ks vs most log (begun s rest) = let c = course_from t (kept_in t) most (length log) ks 0 s rest in ran_from c.stop vs 0 s rest log c.steps

-- a faulty table: "that number, 0 steps, 0 used and a state all 0"
abbrev pub run_checked : Table → List ℕ → List ℤ → ℕ → List ℕ → ℕ → Ran
run_checked t ks vs most log zero = run_begun t ks vs most log (begin t vs)
run_checked t ks vs most log (suc n) = ended (suc n) [] 0 no_state [] log

-- table, schedule, value list, most dropped nodes per step, log buffer
unfoldable pub run : Table → List ℕ → List ℤ → ℕ → List ℕ → Ran
run t ks vs most log = run_checked t ks vs most log (fault t)

-- "A run completes if its stop number is 0": what a run has come to, as that of a run that completes
abbrev pub completed : Ran → Ran
completed r = record { answer = record { steps = r.answer.steps; used = r.answer.used; stop = 0; state = r.answer.state }; log = r.log }

module _ (t : Table) (keep : Kept) (most : ℕ) (values : List ℤ) where
  -- n steps being completed, from state s with the values left and the log so
  unfoldable pub run_from : List ℕ → ℕ → State → List ℤ → List ℕ → Ran
  run_from ks n s rest log = let c = course_from t keep most (length log) ks n s rest in ran_from c.stop values n s rest log c.steps

-- ---- two logs

-- "Kept nodes executed are read off the logs, task, procedure and node, entry by entry; a log carries a value where its flag is 1":
-- the first n entries of an open log and of a closed one, log'. "Where the closed log carries a value, the open one carries the same"
pub record SameLog (n : ℕ) (log log' : List ℕ) : Type 0 where
  pub task : (i : ℕ) → i < n → get_or log (8 * i) 0 ≡ get_or log' (8 * i) 0
  pub proc : (i : ℕ) → i < n → get_or log (8 * i + 1) 0 ≡ get_or log' (8 * i + 1) 0
  pub node : (i : ℕ) → i < n → get_or log (8 * i + 2) 0 ≡ get_or log' (8 * i + 2) 0
  pub flag : (i : ℕ) → i < n → get_or log' (8 * i + 3) 0 ≡ 1 → get_or log (8 * i + 3) 0 ≡ 1
  pub value : (i b : ℕ) → i < n → b < 4 → get_or log' (8 * i + 3) 0 ≡ 1 → get_or log (8 * i + 4 + b) 0 ≡ get_or log' (8 * i + 4 + b) 0
