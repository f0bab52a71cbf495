-- What the run's loop leans on, and what it answers and leaves.
use Rattle.std.specs.Prelude.{ℕ, ◌/◌, ◌≡◌, List, eqb, leb, ltb, ℤ, Option, Some, None, Result, Ok, Err}
use Rattle.table.specs.Mask.{pick}
use Rattle.table.specs.declared.Table.{Table}
use Rattle.machine.specs.declared.State.{State}
use Rattle.machine.specs.State.{begin, first_state}
use Rattle.machine.specs.Run.{Ran}
use Rattle.run_code.specs.Ready.{Ready}
use Rattle.run_code.specs.Code.{byte, Coded, Worded}
use Rattle.run_state.specs.Begins.{Begins}
use Rattle.run_state.specs.Arrays.{marks_of, cells_of}
use Rattle.run_step.specs.Stops.{Stop, NoSuchTask, LogFull, number_of}
use Rattle.run_step.specs.Steps.{Held}
use Rattle.runner.specs.declared.Advanced.{Advanced}

-- before a turn of task k, which has a frame open if the table has it
abbrev pub stop_before : ℕ → List ℕ → ℕ → Result (Unit {0}) Stop
stop_before k m room = pick (leb 4 k) (Err NoSuchTask) (pick (eqb (byte m k) 0) (Err NoSuchTask) (pick (ltb room 8) (Err LogFull) (Ok tt)))

-- document 01's number of what stopped a run, 0 if nothing did
abbrev pub stop_in : Option Stop → ℕ
stop_in None = 0
stop_in (Some c) = number_of c

-- what stopped a run, `at` log bytes being written
abbrev pub answer : Option Stop → ℕ → ℕ → Advanced
answer stop at used = record { stop = stop; steps = at / 8; used = used }

-- some table, and some state of it
pub record Holding (keep : List ℕ) (code words : List (List ℕ)) (marks : List ℕ) (cells : List (List ℤ)) : Type 0 where
  pub t : Table
  pub s : State
  pub held : Held t s keep code words marks cells

-- the answer and the log are the run's, and so is the state that the arrays hold
pub record Advances (ran : Ran) (r : Advanced) (marks : List ℕ) (cells : List (List ℤ)) (log : List ℕ) : Type 0 where
  pub steps : r.steps ≡ ran.answer.steps
  pub used : r.used ≡ ran.answer.used
  pub stop : stop_in r.stop ≡ ran.answer.stop
  pub marks_are : marks ≡ marks_of ran.answer.state
  pub cells_are : cells ≡ cells_of ran.answer.state
  pub log_is : log ≡ ran.log

-- ---- a run from its start

-- a ready table is decoded, and its run begins
pub record Starting (t : Table) (keep : List ℕ) (vs : List ℤ) (code words : List (List ℕ)) (r : Option ℕ) (marks : List ℕ) (cells : List (List ℤ)) : Type 0 where
  pub ready : Ready t keep
  pub coded : Coded t keep code
  pub worded : Worded t words
  pub first : marks ≡ marks_of (first_state t)
  pub begins : Begins t vs (begin t vs) r cells

-- some table
pub record Starts (keep : List ℕ) (vs : List ℤ) (code words : List (List ℕ)) (r : Option ℕ) (marks : List ℕ) (cells : List (List ℤ)) : Type 0 where
  pub t : Table
  pub starting : Starting t keep vs code words r marks cells
