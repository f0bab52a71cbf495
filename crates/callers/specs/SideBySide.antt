-- The runs of a table and of its closed one, over one schedule.
use Rattle.std.specs.Prelude.{ℕ, ◌≤◌, ◌≡◌, List, length, ℤ}
use Rattle.table.specs.declared.Table.{Table}
use Rattle.closing.specs.Close.{close}
use Rattle.machine.specs.Run.{run}
use Rattle.promise.specs.Demand3.{OpenRun, Tosses}
use Rattle.promise.proofs.Calls.{AgreeAfter, CallsAgree}
use Rattle.callers.specs.declared.Beside.{Beside}

-- schedule, inputs, tosses, most dropped nodes per step and log buffer of either run; where the closer refuses, its table is all 0
abbrev pub beside_of : Table → List ℕ → List ℤ → List ℤ → ℕ → ℕ → List ℕ → List ℕ → Beside
beside_of t ks vs ts most most' log log' = record {
  number = (close t).number;
  original = (run t ks vs most log).answer;
  closed = (run (close t).table ks ts most' log').answer;
}

-- the open run that is called
abbrev pub original_of : Table → List ℕ → List ℤ → ℕ → List ℕ → OpenRun
original_of t ks vs most log = record { table = t; schedule = ks; inputs = vs; most = most; log = log }

-- the closed run's answer and log beside the open one's, with tosses ts
pub record Partners (o : OpenRun) (ts : List ℤ) (r : Beside) (left left' : List ℕ) : Type 0 where
  pub completes : r.closed.stop ≡ 0
  pub used_up : r.closed.used ≡ length ts
  pub agree : AgreeAfter o (close o.table).table (length o.schedule) r.original r.closed left left'

-- tosses with which every call of the closed table agrees with the open run; so does this one, if they were passed
pub record Partnered (o : OpenRun) (passed : List ℤ) (log' : List ℕ) (r : Beside) (left left' : List ℕ) : Type 0 where
  pub tosses : List ℤ
  pub small : Tosses tosses
  pub few : length tosses ≤ length o.schedule
  pub calls : (most : ℕ) (log : List ℕ) → length log ≡ length o.log → CallsAgree o (close o.table).table (record { tosses = tosses; most = most; log = log })
  pub here : passed ≡ tosses → length log' ≡ length o.log → Partners o tosses r left left'

-- demand 3 of one call: the closer accepted, and the open run completed
abbrev pub Agrees : Table → List ℕ → List ℤ → List ℤ → ℕ → List ℕ → List ℕ → Beside → List ℕ → List ℕ → Type 0
Agrees t ks vs passed most log log' r left left' = r.number ≡ 0 → r.original.stop ≡ 0 → Partnered (original_of t ks vs most log) passed log' r left left'
