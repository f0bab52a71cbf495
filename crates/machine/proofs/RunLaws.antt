-- A run, one step after another.
use Rattle.std.specs.Prelude.{ℕ, suc, ◌+◌, ◌*◌, ◌<◌, ◌≤◌, Bool, List, [], ◌∷◌, length, ℤ}
use Rattle.std.proofs.Common.{arith, sym}
use Rattle.std.proofs.Math.Path.{◌≡◌, refl, ap}
use Rattle.std.proofs.Math.Bool.{true, false}
use Rattle.std.proofs.lemmas.List.Edits.{sets}
use Rattle.std.proofs.Math.Seq.{length-sets}
use Rattle.std.proofs.Math.Dec.{ltb}
use borrow.Author.Tests.{ltb-true, ltb-false, lt-ltb, le-ltb}
use Rattle.table.specs.declared.Table.{Table}
use Rattle.machine.specs.declared.State.{State}
use Rattle.machine.specs.State.{begun}
use Rattle.machine.specs.Step.{Stop, no_such_task, log_full, task_lost, task_blocked, too_many, values_spent, bad_toss, stop_number, Kept, kept_in, Entry, Step, stopped, stepped, step}
use Rattle.machine.specs.Run.{entry_bytes, Ran, ended, turn, and_then, course_from, ran_from, run_from, run_begun}

module _ (t : Table) (keep : Kept) (most : ℕ) (values : List ℤ) where
  -- after a step the rest of the schedule
  abbrev pub after_step : List ℕ → ℕ → State → List ℤ → List ℕ → Step → Ran
  after_step ks n s rest log (stopped c) = ended (stop_number c) values n s rest log
  after_step ks n s rest log (stepped e ns s' rest') = run_from t keep most values ks (suc n) s' rest' (sets log (8 * n) (entry_bytes e))

  pub run_end : (n : ℕ) (s : State) (rest : List ℤ) (log : List ℕ) → run_from t keep most values [] n s rest log ≡ ended 0 values n s rest log
  unfolding run_from course_from ran_from
  run_end n s rest log = refl

  pub run_next : (k : ℕ) (ks : List ℕ) (n : ℕ) (s : State) (rest : List ℤ) (log : List ℕ)
      → run_from t keep most values (k ∷ ks) n s rest log ≡ after_step ks n s rest log (turn t keep most (length log) k n s rest)
  unfolding run_from course_from ran_from
  run_next k ks n s rest log = go (turn t keep most (length log) k n s rest)
    where
      go : (r : Step) → (let c = and_then t keep most (length log) (λ z ws. course_from t keep most (length log) ks (suc n) z ws) r in ran_from c.stop values n s rest log c.steps) ≡ after_step ks n s rest log r
      go (stopped c) = refl
      go (stepped e ns z ws) =
          ap (λ (b : ℕ). let c = course_from t keep most b ks (suc n) z ws in ran_from c.stop values (suc n) z ws (sets log (8 * n) (entry_bytes e)) c.steps)
          (sym (length-sets log (8 * n) (entry_bytes e)))

pub run_begun_lem : (t : Table) (ks : List ℕ) (vs : List ℤ) (most : ℕ) (log : List ℕ) (s : State) (rest : List ℤ) → run_begun t ks vs most log (begun s rest) ≡ run_from t (kept_in t) most vs ks 0 s rest log
unfolding run_from
run_begun_lem t ks vs most log s rest = refl

-- a stop has a number
pub stop_number_lem : (c : Stop) → stop_number c ≡ 0 → ⊥
unfolding stop_number
stop_number_lem no_such_task e = absurd (omega arith)
stop_number_lem log_full e = absurd (omega arith)
stop_number_lem task_lost e = absurd (omega arith)
stop_number_lem task_blocked e = absurd (omega arith)
stop_number_lem too_many e = absurd (omega arith)
stop_number_lem values_spent e = absurd (omega arith)
stop_number_lem bad_toss e = absurd (omega arith)

-- ---- a turn: of a task that there is, with room in the log, it is the step

module _ (t : Table) (keep : Kept) (most room k n : ℕ) (s : State) (vs : List ℤ) where
  pub turn_is : k < t.tasks → 8 * n + 8 ≤ room → turn t keep most room k n s vs ≡ step t keep most s k vs
  unfolding turn
  turn_is l h = rw (lt-ltb k t.tasks l, le-ltb room (8 * n + 8) h, turn)

  pub record StepTaken (e : Entry) (ns : List ℕ) (z : State) (ws : List ℤ) : Type 0 where
    pub low : k < t.tasks
    pub fits : 8 * n + 8 ≤ room
    pub steps : step t keep most s k vs ≡ stepped e ns z ws

  pub step_taken : (e : Entry) (ns : List ℕ) (z : State) (ws : List ℤ) → turn t keep most room k n s vs ≡ stepped e ns z ws → StepTaken e ns z ws
  unfolding turn
  step_taken e ns z ws h = go (ltb k t.tasks) (ltb room (8 * n + 8)) refl refl h
    where
      go : (a b : Bool) → ltb k t.tasks ≡ a → ltb room (8 * n + 8) ≡ b
          → elim a [ true ↦ elim b [ true ↦ stopped log_full | false ↦ step t keep most s k vs ] | false ↦ stopped no_such_task ] ≡ stepped e ns z ws → StepTaken e ns z ws
      go true true i j q = let z : ◌≡◌ {A = ℕ} 0 1 = cc in absurd (omega arith)
      go true false i j q = record { low = ltb-true k t.tasks i; fits = ltb-false room (8 * n + 8) j; steps = q }
      go false b i j q = let z : ◌≡◌ {A = ℕ} 0 1 = cc in absurd (omega arith)
