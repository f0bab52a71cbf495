-- "one that stops at a step is covered by the run of the schedule before that step": up to its stop a run is the run of the task numbers of its completed steps.
use Rattle.std.specs.Prelude.{ℕ, zero, suc, ◌+◌, ◌*◌, ◌≡◌, length, take, ℤ}
use Rattle.std.proofs.Common.{arith, add-zero, add-suc, suc-add, sym, ◌∙◌}
use Rattle.std.proofs.Math.Nat.{zero-add}
use Rattle.std.proofs.Math.Path.{refl, ap}
use mathlib.Core.List.{List, [], ◌∷◌}
use Rattle.std.proofs.lemmas.List.Edits.{sets}
use Rattle.table.specs.declared.Table.{Table}
use Rattle.text.specs.Writer.{fault}
use Rattle.machine.specs.declared.State.{State}
use Rattle.machine.specs.State.{Begun, spent, begun, begin}
use Rattle.machine.specs.Step.{stop_number, Kept, kept_in, Step, stopped, stepped}
use Rattle.machine.specs.Run.{entry_bytes, CompletedStep, Course, turn, and_then, course_from, ran_from, run_begun, run_checked, run, completed}

-- the same steps, and no stop
abbrev whole : Course → Course
whole c = record { steps = c.steps; stop = 0 }

module _ (t : Table) (keep : Kept) (most room : ℕ) where
  abbrev course : List ℕ → ℕ → State → List ℤ → Course
  course ks n s vs = course_from t keep most room ks n s vs

  after : (k : ℕ) (ks : List ℕ) (n : ℕ) (s : State) (vs : List ℤ) → ((z : State) (ws : List ℤ) → course (take (length (course ks (suc n) z ws).steps) ks) (suc n) z ws ≡ whole (course ks (suc n) z ws))
      → (r : Step) → turn t keep most room k n s vs ≡ r
      → let c = and_then t keep most room (λ z ws. course ks (suc n) z ws) r in course (take (length c.steps) (k ∷ ks)) n s vs ≡ whole c
  unfolding course_from
  after k ks n s vs go (stopped c) e = refl
  after k ks n s vs go (stepped b ns z ws) e = rw e (ap (λ (c : Course). record { steps = record { entry = b; dropped = ns; state = z; rest = ws } ∷ c.steps; stop = c.stop }) (go z ws))

  covered : (ks : List ℕ) (n : ℕ) (s : State) (vs : List ℤ) → course (take (length (course ks n s vs).steps) ks) n s vs ≡ whole (course ks n s vs)
  unfolding course_from
  covered [] n s vs = refl
  covered (k ∷ ks) n s vs = after k ks n s vs (λ z ws. covered ks (suc n) z ws) (turn t keep most room k n s vs) refl

-- the completed steps are counted
pub ran_steps : (stop : ℕ) (vs : List ℤ) (n : ℕ) (s : State) (rest : List ℤ) (log : List ℕ) (cs : List CompletedStep) → (ran_from stop vs n s rest log cs).answer.steps ≡ n + length cs
unfolding ran_from
ran_steps stop vs n s rest log [] = sym (add-zero n)
ran_steps stop vs n s rest log (c ∷ cs) = ran_steps stop vs (suc n) c.state c.rest (sets log (8 * n) (entry_bytes c.entry)) cs ∙ (suc-add n (length cs) ∙ sym (add-suc n (length cs)))

-- the stop is said, and nothing else depends on it
ran_whole : (stop : ℕ) (vs : List ℤ) (n : ℕ) (s : State) (rest : List ℤ) (log : List ℕ) (cs : List CompletedStep) → ran_from 0 vs n s rest log cs ≡ completed (ran_from stop vs n s rest log cs)
unfolding ran_from
ran_whole stop vs n s rest log [] = refl
ran_whole stop vs n s rest log (c ∷ cs) = ran_whole stop vs (suc n) c.state c.rest (sets log (8 * n) (entry_bytes c.entry)) cs

module _ (t : Table) (ks : List ℕ) (vs : List ℤ) (most : ℕ) (log : List ℕ) where
  begun_covered : (b : Begun) → (run_begun t [] vs most log b).answer.stop ≡ 0
      → run_begun t (take (run_begun t ks vs most log b).answer.steps ks) vs most log b ≡ completed (run_begun t ks vs most log b)
  unfolding stop_number
  begun_covered spent e = absurd (omega arith)
  begun_covered (begun s rest) e =
      let c = course_from t (kept_in t) most (length log) ks 0 s rest in
      let many = ran_steps c.stop vs 0 s rest log c.steps ∙ zero-add (length c.steps) in
      ap (λ (k : ℕ). run_begun t (take k ks) vs most log (begun s rest)) many
      ∙ ap (λ (d : Course). ran_from d.stop vs 0 s rest log d.steps) (covered t (kept_in t) most (length log) ks 0 s rest)
      ∙ ran_whole c.stop vs 0 s rest log c.steps

  checked_covered : (n : ℕ) → (run_checked t [] vs most log n).answer.stop ≡ 0
      → run_checked t (take (run_checked t ks vs most log n).answer.steps ks) vs most log n ≡ completed (run_checked t ks vs most log n)
  checked_covered zero e = begun_covered (begin t vs) e
  checked_covered (suc n) e = absurd (omega arith)

  -- a run that begins: with no task number it completes
  pub stopped_covered : (run t [] vs most log).answer.stop ≡ 0 → run t (take (run t ks vs most log).answer.steps ks) vs most log ≡ completed (run t ks vs most log)
  unfolding run
  stopped_covered e = checked_covered (fault t) e
