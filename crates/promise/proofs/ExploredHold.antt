-- What line 2 of the sheet says, proved: an open run that came to a standstill, or failed such an assertion, would have a closed partner that does.
use Rattle.std.specs.Prelude.{ℕ, zero, suc, ◌<◌, ◌≤◌, ◌≡◌, refl, false, ◌⊎◌, length, take}
use Rattle.std.proofs.Common.{arith, sym, ◌∙◌, ap, subst, inl, inr, take-take, length-take-le}
use mathlib.Core.List.{List, [], ◌∷◌, ◌++◌, Memᴰ}
use Rattle.std.proofs.Math.Option.{some}
use Rattle.std.proofs.Math.ListN.{get_elem?}
use Rattle.std.proofs.Math.Seq.{take-length}
use Rattle.table.specs.Cases.{cases}
use Rattle.table.specs.Table.{asserted}
use Rattle.table.specs.declared.Table.{Table}
use Rattle.closing.specs.Close.{close}
use Rattle.closing.proofs.ClosedTableLaws.{close_gives}
use Rattle.machine.specs.State.{standstill}
use Rattle.machine.specs.Step.{failing}
use Rattle.machine.specs.Run.{completed}
use Rattle.exploring.specs.Answers.{none_answer}
use Rattle.exploring.specs.Explore.{explore}
use Rattle.exploring.specs.Runs.{UsedUp, Stands, Fails}
use Rattle.exploring.proofs.PathRuns.{runs_are_paths, tasks_low}
use Rattle.exploring.proofs.RunsHold.{none_runs}
use Rattle.promise.specs.Demand3.{OpenRun, ClosedRun, first, open_ran, Partner, HasPartner, cut}
use Rattle.promise.proofs.Sim.Stores.{at_in}
use Rattle.promise.proofs.Theorems.{granted, closed_sound, demand_3, demand_3_stopped, same_standstill, same_failure}
use Rattle.promise.proofs.Proof3
use Rattle.promise.specs.Explored.{Keeps, LineTwo}

last_of : {A : Type 0} (l : List A) (n : ℕ) (a : A) → length l ≡ suc n → get_elem? l n ≡ some a → l ≡ take n l ++ (a ∷ [])
last_of [] n a e i = absurd (omega arith)
last_of (x ∷ []) zero a e i = let h : x ≡ a = cc in ap (λ z. z ∷ []) h
last_of (x ∷ y ∷ l) zero a e i = absurd (omega arith)
last_of (x ∷ l) (suc n) a e i = ap (λ z. x ∷ z) (last_of l n a (omega arith) i)

at_first : {A : Type 0} (l : List A) (n : ℕ) → get_elem? (take (suc n) l) n ≡ get_elem? l n
at_first [] n = refl
at_first (x ∷ l) zero = refl
at_first (x ∷ l) (suc n) = at_first l n

-- ---- an open run that completes

module _ (o : OpenRun) (ok : (close o.table).number ≡ 0) (depth bound tried : ℕ) (none : explore (close o.table).table depth bound ≡ none_answer tried)
    (completes : (open_ran o o.schedule).answer.stop ≡ 0) (short : length o.schedule ≤ depth) where
  abbrev t' : Table
  t' = (close o.table).table

  abbrev c : ClosedRun
  c = record { tosses = (demand_3 o ok completes).0; most = 0; log = o.log }

  partner : Partner o c
  partner = (demand_3 o ok completes).3 0 o.log refl

  used_up : UsedUp t' o.schedule c.tosses c.most c.log
  used_up = record { completes = partner.completes; used_up = partner.used_up }

  -- its partner does not get there
  nowhere : Stands t' o.schedule c.tosses c.most c.log ⊎ Fails t' o.schedule c.tosses c.most c.log → ⊥
  nowhere g = ((none_runs t' depth bound tried).0 none).none (record { ks = o.schedule; ts = c.tosses; most = c.most; log = c.log; short = short; runs = used_up; gets = g })

  not_still : standstill o.table (open_ran o o.schedule).answer.state ≡ false
  not_still =
      let same = rw (take-length o.schedule) at (same_standstill o ok c partner (length o.schedule) (omega arith)) in
      cases (standstill o.table (open_ran o o.schedule).answer.state) (λ e. absurd (nowhere (inl (sym same ∙ e)))) (λ e. e)

  low : (n k : ℕ) → get_elem? o.schedule n ≡ some k → k < o.table.tasks
  low n k e =
      let g = close_gives o.table ok in
      let p = runs_are_paths t' (closed_sound o.table ok) g.closed o.schedule c.tosses c.most c.log used_up in
      omega (arith, g.tasks, tasks_low t' p.path k (subst (Memᴰ k) (sym p.tasks) (at_in o.schedule n k e)))

  not_failing : (n k : ℕ) → length o.schedule ≡ suc n → get_elem? o.schedule n ≡ some k → Keeps o.table (open_ran o (first o n)).answer.state k
      → failing o.table (open_ran o (first o n)).answer.state k ≡ false
  not_failing n k size at keeps =
      let k< = low n k at in
      let node = Proof3.same_node granted closed_sound o ok c partner n (omega arith) k k< in
      let same = same_failure o ok c partner n (omega arith) k keeps.v k< (ap asserted (sym node) ∙ keeps.asserts) keeps.keeps in
      cases (failing o.table (open_ran o (first o n)).answer.state k)
      (λ e. absurd (nowhere (inr (record { before = first o n; k = k; last = last_of o.schedule n k size at; fails = sym same ∙ e }))))
      (λ e. e)

-- ---- any open run that begins: the first n of its completed steps are such a run

module _ (o : OpenRun) (ok : (close o.table).number ≡ 0) (begins : (open_ran o []).answer.stop ≡ 0) where
  abbrev steps : ℕ
  steps = (open_ran o o.schedule).answer.steps

  stopped : (open_ran o (first o steps) ≡ completed (open_ran o o.schedule)) × HasPartner (cut o steps)
  stopped = demand_3_stopped o ok begins

  all_partner : Partner (cut o steps) (record { tosses = stopped.1.0; most = 0; log = o.log })
  all_partner = stopped.1.3 0 o.log refl

  all_long : length (first o steps) ≡ steps
  all_long = sym (rw take-length at (all_partner.agree (length (first o steps)) (omega arith)).open_steps) ∙ ap (λ r. r.answer.steps) stopped.0

  first_long : (n : ℕ) → n ≤ steps → length (first o n) ≡ n
  first_long n l = rw (take-take n steps o.schedule l) at (length-take-le n (first o steps) (omega (arith, all_long)))

  first_completes : (n : ℕ) → n ≤ steps → (open_ran o (first o n)).answer.stop ≡ 0
  first_completes n l = rw (take-take n steps o.schedule l) at (all_partner.agree n (omega (arith, all_long))).open_completes

module _ (o : OpenRun) (ok : (close o.table).number ≡ 0) (depth bound tried : ℕ) (none : explore (close o.table).table depth bound ≡ none_answer tried)
    (begins : (open_ran o []).answer.stop ≡ 0) (short : (open_ran o o.schedule).answer.steps ≤ depth) where
  never_still : (n : ℕ) → n ≤ (open_ran o o.schedule).answer.steps → standstill o.table (open_ran o (first o n)).answer.state ≡ false
  never_still n l = not_still (cut o n) ok depth bound tried none (first_completes o ok begins n l) (omega (arith, first_long o ok begins n l))

  never_failing : (n k : ℕ) → n < (open_ran o o.schedule).answer.steps → get_elem? o.schedule n ≡ some k → Keeps o.table (open_ran o (first o n)).answer.state k
      → failing o.table (open_ran o (first o n)).answer.state k ≡ false
  never_failing n k l at keeps =
      let long = first_long o ok begins (suc n) l in
      subst (λ ks. Keeps o.table (open_ran o ks).answer.state k → failing o.table (open_ran o ks).answer.state k ≡ false) (take-take n (suc n) o.schedule (omega arith))
      (not_failing (cut o (suc n)) ok depth bound tried none (first_completes o ok begins (suc n) l) (omega (arith, long)) n k long (at_first o.schedule n ∙ at)) keeps

pub line_two : LineTwo
line_two t depth bound tried ok none = record {
  no_standstill = λ o s n l.
      subst (λ (u : Table). standstill u (open_ran o (first o n)).answer.state ≡ false) s.of_table
      (never_still o (rw s.of_table ok) depth bound tried (rw s.of_table none) s.begins s.short n l);
  no_failure = λ o s n k l at. subst (λ (u : Table). Keeps u (open_ran o (first o n)).answer.state k → failing u (open_ran o (first o n)).answer.state k ≡ false) s.of_table
      (never_failing o (rw s.of_table ok) depth bound tried (rw s.of_table none) s.begins s.short n k l at);
}
