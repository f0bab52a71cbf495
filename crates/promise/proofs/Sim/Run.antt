-- Whole runs: the tosses of the steps, one after another, let the closed run follow the open one over the same task numbers.
use Prim.Native.Nat.{ℕ, zero, suc, ◌+◌, ◌*◌, ◌<◌, ◌≤◌}
use Rattle.std.proofs.Common.{arith, add-suc, suc-add, ◌∙◌}
use Rattle.std.proofs.Math.Nat.{add-zero, sub-zero}
use Rattle.std.specs.Prelude.{◌≡◌, take, ltb, ℤ}
use Rattle.std.proofs.Math.Path.{refl, sym, ap}
use mathlib.Core.List.{List, [], ◌∷◌, ◌++◌}
use Rattle.std.proofs.Math.ListN.{length}
use Rattle.std.proofs.lemmas.List.Edits.{sets}
use Rattle.std.proofs.Math.Seq.{length-sets}
use borrow.Author.Tests.{ltb-true, ltb-false}
use Rattle.table.specs.Cases.{cases}
use Rattle.table.specs.declared.Table.{Table}
use Rattle.closing.proofs.ListLaws.{all_nil, all_append}
use Rattle.closing.specs.Close.{closed_with, close_table}
use Rattle.machine.specs.declared.State.{State}
use Rattle.machine.specs.Step.{Kept, Entry, Step, stopped, stepped, step}
use Rattle.machine.proofs.KeptLaws.{all_kept}
use Rattle.machine.specs.Run.{entry_bytes, Ran, turn, and_then, course_from, ran_from, run_from}
use Rattle.machine.proofs.RunLaws.{after_step, run_next, stop_number_lem, turn_is}
use Rattle.promise.specs.History.{History, noted_after, history_from}
use Rattle.promise.specs.Demand3.{Toss, Tosses}
use Rattle.promise.proofs.Sim.Wf.{Wf}
use Rattle.promise.proofs.Sim.Locals.{kept_at}
use Rattle.promise.proofs.Sim.Same.{Same}
use Rattle.promise.proofs.Sim.Step.{WhenStepped, SameEntry, Done, step_sim}
use Rattle.promise.proofs.Sim.Log.{SameLogs, log_next}

-- ---- a run's first step

module _ (u : Table) (keep : Kept) (most : ℕ) (k : ℕ) (ks : List ℕ) (n : ℕ) (s : State) (rest : List ℤ) where
  run_step : (log : List ℕ) (all : List ℤ) (r : Step) → turn u keep most (length log) k n s rest ≡ r → run_from u keep most all (k ∷ ks) n s rest log ≡ after_step u keep most all ks n s rest log r
  run_step log all r e = run_next u keep most all k ks n s rest log ∙ ap (after_step u keep most all ks n s rest log) e

  history_step : (room : ℕ) (h : History) (e : Entry) (ns : List ℕ) (z : State) (ws : List ℤ) → turn u keep most room k n s rest ≡ stepped e ns z ws
      → history_from u s h (course_from u keep most room (k ∷ ks) n s rest).steps ≡ history_from u z (noted_after u s e ns h) (course_from u keep most room ks (suc n) z ws).steps
  unfolding course_from history_from
  history_step room h e ns z ws i = ap (λ (r : Step). history_from u s h (and_then u keep most room (λ z ws. course_from u keep most room ks (suc n) z ws) r).steps) i

module _ (t : Table) (wf : Wf t) (most most' : ℕ) where
  abbrev t' : Table
  t' = close_table t

  -- ---- one turn

  record Turned (h : History) (s s' : State) (k n : ℕ) (log log' : List ℕ) (e : Entry) (ns : List ℕ) (s₁ : State) (vs : List ℤ) : Type 0 where
    room : 8 * n + 8 ≤ length log
    entry' : Entry
    state' : State
    tosses : List ℤ
    small : Tosses tosses
    closes : (ws : List ℤ) → turn t' all_kept most' (length log') k n s' (tosses ++ ws) ≡ stepped entry' [] state' ws
    entries : SameEntry t e entry'
    states : Same t (noted_after t s e ns h) s₁ state'

  same_tasks : t'.tasks ≡ t.tasks
  unfolding close_table closed_with
  same_tasks = refl

  turned : (h : History) (s s' : State) (q : Same t h s s') (k n : ℕ) (log log' : List ℕ) → length log' ≡ length log → (k< : k < t.tasks) → 8 * n + 8 ≤ length log
      → (r : Step) → WhenStepped (Done t wf most most' h s s' q k k<) r → WhenStepped (Turned h s s' k n log log') r
  turned h s s' q k n log log' size k< room (stopped c) d = tt
  turned h s s' q k n log log' size k< room (stepped e ns s₁ vs) d = record {
    room = room;
    entry' = d.entry';
    state' = d.state';
    tosses = d.tosses;
    small = d.small;
    closes = λ ws. turn_is t' all_kept most' (length log') k n s' (d.tosses ++ ws) (rw same_tasks k<) (omega arith) ∙ d.closes ws;
    entries = d.entries;
    states = d.states;
  }

  turn_sim : (h : History) (s s' : State) → Same t h s s' → (k n : ℕ) (rest : List ℤ) (log log' : List ℕ) → length log' ≡ length log → WhenStepped (Turned h s s' k n log log') (turn t (kept_at t) most (length log) k n s rest)
  unfolding turn
  turn_sim h s s' q k n rest log log' size = cases (ltb k t.tasks)
      (λ a. cases (ltb (length log) (8 * n + 8))
      (λ b. rw (a, b, turn) tt)
      (λ b. let k< = ltb-true k t.tasks a in
      rw (a, b, turn) (turned h s s' q k n log log' size k< (ltb-false (length log) (8 * n + 8) b) (step t (kept_at t) most s k rest) (step_sim t wf most most' h s s' q k k< rest))))
      (λ a. rw (a, turn) tt)

  -- ---- all turns

  -- what the runs have come to after n steps
  pub record Strong (h : History) (n : ℕ) (r r' : Ran) : Type 0 where
    pub open_completes : r.answer.stop ≡ 0
    pub closed_completes : r'.answer.stop ≡ 0
    pub open_steps : r.answer.steps ≡ n
    pub closed_steps : r'.answer.steps ≡ n
    pub logs : SameLogs t n r.log r'.log
    pub states : Same t h r.answer.state r'.answer.state

  module _ (all : List ℤ) where
    abbrev opens : List ℕ → ℕ → State → List ℤ → List ℕ → Ran
    opens ks n s rest log = run_from t (kept_at t) most all ks n s rest log

    abbrev noted : List ℕ → ℕ → State → List ℤ → List ℕ → History → History
    noted ks n s rest log h = history_from t s h (course_from t (kept_at t) most (length log) ks n s rest).steps

    abbrev closes : List ℤ → List ℕ → ℕ → State → List ℤ → List ℕ → Ran
    closes all' ks n s ts log = run_from t' all_kept most' all' ks n s ts log

    -- the closed run on the tosses ts, of which none is left
    pub record Follows (ks : List ℕ) (n : ℕ) (s s' : State) (h : History) (rest : List ℤ) (log log' : List ℕ) (ts all' : List ℤ) : Type 0 where
      pub completes : (closes all' ks n s' ts log').answer.stop ≡ 0
      pub used_up : (closes all' ks n s' ts log').answer.used ≡ length all'
      pub small : Tosses ts
      pub each : (m : ℕ) → m ≤ length ks → Strong (noted (take m ks) n s rest log h) (n + m) (opens (take m ks) n s rest log) (closes all' (take m ks) n s' ts log')

    -- before any step
    none_yet : (n : ℕ) (s s' : State) (h : History) (rest : List ℤ) (log log' : List ℕ) (ts all' : List ℤ) → Same t h s s' → SameLogs t n log log' → Strong (noted [] n s rest log h) (n + zero) (opens [] n s rest log) (closes all' [] n s' ts log')
    unfolding run_from course_from ran_from history_from
    none_yet n s s' h rest log log' ts all' q l = rw add-zero (record { open_completes = refl; closed_completes = refl; open_steps = refl; closed_steps = refl; logs = l; states = q })

    -- one step more
    one_more : (k : ℕ) (ks : List ℕ) (n : ℕ) (s s' : State) (h : History) (rest : List ℤ) (log log' : List ℕ) (e : Entry) (ns : List ℕ) (s₁ : State) (vs : List ℤ) (ts all' : List ℤ)
        → Same t h s s' → SameLogs t n log log'
        → turn t (kept_at t) most (length log) k n s rest ≡ stepped e ns s₁ vs
        → (d : Turned h s s' k n log log' e ns s₁ vs)
        → Follows ks (suc n) s₁ d.state' (noted_after t s e ns h) vs (sets log (8 * n) (entry_bytes e)) (sets log' (8 * n) (entry_bytes d.entry')) ts all'
        → Follows (k ∷ ks) n s s' h rest log log' (d.tosses ++ ts) all'
    one_more k ks n s s' h rest log log' e ns s₁ vs ts all' q l i d f = record {
      completes = rw (closed_is ks) f.completes;
      used_up = rw (closed_is ks) f.used_up;
      small = all_append Toss d.tosses ts d.small f.small;
      each = each;
    }
      where
        us : List ℤ
        us = d.tosses ++ ts

        closed_is : (js : List ℕ) → closes all' (k ∷ js) n s' us log' ≡ closes all' js (suc n) d.state' ts (sets log' (8 * n) (entry_bytes d.entry'))
        closed_is js = run_step t' all_kept most' k js n s' us log' all' (stepped d.entry' [] d.state' ts) (d.closes ts)

        each : (m : ℕ) → m ≤ length (k ∷ ks) → Strong (noted (take m (k ∷ ks)) n s rest log h) (n + m) (opens (take m (k ∷ ks)) n s rest log) (closes all' (take m (k ∷ ks)) n s' us log')
        each zero a = none_yet n s s' h rest log log' us all' q l
        each (suc m) a = rw (
          add-suc,
          ← suc-add n m,
          closed_is (take m ks),
          run_step t (kept_at t) most k (take m ks) n s rest log all (stepped e ns s₁ vs) i,
          history_step t (kept_at t) most k (take m ks) n s rest (length log) h e ns s₁ vs i,
        ) (rw (length-sets log (8 * n) (entry_bytes e)) at (f.each m (omega arith)))

    pub run_sim : (ks : List ℕ) (n : ℕ) (s s' : State) (h : History) (rest : List ℤ) (log log' : List ℕ) → Same t h s s' → SameLogs t n log log' → length log' ≡ length log
        → (opens ks n s rest log).answer.stop ≡ 0 → (ts : List ℤ) × ((all' : List ℤ) → Follows ks n s s' h rest log log' ts all')
    unfolding run_from course_from ran_from
    run_sim [] n s s' h rest log log' q l size c = ([], λ all'. record { completes = refl; used_up = sub-zero (length all'); small = all_nil Toss; each = each all' })
      where
        each : (all' : List ℤ) (m : ℕ) → m ≤ 0 → Strong (noted (take m []) n s rest log h) (n + m) (opens (take m []) n s rest log) (closes all' (take m []) n s' [] log')
        each all' zero a = none_yet n s s' h rest log log' [] all' q l
        each all' (suc m) a = absurd (omega arith)
    run_sim (k ∷ ks) n s s' h rest log log' q l size c = go (turn t (kept_at t) most (length log) k n s rest) refl (turn_sim h s s' q k n rest log log' size)
        (λ n₁ s₁ s₁' h₁ vs log₁ log₁' q₁ l₁ size₁ c₁. run_sim ks n₁ s₁ s₁' h₁ vs log₁ log₁' q₁ l₁ size₁ c₁)
      where
        go : (r : Step) → turn t (kept_at t) most (length log) k n s rest ≡ r → WhenStepped (Turned h s s' k n log log') r
            → ((n₁ : ℕ) (s₁ s₁' : State) (h₁ : History) (vs : List ℤ) (log₁ log₁' : List ℕ) → Same t h₁ s₁ s₁' → SameLogs t n₁ log₁ log₁' → length log₁' ≡ length log₁
            → (opens ks n₁ s₁ vs log₁).answer.stop ≡ 0 → (ts : List ℤ) × ((all' : List ℤ) → Follows ks n₁ s₁ s₁' h₁ vs log₁ log₁' ts all'))
            → (ts : List ℤ) × ((all' : List ℤ) → Follows (k ∷ ks) n s s' h rest log log' ts all')
        go (stopped z) i d f = absurd (stop_number_lem z (rw (run_step t (kept_at t) most k ks n s rest log all (stopped z) i) at c))
        go (stepped e ns s₁ vs) i d f =
            let b = f (suc n) s₁ d.state' (noted_after t s e ns h) vs (sets log (8 * n) (entry_bytes e)) (sets log' (8 * n) (entry_bytes d.entry')) d.states
            (log_next t n log log' e d.entry' l d.entries size d.room)
            (length-sets log' (8 * n) (entry_bytes d.entry') ∙ size ∙ sym (length-sets log (8 * n) (entry_bytes e)))
            (rw (run_step t (kept_at t) most k ks n s rest log all (stepped e ns s₁ vs) i) at c) in
            (d.tosses ++ b.0, λ all'. one_more k ks n s s' h rest log log' e ns s₁ vs b.0 all' q l i d (b.1 all'))
