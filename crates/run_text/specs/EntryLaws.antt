-- What holds of every entry of a run's log: a task, a procedure and a flag of one digit, and a node of at most two.
use Rattle.std.specs.Prelude.{ℕ, zero, suc, ◌+◌, ◌-◌, ◌*◌, ◌<◌, ◌≤◌, ◌≡◌, refl, List, [], ◌∷◌, eqb, length, get_or, ℤ}
use Rattle.std.proofs.Math.Path.{subst}
use Rattle.std.proofs.Common.{◌∙◌, ap, arith, add-zero, add-suc, suc-add, eqb-true}
use Rattle.std.proofs.Math.Option.{Option, none, some}
use Rattle.std.proofs.lemmas.List.Edits.{sets}
use Rattle.std.proofs.lemmas.Bool.{eqb-false}
use Rattle.table.specs.Cases.{cases}
use Rattle.table.specs.Mask.{bit, mask_of}
use Rattle.table.specs.MaskLaws.{bit_mask_of}
use Rattle.table.specs.Shape.{Shaped}
use Rattle.table.specs.declared.Table.{Table}
use Rattle.text.specs.Writer.{fault}
use Rattle.machine.specs.declared.Frame.{Frame}
use Rattle.machine.specs.declared.State.{State}
use Rattle.machine.specs.State.{open_frames, place, topmost, Begun, spent, begun, begin}
use Rattle.machine.specs.Step.{Stop, kept_in, Entry, Step, stopped, stepped, step_of, before, unless, step}
use Rattle.machine.proofs.StepLaws.{step_task}
use Rattle.machine.specs.Run.{Ran, flagged, entry_bytes, turn, run_begun, run, run_from}
use Rattle.machine.proofs.RunLaws.{after_step, run_end, run_next, run_begun_lem, step_taken}
use Rattle.machine.proofs.LogLaws.{byte_old, byte_new}
use Rattle.run_code.specs.Ready.{Ready}
use Rattle.run_code.specs.ReadyLaws.{ready}
use Rattle.run_state.specs.Good.{Good}
use Rattle.run_state.specs.GoodLaws.{begun_good}
use Rattle.run_state.specs.StepGood.{step_good}
use Rattle.run_step.specs.Whole.{Names, step_names}
use Rattle.report_steps.specs.Entries.{Entered}

-- ---- one entry

-- it names the node before which its task stood
names_unless : (f : Frame) (o : Option Stop) (r : Step) → Names f r → Names f (unless o r)
names_unless f none r h = h
names_unless f (some c) r h = tt

abbrev Few : Entry → Type 0
Few e = (e.task < 10) × (e.proc < 10) × (e.node < 100)

flag_few : (o : Option ℤ) → get_or (flagged o) 0 0 < 10
flag_few none = omega arith
flag_few (some x) = omega arith

-- the first n entries of a log
abbrev AllEntered : ℕ → List ℕ → Type 0
AllEntered n log = (i : ℕ) → i < n → Entered log i

next_entered : (n : ℕ) (log : List ℕ) (e : Entry) → AllEntered n log → Few e → 8 * n + 8 ≤ length log → AllEntered (suc n) (sets log (8 * n) (entry_bytes e))
next_entered n log e a f room i l = cases (eqb i n)
    (λ k. rw (eqb-true i n k) (record {
      task = rw (byte_new log n 0 e room (omega arith)) f.0;
      proc = rw (byte_new log n 1 e room (omega arith)) f.1;
      node = rw (byte_new log n 2 e room (omega arith)) f.2;
      flag = rw (byte_new log n 3 e room (omega arith)) (flag_few e.value);
    }))
    (λ k. let h : i < n = omega (arith, eqb-false i n k) in record {
      task = rw (byte_old log n i 0 e h (omega arith)) (a i h).task;
      proc = rw (byte_old log n i 1 e h (omega arith)) (a i h).proc;
      node = rw (byte_old log n i 2 e h (omega arith)) (a i h).node;
      flag = rw (byte_old log n i 3 e h (omega arith)) (a i h).flag;
    })

-- ---- a run

abbrev Ends : Ran → Type 0
Ends r = AllEntered r.answer.steps r.log

module _ (t : Table) (keep : List ℕ) (sound : Ready t keep) (most : ℕ) where
  step_few : (s : State) → Good t s → (k : ℕ) → k < t.tasks → (vs : List ℤ) (e : Entry) (ns : List ℕ) (z : State) (rest : List ℤ) → step t (kept_in t) most s k vs ≡ stepped e ns z rest → Few e
  unfolding step
  step_few s g k l vs e ns z rest h =
      let n : Names (topmost s k) (stepped e ns z rest) = subst (Names (topmost s k)) h (names_unless (topmost s k) (before t s k) (step_of t (kept_in t) most s k vs) (step_names t (kept_in t) most s k vs)) in (
        omega (arith, step_task t (kept_in t) most s k vs e ns z rest h, sound.tasks),
        omega (arith, n.0, g.procs (place k (open_frames s k - 1))),
        omega (arith, n.1, g.nodes (place k (open_frames s k - 1))),
      )

  module _ (all : List ℤ) where
    run_entered : (ks : List ℕ) (n : ℕ) (s : State) (rest : List ℤ) (log : List ℕ) → Good t s → AllEntered n log → Ends (run_from t (kept_in t) most all ks n s rest log)
    run_entered [] n s rest log g a = rw (run_end t (kept_in t) most all n s rest log) a
    run_entered (k ∷ ks) n s rest log g a =
        rw (run_next t (kept_in t) most all k ks n s rest log) (after (turn t (kept_in t) most (length log) k n s rest) refl (λ z ws l h b. run_entered ks (suc n) z ws l h b))
      where
        after : (r : Step) → turn t (kept_in t) most (length log) k n s rest ≡ r
            → ((z : State) (ws : List ℤ) (l : List ℕ) → Good t z → AllEntered (suc n) l → Ends (run_from t (kept_in t) most all ks (suc n) z ws l))
            → Ends (after_step t (kept_in t) most all ks n s rest log r)
        after (stopped c) e go = a
        after (stepped e ns z ws) h go =
            let q = step_taken t (kept_in t) most (length log) k n s rest e ns z ws h in
            go z ws (sets log (8 * n) (entry_bytes e)) (step_good t keep sound s g most k q.low rest e ns z ws q.steps) (next_entered n log e a (step_few s g k q.low rest e ns z ws q.steps) q.fits)

  begun_entered : (ks : List ℕ) (vs : List ℤ) (log : List ℕ) (b : Begun) → begin t vs ≡ b → Ends (run_begun t ks vs most log b)
  begun_entered ks vs log spent e = λ i l. absurd (omega arith)
  begun_entered ks vs log (begun s rest) e =
      rw (run_begun_lem t ks vs most log s rest) (run_entered vs ks 0 s rest log (begun_good t keep sound vs s rest e) (λ i l. absurd (omega arith)))

-- ---- the masks of the kept nodes, of n procedures from p on

abbrev masks : Table → ℕ → ℕ → List ℕ
masks t zero p = []
masks t (suc n) p = mask_of 32 (kept_in t p) ∷ masks t n (suc p)

mask_at : (t : Table) (n p i : ℕ) → i < n → get_or (masks t n p) i 0 ≡ mask_of 32 (kept_in t (p + i))
mask_at t zero p i l = absurd (omega arith)
mask_at t (suc n) p zero l = rw add-zero
mask_at t (suc n) p (suc i) l = rw (add-suc, ← suc-add p i) (mask_at t n (suc p) i (omega arith))

mask_keeps : (t : Table) (p n : ℕ) → p < 8 → n < 32 → bit n (get_or (masks t 8 0) p 0) ≡ kept_in t p n
mask_keeps t p n h l = ap (bit n) (mask_at t 8 0 p h) ∙ bit_mask_of 32 n (kept_in t (0 + p)) l ∙ ap (λ (q : ℕ). kept_in t q n) (omega arith)

pub all_entered : (t : Table) (ks : List ℕ) (vs : List ℤ) (m : ℕ) (l : List ℕ) → Shaped t → fault t ≡ 0 → (i : ℕ) → i < (run t ks vs m l).answer.steps → Entered (run t ks vs m l).log i
unfolding run
all_entered t ks vs m l s z = rw z (begun_entered t (masks t 8 0) (ready t (masks t 8 0) s z (mask_keeps t)) m ks vs l (begin t vs) refl)
