-- What holds of every run: no task has more than 8 frames open, and each completed step is in the log.
use Prim.Native.Nat.{ℕ, zero, suc, ◌+◌, ◌-◌, ◌*◌, ◌≤◌}
use Rattle.std.specs.Prelude.{◌≡◌, Bool, ltb, length, take, drop, ℤ}
use Rattle.std.proofs.Math.Path.{refl}
use Rattle.std.proofs.Common.{◌∙◌, arith}
use Rattle.std.proofs.Math.Bool.{true, false}
use mathlib.Core.List.{List, [], ◌∷◌}
use Rattle.std.proofs.Math.Option.{Option, none, some}
use Rattle.std.proofs.Math.Dec.{leb}
use Rattle.std.proofs.lemmas.List.Edits.{sets}
use Rattle.std.proofs.Math.Seq.{length-sets}
use borrow.Author.Tests.{leb-false, ltb-false}
use Rattle.table.specs.Mask.{pick}
use Rattle.table.specs.Table.{node_at, arc_to, act}
use Rattle.table.specs.declared.Node.{Node}
use Rattle.table.specs.declared.Table.{Table}
use Rattle.text.specs.Reader.{concat_from}
use Rattle.text.specs.Writer.{fault}
use Rattle.machine.specs.declared.Frame.{Frame}
use Rattle.machine.specs.declared.State.{State}
use Rattle.machine.specs.State.{no_state, open_frames, is_lost, frame_at, topmost, blocked_at, blocked, stands_before, first_state, first_inputs, with_inputs, Begun, spent, begun, take_inputs, begin}
use Rattle.machine.specs.Step.{task_lost, task_blocked, Memory, Does, exec, choose, Kept, kept_in, Walk, halts, arrives, along, walk, Entry, Step, stopped, stepped, landed, settled, returned, memory, entry_of, step_as, step_of, before, unless, step}
use Rattle.machine.proofs.ExecLaws.{Executes, calling, returning, going, stopping, exec_view}
use Rattle.machine.specs.Run.{Ran, entry_bytes, turn, run_begun, run_checked, run, run_from}
use Rattle.machine.proofs.RunLaws.{after_step, run_end, run_next, run_begun_lem}
use Rattle.run_state.specs.ArrayLaws.{after_set}

either_way : {A : Type 0} (P : A → Type 0) (b : Bool) {x y : A} → (b ≡ true → P x) → (b ≡ false → P y) → P (elim b [ true ↦ x | false ↦ y ])
either_way P true f g = f refl
either_way P false f g = g refl

-- ---- frames open

pub record Few (s : State) : Type 0 where
  pub few : (k : ℕ) → open_frames s k ≤ 8

-- what holds of a run that began with such a log
pub record Sound (log : List ℕ) (r : Ran) : Type 0 where
  pub few : Few r.answer.state
  pub steps : 8 * r.answer.steps ≤ length log
  pub size : length r.log ≡ length log

abbrev Keeps : Step → Type 0
Keeps (stopped c) = Unit {0}
Keeps (stepped e ns s vs) = Few s

landed_few : (s : State) (k j p : ℕ) (w : Option ℕ) (m : Memory) → Few s → Few (landed s k j p w m)
landed_few s k j p none m h = record { few = h.few }
landed_few s k j p (some n) m h = record { few = h.few }

settled_keeps : (e : Entry) (s : State) (k j p : ℕ) (w : Walk) → Few s → Keeps (settled e s k j p w)
settled_keeps e s k j p (halts c) h = tt
settled_keeps e s k j p (arrives w m vs ns) h = landed_few s k j p w m h

returned_few : (s : State) (k : ℕ) → Few s → Few (returned s k)
returned_few s k h = record { few = λ i. after_set (λ (n : ℕ). n ≤ 8) s.depth k i (open_frames s k - 1) 0 (omega (arith, h.few k)) (h.few i) }

module _ (t : Table) (keep : Kept) (most : ℕ) where
  does_keeps : (s : State) (k : ℕ) (f : Frame) (vs : List ℤ) (x : Node) (m : Memory) (d : Does) → Executes x m vs d → Few s → blocked_at t s k (act x) ≡ false → Keeps (step_as t keep most s k f vs d)
  unfolding blocked_at
  does_keeps s k f vs x m d (calling q xs a e) h b =
      let l : leb 8 (open_frames s k) ≡ false = rw a at b in
      rw e (record { few = λ i. after_set (λ (n : ℕ). n ≤ 8) s.depth k i (open_frames s k + 1) 0 (omega (arith, leb-false 8 (open_frames s k) l)) (h.few i) })
  does_keeps s k f vs x m d (returning a e) h b =
      let g = frame_at s k (open_frames s k - 2) in
      rw e
      (settled_keeps (entry_of k f none) (returned s k) k (open_frames s k - 2) g.proc
      (along (λ n m ws. walk t keep k g.proc most n m ws) (memory s g) (choose (arc_to (node_at t g.proc g.node)) vs)) (returned_few s k h))
  does_keeps s k f vs x m d (going arc m' ws o u e) h b =
      rw e (settled_keeps (entry_of k f o) s k (open_frames s k - 1) f.proc (along (λ n m ws. walk t keep k f.proc most n m ws) m' (choose arc ws)) h)
  does_keeps s k f vs x m d (stopping c e) h b = rw e tt

  step_keeps : (s : State) (k : ℕ) (vs : List ℤ) → Few s → Keeps (step t keep most s k vs)
  unfolding step before step_of
  step_keeps s k vs h =
      let f = topmost s k in
      let x = stands_before t s k in
      go (is_lost s k) (blocked t s k) (λ b. does_keeps s k f vs x (memory s f) (exec t k x (memory s f) vs) (exec_view t k (memory s f) x vs) h b)
    where
      go : (l b : Bool) → (b ≡ false → Keeps (step_of t keep most s k vs)) → Keeps (unless (elim l [ true ↦ some task_lost | false ↦ pick b (some task_blocked) none ]) (step_of t keep most s k vs))
      go true b q = tt
      go false true q = tt
      go false false q = q refl

  module _ (all : List ℤ) where
    abbrev After : List ℕ → List ℕ → ℕ → State → List ℤ → List ℕ → Step → Type 0
    After log₀ ks n s rest log r = Sound log₀ (after_step t keep most all ks n s rest log r)

    run_sound : (ks : List ℕ) (log₀ : List ℕ) (n : ℕ) (s : State) (rest : List ℤ) (log : List ℕ) → Few s → 8 * n ≤ length log₀ → length log ≡ length log₀
        → Sound log₀ (run_from t keep most all ks n s rest log)
    unfolding turn
    run_sound [] log₀ n s rest log h g e = rw (run_end t keep most all n s rest log) (record { few = h; steps = g; size = e })
    run_sound (k ∷ ks) log₀ n s rest log h g e =
        rw (run_next t keep most all k ks n s rest log)
        (either_way (After log₀ ks n s rest log) (ltb k t.tasks)
        (λ l. either_way (After log₀ ks n s rest log) (ltb (length log) (8 * n + 8))
        (λ m. halted)
        (λ m. go (step t keep most s k rest) (step_keeps s k rest h) (λ s' r' l' q z. run_sound ks log₀ (suc n) s' r' l' q (omega (arith, ltb-false (length log) (8 * n + 8) m)) z)))
        (λ l. halted))
      where
        halted : {stop used : ℕ} → Sound log₀ (record { answer = record { steps = n; used = used; stop = stop; state = s }; log = log })
        halted = record { few = h; steps = g; size = e }

        go : (r : Step) → Keeps r → ((s' : State) (r' : List ℤ) (l' : List ℕ) → Few s' → length l' ≡ length log₀ → Sound log₀ (run_from t keep most all ks (suc n) s' r' l')) → After log₀ ks n s rest log r
        go (stopped c) q f = record { few = h; steps = g; size = e }
        go (stepped x ns s' rest') q f = f s' rest' (sets log (8 * n) (entry_bytes x)) q (length-sets log (8 * n) (entry_bytes x) ∙ e)

-- ---- the first state

first_few : (t : Table) → Few (first_state t)
unfolding first_state concat_from
first_few t = record { few = go }
  where
    one : (b : Bool) → pick b 1 0 ≤ 8
    one true = omega arith
    one false = omega arith

    go : (k : ℕ) → open_frames (first_state t) k ≤ 8
    go zero = one (ltb 0 t.tasks)
    go (suc zero) = one (ltb 1 t.tasks)
    go (suc (suc zero)) = one (ltb 2 t.tasks)
    go (suc (suc (suc zero))) = one (ltb 3 t.tasks)
    go (suc (suc (suc (suc k)))) = omega arith

abbrev BegunFew : Begun → Type 0
BegunFew spent = Unit {0}
BegunFew (begun s vs) = Few s

take_few : (t : Table) (n i : ℕ) (s : State) (vs : List ℤ) → Few s → BegunFew (take_inputs t n i s vs)
unfolding take_inputs
take_few t zero i s vs h = h
take_few t (suc n) i s vs h =
    either_way BegunFew (ltb (length vs) (first_inputs t i))
    (λ l. tt)
    (λ l. take_few t n (suc i) (with_inputs t i s (take (first_inputs t i) vs)) (drop (first_inputs t i) vs) (record { few = h.few }))

none_few : Few no_state
none_few = record { few = go }
  where
    go : (k : ℕ) → open_frames no_state k ≤ 8
    go zero = omega arith
    go (suc zero) = omega arith
    go (suc (suc zero)) = omega arith
    go (suc (suc (suc zero))) = omega arith
    go (suc (suc (suc (suc k)))) = omega arith

module _ (t : Table) (ks : List ℕ) (vs : List ℤ) (most : ℕ) (log : List ℕ) where
  begun_sound : (b : Begun) → BegunFew b → Sound log (run_begun t ks vs most log b)
  begun_sound spent h = record { few = first_few t; steps = omega arith; size = refl }
  begun_sound (begun s rest) h = rw (run_begun_lem t ks vs most log s rest) (run_sound t (kept_in t) most vs ks log 0 s rest log h (omega arith) refl)

  checked_sound : (n : ℕ) → Sound log (run_checked t ks vs most log n)
  unfolding begin
  checked_sound zero = begun_sound (begin t vs) (take_few t t.tasks 0 (first_state t) vs (first_few t))
  checked_sound (suc n) = record { few = none_few; steps = omega arith; size = refl }

  pub sound : Sound log (run t ks vs most log)
  unfolding run
  sound = checked_sound (fault t)
