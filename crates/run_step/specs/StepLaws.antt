-- What a step is, by how its node goes on, and what each arm of the code leaves.
use Rattle.std.specs.Prelude.{ℕ, ◌/◌, ◌%◌, ◌≡◌, refl, true, List, ◌∷◌, length, set, drop, ℤ}
use Rattle.std.proofs.Common.{sym, ◌∙◌, subst, length-set}
use Rattle.std.proofs.Math.Path.{ap}
use Rattle.std.specs.Prelude.{Result, Ok, Err}
use Rattle.std.proofs.Math.Option.{Option, none, some}
use Rattle.table.specs.declared.Table.{Table}
use Rattle.machine.specs.declared.Frame.{Frame}
use Rattle.machine.specs.declared.Entries.{Entries}
use Rattle.machine.specs.declared.State.{State}
use Rattle.machine.specs.State.{with_lost, with_frames, with_sems, with_queues, place, stands_before}
use Rattle.machine.specs.Step.{Memory, Does, goes, exec, choose, kept_in, Walk, halts, arrives, along, walk, Entry, Step, settled, memory, entry_of, step_as, step_of}
use Rattle.machine.specs.Run.{word, flagged}
use Rattle.tosses.specs.declared.Stop.{Stop}
use Rattle.run_state.specs.Good.{frame_in, Shape}
use Rattle.run_state.specs.Arrays.{marks_of, cells_of}
use Rattle.run_state.specs.ArrayLaws.{shape_lost, shape_frames}
use Rattle.run_step.specs.declared.Effect.{Effect}
use Rattle.run_step.specs.declared.Done.{Done}
use Rattle.run_step.specs.Results.{ok_err}
use Rattle.run_step.specs.Steps.{Stands, Goes, way_of, gone_of, went_to, Did, done_of, shown_of, shown_done, gone_done, flag_of, bits_of, after}
use Rattle.run_step.specs.Dropped.{mem, sharing, Lands, walk_shared}
use Rattle.run_step.specs.Standing.{level_is, frame_is, frame_long}

-- the bytes of a value in the log, from its flag on
pub entry_bytes_lem : (o : Option ℤ) → ◌≡◌ {A = List ℕ} (flag_of (shown_of o) ∷ word (bits_of (shown_of o))) (flagged o)
entry_bytes_lem none = refl
entry_bytes_lem (some x) = refl

-- ---- a walk's end

abbrev pub shared_in : State → List ℕ → List Entries → State
shared_in s a b = with_queues (with_sems s a) b

-- the step that a walk of the frame at place f ends, with semaphores a and queues b
abbrev pub ends_in : State → ℕ → Entry → List ℕ → List Entries → Walk → Step
ends_in s f e a b w = settled e s (f / 8) (f % 8) (frame_in s.frames f).proc (sharing a b w)

-- its answer and its state
pub record Ends (vs : List ℤ) (s : State) (z : Step) (d : Result Done Stop) (s₂ : State) : Type 0 where
  pub done : done_of vs z ≡ d
  pub state : after s z ≡ s₂

module _ (vs : List ℤ) (s : State) (f : ℕ) (e : Entry) (a : List ℕ) (b : List Entries) where
  end_stopped : (w : Walk) (c : Stop) → gone_of vs w ≡ Err c → Ends vs s (ends_in s f e a b w) (Err c) (went_to s f w)
  end_stopped (halts k) c h = record { done = ap gone_done h; state = refl }
  end_stopped (arrives o m ws ns) c h = absurd (ok_err h)

  end_gone : (w : Walk) (u : ℕ) → gone_of vs w ≡ Ok u → Ends vs s (ends_in s f e a b w) (shown_done e.value (Ok u)) (shared_in (went_to s f w) a b)
  end_gone (halts k) u h = absurd (ok_err (sym h))
  end_gone (arrives none m ws ns) u h = record { done = ap (shown_done e.value) h; state = refl }
  end_gone (arrives (some n) m ws ns) u h = record { done = ap (shown_done e.value) h; state = refl }

module _ (s : State) (f n : ℕ) where
  -- semaphores and queues are as before it
  pub went_sems : (w : Walk) → Lands n s.sems s.queues w → (went_to s f w).sems ≡ s.sems
  went_sems (halts c) h = refl
  went_sems (arrives none m ws ns) h = h.1.0
  went_sems (arrives (some j) m ws ns) h = h.1.0

  pub went_queues : (w : Walk) → Lands n s.sems s.queues w → (went_to s f w).queues ≡ s.queues
  went_queues (halts c) h = refl
  went_queues (arrives none m ws ns) h = h.1.1
  went_queues (arrives (some j) m ws ns) h = h.1.1

  pub went_same : (w : Walk) → Lands n s.sems s.queues w → shared_in (went_to s f w) s.sems s.queues ≡ went_to s f w
  went_same w h = sym (λ i. shared_in (went_to s f w) (went_sems w h i) (went_queues w h i))

-- the frame put, semaphores and queues as before
pub went_shape : (s : State) (f : ℕ) (w : Walk) → Shape s → Lands 16 s.sems s.queues w → Shape (went_to s f w)
went_shape s f (halts c) h l = h
went_shape s f (arrives (some n) m ws ns) h l =
    let fr : Frame = record { proc = (frame_in s.frames f).proc; node = n; vars = m.vars } in
    subst (λ (x : State). Shape x) (λ i. shared_in (with_frames s (set s.frames (place (f / 8) (f % 8)) fr)) (sym l.1.0 i) (sym l.1.1 i))
    (shape_frames s h (place (f / 8) (f % 8)) fr l.0)
went_shape s f (arrives none m ws ns) h l =
    let fr : Frame = record { proc = (frame_in s.frames f).proc; node = 0; vars = m.vars } in
    let s₂ = with_frames s (set s.frames (place (f / 8) (f % 8)) fr) in
    subst (λ (x : State). Shape x) (λ i. shared_in (with_lost s₂ (set s.lost (f / 8) true)) (sym l.1.0 i) (sym l.1.1 i))
    (shape_lost s₂ (shape_frames s h (place (f / 8) (f % 8)) fr l.0) (f / 8) true)

pub way_lands : (t : Table) (most : ℕ) (s : State) (vs : List ℤ) (g : ℕ) (o : Effect) → length (frame_in s.frames g).vars ≡ 16 → Lands 16 s.sems s.queues (way_of t most s vs g o)
way_lands t most s vs g o h =
    let l = set (frame_in s.frames g).vars o.var o.value in
    let e : length l ≡ 16 = length-set (frame_in s.frames g).vars o.var o.value ∙ h in
    subst (λ (n : ℕ). Lands n s.sems s.queues (way_of t most s vs g o)) e
    ((walk_shared t (g / 8) (frame_in s.frames g).proc most l (choose o.arc (drop o.used vs))).lands s.sems s.queues)

-- ---- a node that goes on: with the memory that it leaves, and the value that the log shows

pub record Onto (t : Table) (s : State) (vs : List ℤ) (used f : ℕ) (o : Effect) (m : Memory) (v : Option ℤ) : Type 0 where
  pub does : exec t (f / 8) (stands_before t s (f / 8)) (memory s (frame_in s.frames f)) (drop used vs) ≡ goes o.arc m (drop o.used vs) v
  pub vars : m.vars ≡ set (frame_in s.frames f).vars o.var o.value

-- what a step leaves, as an arm's answer
pub did_by : (vs : List ℤ) (s : State) (z : Step) (d : Result Done Stop) (s₂ : State) (y : Result Done Stop) (marks : List ℕ) (cells : List (List ℤ))
    → Ends vs s z d s₂ → y ≡ d → marks ≡ marks_of s₂ → cells ≡ cells_of s₂ → Did vs s z y marks cells
did_by vs s z d s₂ y marks cells h a b c = record { answer = a ∙ sym h.done; marks_are = b ∙ ap marks_of (sym h.state); cells_are = c ∙ ap cells_of (sym h.state) }

module _ {t : Table} {s : State} {keep : List ℕ} {code words : List (List ℕ)} {marks : List ℕ} {cells : List (List ℤ)} {vs : List ℤ} {used f a : ℕ}
    (z : Stands t s keep code words marks cells vs used f a) (most : ℕ) where
  -- the step, as what its node does says
  pub step_does : (d : Does) → exec t (f / 8) (stands_before t s (f / 8)) (memory s (frame_in s.frames f)) (drop used vs) ≡ d
      → step_of t (kept_in t) most s (f / 8) (drop used vs) ≡ step_as t (kept_in t) most s (f / 8) (frame_in s.frames f) (drop used vs) d
  unfolding step_of
  step_does d e =
      ap (λ (g : Frame). step_as t (kept_in t) most s (f / 8) g (drop used vs) (exec t (f / 8) (stands_before t s (f / 8)) (memory s g) (drop used vs))) (sym (frame_is z)) ∙
      ap (step_as t (kept_in t) most s (f / 8) (frame_in s.frames f) (drop used vs)) e

  module _ (o : Effect) (m : Memory) (v : Option ℤ) (h : Onto t s vs used f o m v) where
    step_onto : step_of t (kept_in t) most s (f / 8) (drop used vs) ≡ ends_in s f (entry_of (f / 8) (frame_in s.frames f) v) m.sems m.queues (way_of t most s vs f o)
    step_onto =
        let fr = frame_in s.frames f in
        let c = choose o.arc (drop o.used vs) in
        let go : ℕ → Memory → List ℤ → Walk = λ n m ws. walk t (kept_in t) (f / 8) fr.proc most n m ws in
        step_does (goes o.arc m (drop o.used vs) v) h.does ∙
        ap (λ (j : ℕ). settled (entry_of (f / 8) fr v) s (f / 8) j fr.proc (along go m c)) (sym (level_is z)) ∙
        ap (λ (l : List ℤ). settled (entry_of (f / 8) fr v) s (f / 8) (f % 8) fr.proc (along go (mem l m.sems m.queues) c)) h.vars ∙
        ap (λ (w : Walk). settled (entry_of (f / 8) fr v) s (f / 8) (f % 8) fr.proc w)
        ((walk_shared t (f / 8) fr.proc most (set fr.vars o.var o.value) c).same s.sems m.sems s.queues m.queues)

    module _ {r : Result ℕ Stop} {marks₁ : List ℕ} {cells₁ : List (List ℤ)} (g : Goes vs s f (way_of t most s vs f o) r marks₁ cells₁) where
      -- the arc stops the step
      pub did_stop : (c : Stop) → r ≡ Err c → Did vs s (step_of t (kept_in t) most s (f / 8) (drop used vs)) (Err c) marks₁ cells₁
      did_stop c n =
          let w = way_of t most s vs f o in
          rw step_onto
          (did_by vs s (ends_in s f (entry_of (f / 8) (frame_in s.frames f) v) m.sems m.queues w) (Err c) (went_to s f w) (Err c) marks₁ cells₁
          (end_stopped vs s f (entry_of (f / 8) (frame_in s.frames f) v) m.sems m.queues w c (sym g.answer ∙ n))
          refl g.marks_are g.cells_are)

      -- the arc is taken, and semaphores and queues are stored
      pub did_go : (u : ℕ) → r ≡ Ok u → (y : Result Done Stop) (marks₂ : List ℕ) (cells₂ : List (List ℤ)) → y ≡ shown_done v (Ok u)
          → marks₂ ≡ marks_of (shared_in (went_to s f (way_of t most s vs f o)) m.sems m.queues)
          → cells₂ ≡ cells_of (shared_in (went_to s f (way_of t most s vs f o)) m.sems m.queues)
          → Did vs s (step_of t (kept_in t) most s (f / 8) (drop used vs)) y marks₂ cells₂
      did_go u n y marks₂ cells₂ d p q =
          let w = way_of t most s vs f o in
          rw step_onto
          (did_by vs s (ends_in s f (entry_of (f / 8) (frame_in s.frames f) v) m.sems m.queues w) (shown_done v (Ok u)) (shared_in (went_to s f w) m.sems m.queues) y marks₂ cells₂
          (end_gone vs s f (entry_of (f / 8) (frame_in s.frames f) v) m.sems m.queues w u (sym g.answer ∙ n))
          d p q)

      -- a node that leaves semaphores and queues alone
      pub did_shown : m.sems ≡ s.sems → m.queues ≡ s.queues → (u : ℕ) → r ≡ Ok u → (y : Result Done Stop) → y ≡ shown_done v (Ok u)
          → Did vs s (step_of t (kept_in t) most s (f / 8) (drop used vs)) y marks₁ cells₁
      did_shown a b u n y d =
          let w = way_of t most s vs f o in
          let e : shared_in (went_to s f w) m.sems m.queues ≡ went_to s f w =
          (λ i. shared_in (went_to s f w) (a i) (b i)) ∙ went_same s f 16 w (way_lands t most s vs f o (frame_long z)) in
          did_go u n y marks₁ cells₁ d (g.marks_are ∙ ap marks_of (sym e)) (g.cells_are ∙ ap cells_of (sym e))

  -- and shows no value
  pub did_plain : (o : Effect) (m : Memory) → Onto t s vs used f o m none → m.sems ≡ s.sems → m.queues ≡ s.queues
      → (r : Result ℕ Stop) (marks₁ : List ℕ) (cells₁ : List (List ℤ)) → Goes vs s f (way_of t most s vs f o) r marks₁ cells₁
      → Did vs s (step_of t (kept_in t) most s (f / 8) (drop used vs)) (gone_done r) marks₁ cells₁
  did_plain o m h a b (Ok u) marks₁ cells₁ g = did_shown o m none h g a b u refl (gone_done (Ok u)) refl
  did_plain o m h a b (Err c) marks₁ cells₁ g = did_stop o m none h g c refl
