-- The first states: the open run's, with its inputs taken, and the closed run's agree.
use Prim.Native.Nat.{ℕ, zero, suc, ◌+◌, ◌-◌, ◌<◌, ◌≤◌}
use native.Mathlib.Omega.{arith}
use Rattle.std.proofs.Common.{zero-add, ◌∙◌, length-set, length-take-le, get_or-append-add}
use Rattle.std.specs.Prelude.{◌≡◌, Bool, true, get_or, drop, eqb, ltb, ℤ, pos}
use Rattle.std.proofs.Math.Path.{refl, sym, ap, subst}
use Rattle.std.proofs.Math.Bool.{false}
use mathlib.Core.List.{List, [], ◌∷◌, ◌++◌}
use Rattle.std.proofs.Math.ListN.{length, take, replicate, length-append, length-replicate, get_or-replicate}
use borrow.Author.Tests.{eqb-true, eqb-false, ltb-true, ltb-false, lt-ltb, le-ltb}
use Rattle.table.specs.Cases.{cases}
use Rattle.table.specs.Mask.{pick}
use Rattle.table.specs.Table.{proc_at, task_at}
use Rattle.table.specs.declared.Table.{Table}
use Rattle.text.specs.Reader.{concat_from}
use Rattle.closing.specs.Dirty.{here, by_entry, from_entry, top}
use Rattle.closing.specs.Close.{closed_with, close_table}
use Rattle.machine.specs.declared.Frame.{Frame}
use Rattle.machine.specs.declared.Entries.{Entries}
use Rattle.machine.specs.declared.State.{State}
use Rattle.machine.specs.State.{no_vars, open_frames, is_lost, place, frame_at, entries_at, var_at, first_state, first_inputs, Begun, spent, begun, with_inputs, take_inputs, begin}
use Rattle.promise.specs.History.{last_setting}
use Rattle.promise.proofs.Sim.Wf.{Wf}
use Rattle.promise.proofs.Sim.Stores.{frame_same, frame_other, concat_at, concat_length}
use Rattle.promise.proofs.Sim.Locals.{Locals}
use Rattle.promise.proofs.Sim.Same.{last_of, SameFrame, SameTask, Same}
use Rattle.promise.proofs.Sim.Call.{first_kept}

abbrev pub WhenBegun : (State → List ℤ → Type 0) → Begun → Type 0
WhenBegun P spent = Unit {0}
WhenBegun P (begun s vs) = P s vs

when_begun : (P Q : State → List ℤ → Type 0) (b : Begun) → ((s : State) (vs : List ℤ) → P s vs → Q s vs) → WhenBegun P b → WhenBegun Q b
when_begun P Q spent f r = tt
when_begun P Q (begun s vs) f r = f s vs r

-- a first frame with the inputs xs
abbrev input_frame : Table → ℕ → List ℤ → Frame
input_frame u k xs = record { proc = (task_at u k).top; node = 0; vars = xs ++ replicate (16 - length xs) (pos 0) }

-- s₁ comes from s: the n tasks from i on have taken their inputs
record Taken (u : Table) (n i : ℕ) (s s₁ : State) (rest : List ℤ) : Type 0 where
  depth : s₁.depth ≡ s.depth
  lost : s₁.lost ≡ s.lost
  sems : s₁.sems ≡ s.sems
  queues : s₁.queues ≡ s.queues
  places : length s₁.frames ≡ 32
  new : (k : ℕ) → i ≤ k → k < i + n → (xs : List ℤ) × (length xs ≡ first_inputs u k) × (frame_at s₁ k 0 ≡ input_frame u k xs)
  old : (k : ℕ) → k < i → frame_at s₁ k 0 ≡ frame_at s k 0

module _ (u : Table) where
  taken_on : (n i : ℕ) (s s₁ : State) (xs rest : List ℤ) → suc i + n ≤ 4 → length s.frames ≡ 32 → length xs ≡ first_inputs u i → Taken u n (suc i) (with_inputs u i s xs) s₁ rest → Taken u (suc n) i s s₁ rest
  taken_on n i s s₁ xs rest l size e r = record {
    depth = r.depth;
    lost = r.lost;
    sems = r.sems;
    queues = r.queues;
    places = r.places;
    new = λ k a b. cases (eqb k i)
        (λ j. let z = eqb-true k i j in rw z (xs, e, r.old i (omega arith) ∙ frame_same s.frames i 0 (input_frame u i xs) _ size (omega arith) (omega arith)))
        (λ j. r.new k (omega (arith, eqb-false k i j)) (omega arith));
    old = λ k a. r.old k (omega arith) ∙ frame_other s.frames i 0 k 0 (input_frame u i xs) _ (omega arith) (omega arith) (λ z. absurd (omega arith));
  }

  taken : (n i : ℕ) (s : State) (vs : List ℤ) → i + n ≤ 4 → length s.frames ≡ 32 → WhenBegun (Taken u n i s) (take_inputs u n i s vs)
  unfolding take_inputs
  taken zero i s vs l size = record { depth = refl; lost = refl; sems = refl; queues = refl; places = size; new = λ k a b. absurd (omega arith); old = λ k a. refl }
  taken (suc n) i s vs l size = cases (ltb (length vs) (first_inputs u i))
      (λ e. rw (e, take_inputs) tt)
      (λ e.
      let m = first_inputs u i in
      let xs = take m vs in
      let s₂ = with_inputs u i s xs in
      rw (e, take_inputs) (when_begun (Taken u n (suc i) s₂) (Taken u (suc n) i s) (take_inputs u n (suc i) s₂ (drop m vs))
      (λ s₁ rest r. taken_on n i s s₁ xs rest (omega arith) size (length-take-le m vs (ltb-false (length vs) m e)) r)
      (taken n (suc i) s₂ (drop m vs) (omega arith) (length-set s.frames (place i 0) _ ∙ size))))

  -- a closed table's tasks take no input
  taken_with : ℕ → ℕ → State → List ℤ → ℕ → Begun
  taken_with n i s ts m = elim (ltb (length ts) m) [ true ↦ spent | false ↦ take_inputs u n (suc i) (with_inputs u i s (take m ts)) (drop m ts) ]

  taken_none : u.closed ≡ true → (n i : ℕ) (s : State) → (s₁ : State) × ((ts : List ℤ) → take_inputs u n i s ts ≡ begun s₁ ts)
  unfolding take_inputs taken_with
  taken_none c zero i s = (s, λ ts. refl)
  taken_none c (suc n) i s = let r = taken_none c n (suc i) (with_inputs u i s []) in
      (r.0, λ ts. ap (λ (b : Bool). taken_with n i s ts (pick b 0 (proc_at u (task_at u i).top).params)) c ∙ rw (le-ltb (length ts) 0 (omega arith), taken_with) (r.1 ts))

module _ (t : Table) (wf : Wf t) where
  -- the variables of a task's first frames
  first_locals : (k p : ℕ) (xs : List ℤ) → k < t.tasks → (task_at t k).top ≡ p → length xs ≡ (proc_at t p).params
      → Locals t p zero (last_of t p []) (xs ++ replicate (16 - length xs) (pos 0)) no_vars
  unfolding last_setting
  first_locals k p xs k< e size = record {
    open_size = length-append xs (replicate (16 - length xs) (pos 0)) ∙ rw length-replicate (omega (arith, wf.params p));
    closed_size = refl;
    agree = λ v l clean. cases (ltb v (length xs))
        (λ j. absurd (clean (by_entry (top k (omega (arith, ltb-true v (length xs) j)) k< e))))
        (λ j. past v (wf.vars p) l (ltb-false v (length xs) j));
    reach = λ v l d. from_entry l here d;
  }
    where
      past : (v : ℕ) → (proc_at t p).vars ≤ 16 → v < (proc_at t p).vars → length xs ≤ v → var_at (xs ++ replicate (16 - length xs) (pos 0)) v ≡ var_at no_vars v
      past v a b c = let z : v ≡ length xs + (v - length xs) = omega arith in
          rw z (get_or-append-add xs (replicate (16 - length xs) (pos 0)) (v - length xs) (pos 0) ∙ get_or-replicate (16 - length xs) (v - length xs) (pos 0) (pos 0) (omega arith))
          ∙ sym (get_or-replicate 16 v (pos 0) (pos 0) (omega arith))

  nil_of : (xs : List ℤ) → length xs ≡ 0 → xs ≡ []
  nil_of [] e = refl
  nil_of (x ∷ xs) e = absurd (omega arith)

  abbrev t' : Table
  t' = close_table t

  -- at first one frame is open, no task is lost
  first_depth : (k : ℕ) → k < t.tasks → open_frames (first_state t) k ≡ 1
  unfolding first_state
  first_depth k k< = concat_at (λ i. pick (ltb i t.tasks) 1 0) 4 0 k 0 (omega (arith, wf.tasks)) ∙ rw (zero-add, lt-ltb k t.tasks k<)

  first_lost : (k : ℕ) → k < t.tasks → is_lost (first_state t) k ≡ false
  unfolding first_state
  first_lost k k< = get_or-replicate 4 k false false (omega (arith, wf.tasks))

  first_depths : length (first_state t).depth ≡ 4
  unfolding first_state
  first_depths = concat_length (λ i. pick (ltb i t.tasks) 1 0) 4 0

  first_places : (u : Table) → length (first_state u).frames ≡ 32
  unfolding first_state concat_from
  first_places u = refl

  -- but for the frames the closed table's first state is the open one's
  closed_first : ((first_state t').depth ≡ (first_state t).depth) × ((first_state t').lost ≡ (first_state t).lost) × ((first_state t').sems ≡ (first_state t).sems) × ((first_state t').queues ≡ (first_state t).queues)
  unfolding first_state close_table closed_with
  closed_first = (refl, refl, refl, refl)

  no_inputs : (k : ℕ) → first_inputs t' k ≡ 0
  unfolding close_table closed_with
  no_inputs k = refl

  same_top : (k : ℕ) → (task_at t' k).top ≡ (task_at t k).top
  unfolding close_table closed_with
  same_top k = refl

  module _ (open_form : t.closed ≡ false) (s s' : State) (rest rest' : List ℤ) (a : Taken t t.tasks 0 (first_state t) s rest) (a' : Taken t' t.tasks 0 (first_state t') s' rest') where
    first_frame : (k : ℕ) → k < t.tasks → SameFrame t [] (frame_at s k 0) (frame_at s' k 0)
    first_frame k k< =
        let n = a.new k (omega arith) (omega arith) in
        let n' = a'.new k (omega arith) (omega arith) in
        let e' : frame_at s' k 0 ≡ record { proc = (task_at t k).top; node = 0; vars = no_vars } = n'.2 ∙ ap (input_frame t' k) (nil_of n'.0 (n'.1 ∙ no_inputs k)) ∙ ap (λ (p : ℕ). record { proc = p; node = 0; vars = no_vars }) (same_top k) in
        rw (n.2, e') (record { proc = refl; node = refl; locals = first_locals k (task_at t k).top n.0 k< refl (n.1 ∙ ap (λ (b : Bool). pick b 0 (proc_at t (task_at t k).top).params) open_form) })

    first_task : (k : ℕ) → k < t.tasks → SameTask t (λ k j. []) s s' k
    first_task k k< =
        let d : open_frames s k ≡ 1 = ap (λ (l : List ℕ). get_or l k 0) a.depth ∙ first_depth k k< in
        let d' : open_frames s' k ≡ 1 = ap (λ (l : List ℕ). get_or l k 0) (a'.depth ∙ closed_first.0) ∙ first_depth k k< in
        let n = a.new k (omega arith) (omega arith) in
        record {
          depth = d ∙ sym d';
          some_open = omega arith;
          few_open = omega arith;
          open_stands = ap (λ (l : List Bool). get_or l k false) a.lost ∙ first_lost k k<;
          closed_stands = ap (λ (l : List Bool). get_or l k false) (a'.lost ∙ closed_first.1) ∙ first_lost k k<;
          frame = λ j l. let z : j ≡ 0 = omega arith in rw z (first_frame k k<);
          keeps = rw d (rw n.2 (first_kept t (task_at t k).top (wf.tops k k<)));
          calls = λ j l. absurd (omega arith);
        }

    first_same : Same t (λ k j. []) s s'
    first_same = record {
      depths = ap length a.depth ∙ first_depths;
      depths' = ap length (a'.depth ∙ closed_first.0) ∙ first_depths;
      places = a.places;
      places' = a'.places;
      task = first_task;
      shared = record {
        sems = a.sems ∙ sym closed_first.2 ∙ sym a'.sems;
        sizes = ap length (a.queues ∙ sym closed_first.3 ∙ sym a'.queues);
        lens = λ q. ap (λ (l : List Entries). (entries_at l q).len) (a.queues ∙ sym closed_first.3 ∙ sym a'.queues);
        keeps = λ q c. ap (λ (l : List Entries). entries_at l q) (a.queues ∙ sym closed_first.3 ∙ sym a'.queues);
      };
    }

  -- an open run that begins, and the closed one, which uses no value
  pub record BothBegin (s : State) (rest : List ℤ) : Type 0 where
    pub state' : State
    pub closes : (ts : List ℤ) → begin t' ts ≡ begun state' ts
    pub states : Same t (λ k j. []) s state'

  pub begin_sim : t.closed ≡ false → (vs : List ℤ) → WhenBegun BothBegin (begin t vs)
  unfolding begin close_table closed_with
  begin_sim open_form vs =
      let r = taken_none t' refl t.tasks 0 (first_state t') in
      let a' = subst (WhenBegun (Taken t' t.tasks 0 (first_state t'))) (r.1 []) (taken t' t.tasks 0 (first_state t') [] (omega (arith, wf.tasks)) (first_places t')) in
      when_begun (Taken t t.tasks 0 (first_state t)) BothBegin (take_inputs t t.tasks 0 (first_state t) vs)
      (λ s rest a. record { state' = r.0; closes = r.1; states = first_same open_form s r.0 rest [] a a' })
      (taken t t.tasks 0 (first_state t) vs (omega (arith, wf.tasks)) (first_places t))
