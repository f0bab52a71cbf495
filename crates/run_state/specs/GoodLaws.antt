-- A good state stays good where a frame is replaced by a good one; the first state is good, and so it is with its inputs.
use Prim.Native.Nat.{ℕ, zero, suc, ◌+◌, ◌*◌, ◌<◌, ◌≤◌}
use Rattle.std.proofs.Common.{arith, sym, ◌∙◌, length-append, length-take, lt-ltb, le-ltb}
use Rattle.std.specs.Prelude.{◌≡◌, refl, Bool, true, false, List, [], ◌∷◌, map, length, get_or, set, take, drop, replicate, ltb, ℤ}
use Rattle.std.proofs.lemmas.List.{length-map, length-replicate, get_or-replicate}
use Rattle.table.specs.Mask.{pick}
use Rattle.table.specs.Table.{task_at, proc_at}
use Rattle.table.specs.declared.Sem.{Sem}
use Rattle.table.specs.declared.Task.{Task}
use Rattle.table.specs.declared.Table.{Table}
use Rattle.text.specs.Reader.{concat_from}
use Rattle.machine.specs.declared.Frame.{Frame}
use Rattle.machine.specs.declared.State.{State}
use Rattle.machine.specs.State.{Begun, no_vars, no_frame, no_entries, no_state, with_depth, with_frames, with_sems, first_state, first_inputs, with_inputs, spent, begun, take_inputs, begin}
use Rattle.run_code.specs.Ready.{Ready}
use Rattle.run_state.specs.Good.{frame_in, Shape, Good}
use Rattle.run_state.specs.ArrayLaws.{after_set, shape_depth, shape_frames}
use Rattle.run_state.specs.Begins.{top_at, started, input_row}

-- ---- a frame is replaced

pub record FrameGood (f : Frame) : Type 0 where
  pub proc : f.proc < 8
  pub node : f.node < 32
  pub vars : length f.vars ≡ 16

abbrev no_frame_at : Frame
no_frame_at = record { proc = 0; node = 0; vars = [] }

pub good_frame : {t : Table} {s : State} (j : ℕ) (f : Frame) → Good t s → FrameGood f → Good t (with_frames s (set s.frames j f))
good_frame {t} {s} j f g h = record {
  shape = shape_frames s g.shape j f h.vars;
  opened = g.opened;
  bounded = g.bounded;
  closed = g.closed;
  procs = λ i. after_set (λ (x : Frame). x.proc < 8) s.frames j i f no_frame_at h.proc (g.procs i);
  nodes = λ i. after_set (λ (x : Frame). x.node < 32) s.frames j i f no_frame_at h.node (g.nodes i);
}

-- ---- the first state

no_shape : Shape no_state
no_shape = record {
  depth = refl;
  lost = refl;
  frames = refl;
  sems = refl;
  queues = refl;
  vars = λ j l. rw (get_or-replicate 32 j no_frame no_frame_at l) refl;
  items = λ q l. rw (get_or-replicate 8 q no_entries (record { len = 0; items = [] }) l) refl;
}

pub started_shape : (task : List Task) (n : ℕ) → Shape (started task n)
unfolding started
started_shape task zero = no_shape
started_shape task (suc n) =
    let s = started task n in
    shape_frames (with_depth s (set s.depth n 1)) (shape_depth s (started_shape task n) n 1) (8 * n) (record { proc = top_at task n; node = 0; vars = no_vars }) refl

-- a frame of the tasks that have started has what a first frame has and what no frame has
started_frame : (P : Frame → Type 0) (task : List Task) (n : ℕ) → ((i : ℕ) → i < n → P (record { proc = top_at task i; node = 0; vars = no_vars }))
    → ((j : ℕ) → P (frame_in no_state.frames j)) → (j : ℕ) → P (frame_in (started task n).frames j)
unfolding started
started_frame P task zero h z j = z j
started_frame P task (suc n) h z j =
    after_set P (started task n).frames (8 * n) j (record { proc = top_at task n; node = 0; vars = no_vars }) no_frame_at (h n (omega arith)) (started_frame P task n (λ i l. h i (omega arith)) z j)

no_proc_lem : (n j : ℕ) → (frame_in (replicate n no_frame) j).proc ≡ 0
no_proc_lem zero j = refl
no_proc_lem (suc n) zero = refl
no_proc_lem (suc n) (suc j) = no_proc_lem n j

no_node : (n j : ℕ) → (frame_in (replicate n no_frame) j).node ≡ 0
no_node zero j = refl
no_node (suc n) zero = refl
no_node (suc n) (suc j) = no_node n j

pub started_node : (task : List Task) (n j : ℕ) → (frame_in (started task n).frames j).node ≡ 0
started_node task n j = started_frame (λ (f : Frame). f.node ≡ 0) task n (λ i l. refl) (no_node 32) j

abbrev first_of : List Task → ℕ → List ℕ → State
first_of task n l =
    with_sems (with_frames (with_depth no_state (concat_from (λ i. pick (ltb i n) 1 0 ∷ []) 4 0))
    (concat_from (λ i. pick (ltb i n) (record { proc = top_at task i; node = 0; vars = no_vars }) no_frame ∷ replicate 7 no_frame) 4 0)) l

started_is : (task : List Task) (n : ℕ) (l : List ℕ) → n ≤ 4 → with_sems (started task n) l ≡ first_of task n l
unfolding started concat_from
started_is task zero l h = refl
started_is task (suc zero) l h = refl
started_is task (suc (suc zero)) l h = refl
started_is task (suc (suc (suc zero))) l h = refl
started_is task (suc (suc (suc (suc zero)))) l h = refl
started_is task (suc (suc (suc (suc (suc n))))) l h = absurd (omega arith)

abbrev pub sem_counts : List Sem → List ℕ
sem_counts l = map (λ (x : Sem). x.count) l

pub first_is : (t : Table) → t.tasks ≤ 4 → first_state t ≡ with_sems (started t.task t.tasks) (sem_counts t.sem)
unfolding first_state
first_is t h = sym (started_is t.task t.tasks (sem_counts t.sem) h)

first_depth : (t : Table) → t.tasks ≤ 4 → (i : ℕ) → get_or (first_state t).depth i 0 ≡ pick (ltb i t.tasks) 1 0
unfolding first_state concat_from
first_depth t h zero = refl
first_depth t h (suc zero) = refl
first_depth t h (suc (suc zero)) = refl
first_depth t h (suc (suc (suc zero))) = refl
first_depth t h (suc (suc (suc (suc i)))) = rw (le-ltb (suc (suc (suc (suc i)))) t.tasks (omega arith)) refl

module _ (t : Table) (keep : List ℕ) (r : Ready t keep) where
  pub first_shape : Shape (first_state t)
  first_shape = rw (first_is t r.tasks) (sems (started_shape t.task t.tasks))
    where
      sems : {s : State} → Shape s → Shape (with_sems s (sem_counts t.sem))
      sems h = record {
        sems = length-map t.sem (λ (x : Sem). x.count) ∙ r.sems;
        depth = h.depth;
        lost = h.lost;
        frames = h.frames;
        queues = h.queues;
        vars = h.vars;
        items = h.items;
      }

  top_low : (i : ℕ) → i < t.tasks → top_at t.task i < 8
  top_low i l = omega (arith, r.tops i l, r.procs)

  pub first_good : Good t (first_state t)
  first_good = record {
    shape = first_shape;
    opened = λ i l. rw (first_depth t r.tasks i, lt-ltb i t.tasks l) (omega arith);
    bounded = λ i. rw (first_depth t r.tasks i) (low (ltb i t.tasks));
    closed = λ i l. rw (first_depth t r.tasks i, le-ltb i t.tasks l) refl;
    procs = λ j. rw (first_is t r.tasks) (started_frame (λ (f : Frame). f.proc < 8) t.task t.tasks top_low (λ i. omega (arith, no_proc_lem 32 i)) j);
    nodes = λ j. rw (first_is t r.tasks) (started_frame (λ (f : Frame). f.node < 32) t.task t.tasks (λ i l. omega arith) (λ i. omega (arith, no_node 32 i)) j);
  }
    where
      low : (b : Bool) → pick b 1 0 ≤ 8
      low true = omega arith
      low false = omega arith

  -- ---- its inputs

  pub inputs_few : (i : ℕ) → first_inputs t i ≤ 4
  inputs_few i = go t.closed
    where
      go : (b : Bool) → pick b 0 (proc_at t (task_at t i).top).params ≤ 4
      go true = omega arith
      go false = r.params (task_at t i).top

  pub inputs_long : (i : ℕ) (vs : List ℤ) → length (input_row (take (first_inputs t i) vs)) ≡ 16
  inputs_long i vs = simp (length-append, length-replicate, length-take) (omega (arith, inputs_few i))

  inputs_good : (i : ℕ) (s : State) (vs : List ℤ) → i < t.tasks → Good t s → Good t (with_inputs t i s (take (first_inputs t i) vs))
  inputs_good i s vs more g =
      good_frame (8 * i + 0) (record { proc = (task_at t i).top; node = 0; vars = input_row (take (first_inputs t i) vs) }) g
      (record { proc = top_low i more; node = omega arith; vars = inputs_long i vs })

  abbrev GoodBegun : Begun → Type 0
  GoodBegun spent = Unit {0}
  GoodBegun (begun s rest) = Good t s

  takes_good : (n i : ℕ) (s : State) (vs : List ℤ) → i + n ≤ t.tasks → Good t s → GoodBegun (take_inputs t n i s vs)
  unfolding take_inputs
  takes_good zero i s vs h g = g
  takes_good (suc n) i s vs h g =
      go (ltb (length vs) (first_inputs t i))
      (takes_good n (suc i) (with_inputs t i s (take (first_inputs t i) vs)) (drop (first_inputs t i) vs) (omega arith) (inputs_good i s vs (omega arith) g))
    where
      after : Begun
      after = take_inputs t n (suc i) (with_inputs t i s (take (first_inputs t i) vs)) (drop (first_inputs t i) vs)

      go : (b : Bool) → GoodBegun after → GoodBegun (elim b [ true ↦ spent | false ↦ after ])
      go true k = tt
      go false k = k

  pub begun_good : (vs : List ℤ) (s : State) (rest : List ℤ) → begin t vs ≡ begun s rest → Good t s
  unfolding begin
  begun_good vs s rest e = rw e at (takes_good t.tasks 0 (first_state t) vs (omega arith) first_good)
