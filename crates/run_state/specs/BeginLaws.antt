-- A run begins on the arrays as it does on the state; arrays hold one state.
use Prim.Native.Nat.{ℕ, zero, suc, ◌+◌, ◌-◌, ◌*◌, ◌<◌, ◌≤◌}
use native.Mathlib.Omega.{arith}
use Rattle.std.proofs.Math.Numerals.{add-one}
use Rattle.std.specs.Prelude.{◌≡◌, Bool, true, false, not, length, get_or, set, take, replicate, eqb, ltb, ℤ, pos, Some, None}
use Rattle.std.proofs.Math.Path.{refl, sym, ap}
use Rattle.std.proofs.Common.{◌∙◌, length-set, length-take-le, get_or-take, take_at, ext_get_or}
use mathlib.Core.List.{List, [], ◌∷◌}
use Rattle.std.proofs.Math.ListN.{drop, length-drop, get_or-map}
use Rattle.std.proofs.lemmas.List.{length-map, set-get_or}
use Rattle.std.proofs.Math.Seq.{drop-drop}
use borrow.Author.Tests.{lt-ltb, le-ltb, ltb-false}
use Rattle.table.specs.Table.{task_at, no_sem}
use Rattle.table.specs.declared.Sem.{Sem}
use Rattle.table.specs.declared.Task.{Task}
use Rattle.table.specs.declared.Table.{Table}
use Rattle.text.specs.Reader.{concat_from}
use Rattle.machine.specs.declared.Frame.{Frame}
use Rattle.machine.specs.declared.Entries.{Entries}
use Rattle.machine.specs.declared.State.{State}
use Rattle.machine.specs.State.{Begun as Beginning, place, no_vars, is_lost, entries_at, with_depth, with_sems, first_state, first_inputs, with_inputs, spent, begun, take_inputs, begin}
use Rattle.run_code.specs.Ready.{Ready}
use Rattle.run_state.specs.Good.{frame_in, Shape}
use Rattle.run_state.specs.Arrays.{lost_mark, marks_of, cells_of}
use Rattle.run_state.specs.ArrayLaws.{depth_at, lost_at, sem_at, len_at, proc_at_lem, node_at_lem, vars_at, items_at, cells_wide}
use Rattle.run_state.specs.ArrayLaws.{depth_set, sem_set, frame_marks, proc_marks, frame_cells, cells_sems, shape_depth, shape_frames}
use Rattle.run_state.specs.Begins.{top_at, started, counted, first_marks, no_cells, takes_at, needed_in, input_row, input_cells, Takes, Tops, Begins, Frames, Queues, Stated}
use Rattle.run_state.specs.GoodLaws.{sem_counts, started_shape, started_node, first_is, first_shape, inputs_few, inputs_long}

-- ---- a list made place by place

abbrev pub tab : {A : Type 0} → ℕ → (ℕ → A) → List A
tab {A} zero f = []
tab {A} (suc n) f = f 0 ∷ tab n (λ i. f (suc i))

pub tab_is : {A : Type 0} (d : A) (l : List A) (n : ℕ) (f : ℕ → A) → length l ≡ n → ((i : ℕ) → i < n → f i ≡ get_or l i d) → tab n f ≡ l
tab_is {A} d [] zero f e h = refl
tab_is {A} d [] (suc n) f e h = absurd (omega arith)
tab_is {A} d (x ∷ l) zero f e h = absurd (omega arith)
tab_is {A} d (x ∷ l) (suc n) f e h =
    let a : f 0 ≡ x = h 0 (omega arith) in
    let b : tab n (λ i. f (suc i)) ≡ l = tab_is d l n (λ i. f (suc i)) (omega arith) (λ i k. h (suc i) (omega arith)) in
    λ ι. a ι ∷ b ι

pub tab_take : {A : Type 0} (d : A) (l : List A) (n : ℕ) → n ≤ length l → tab n (λ i. get_or l i d) ≡ take n l
tab_take {A} d l n h = tab_is d (take n l) n (λ i. get_or l i d) (length-take-le n l h) (λ i k. sym (get_or-take n l i d k))

-- ---- the marks of the first state

-- one more task starts
pub start_one : (task : List Task) (i : ℕ) (l : List ℕ) → i < 4 → l ≡ marks_of (started task i) → set (set l i 1) (32 + 8 * i) (top_at task i) ≡ marks_of (started task (i + 1))
unfolding started
start_one task i l low e =
    let s = started task i in
    let h = started_shape task i in
    let f : Frame = record { proc = top_at task i; node = 0; vars = no_vars } in
    ap (λ (l : List ℕ). set (set l i 1) (32 + 8 * i) (top_at task i)) e
    ∙ ap (λ (l : List ℕ). set l (32 + 8 * i) (top_at task i)) (depth_set s h i 1 low)
    ∙ proc_marks (with_depth s (set s.depth i 1)) (shape_depth s h i 1) (8 * i) f (omega arith) (sym (started_node task i (8 * i)))
    ∙ ap (λ (n : ℕ). marks_of (started task n)) (sym (add-one i))

pub start_none : (task : List Task) → replicate 96 0 ≡ marks_of (started task 0)
unfolding started marks_of
start_none task = refl

sems_shape : (s : State) (l : List ℕ) → Shape s → length l ≡ 8 → Shape (with_sems s l)
sems_shape s l h e = record { sems = e; depth = h.depth; lost = h.lost; frames = h.frames; queues = h.queues; vars = h.vars; items = h.items }

counted_long : (sem : List Sem) (n : ℕ) → length (counted sem n) ≡ 8
unfolding counted
counted_long sem zero = refl
counted_long sem (suc n) = length-set (counted sem n) n (get_or sem n no_sem).count ∙ counted_long sem n

-- one more semaphore has its count
pub count_one : (task : List Task) (n : ℕ) (sem : List Sem) (i : ℕ) (l : List ℕ) → i < 8 → l ≡ marks_of (with_sems (started task n) (counted sem i))
    → set l (8 + i) (get_or sem i no_sem).count ≡ marks_of (with_sems (started task n) (counted sem (i + 1)))
unfolding counted
count_one task n sem i l low e =
    let s = started task n in
    ap (λ (l : List ℕ). set l (8 + i) (get_or sem i no_sem).count) e
    ∙ sem_set (with_sems s (counted sem i)) (sems_shape s (counted sem i) (started_shape task n) (counted_long sem i)) i (get_or sem i no_sem).count low
    ∙ ap (λ (n : ℕ). marks_of (with_sems s (counted sem n))) (sym (add-one i))

started_sems : (task : List Task) (n : ℕ) → (started task n).sems ≡ replicate 8 0
unfolding started
started_sems task zero = refl
started_sems task (suc n) = started_sems task n

pub count_none : (task : List Task) (n : ℕ) (sem : List Sem) (l : List ℕ) → l ≡ marks_of (started task n) → l ≡ marks_of (with_sems (started task n) (counted sem 0))
unfolding counted
count_none task n sem l e = e ∙ ap (λ (l : List ℕ). marks_of (with_sems (started task n) l)) (started_sems task n)

counted_all : (sem : List Sem) → length sem ≡ 8 → counted sem 8 ≡ sem_counts sem
unfolding counted
counted_all sem e =
    tab_is 0 (sem_counts sem) 8 (λ i. (get_or sem i no_sem).count) (length-map sem (λ (x : Sem). x.count) ∙ e) (λ i k. sym (get_or-map (λ (x : Sem). x.count) sem i no_sem))

pub first_marks_lem : (t : Table) (keep : List ℕ) → Ready t keep → first_marks t.tasks t.task t.sem ≡ marks_of (first_state t)
first_marks_lem t keep r =
    ap (λ (l : List ℕ). marks_of (with_sems (started t.task t.tasks) l)) (counted_all t.sem r.sems) ∙ ap marks_of (sym (first_is t r.tasks))

-- ---- its cells

started_cells : (task : List Task) (n : ℕ) → n ≤ 4 → cells_of (started task n) ≡ no_cells
unfolding started cells_of
started_cells task zero h = refl
started_cells task (suc zero) h = refl
started_cells task (suc (suc zero)) h = refl
started_cells task (suc (suc (suc zero))) h = refl
started_cells task (suc (suc (suc (suc zero)))) h = refl
started_cells task (suc (suc (suc (suc (suc n))))) h = absurd (omega arith)

pub first_cells : (t : Table) → t.tasks ≤ 4 → cells_of (first_state t) ≡ no_cells
first_cells t h = ap cells_of (first_is t h) ∙ cells_sems (started t.task t.tasks) (sem_counts t.sem) ∙ started_cells t.task t.tasks h

-- the first frame of each task
first_top : (t : Table) → t.tasks ≤ 4 → (i : ℕ) → i < t.tasks → (frame_in (first_state t).frames (place i 0)).proc ≡ (task_at t i).top
unfolding first_state concat_from
first_top t h zero l = rw (lt-ltb 0 t.tasks l) refl
first_top t h (suc zero) l = rw (lt-ltb 1 t.tasks l) refl
first_top t h (suc (suc zero)) l = rw (lt-ltb 2 t.tasks l) refl
first_top t h (suc (suc (suc zero))) l = rw (lt-ltb 3 t.tasks l) refl
first_top t h (suc (suc (suc (suc i)))) l = absurd (omega arith)

first_node : (t : Table) → t.tasks ≤ 4 → (j : ℕ) → (frame_in (first_state t).frames j).node ≡ 0
first_node t h j = rw (first_is t h) (started_node t.task t.tasks j)

-- ---- inputs

module _ {t : Table} {tasks : ℕ} {task : List Task} {takes : List ℕ} (h : Takes t tasks task takes) where
  wants : (i : ℕ) → i < t.tasks → takes_at task takes i ≡ first_inputs t i
  wants i l = ap (λ (l : List Task). get_or takes (top_at l i) 0) h.task_are ∙ h.takes_are (task_at t i).top (h.ready.tops i l)

  -- the values are spent if more are needed
  spends : (n i : ℕ) (s : State) (vs : List ℤ) → i + n ≤ t.tasks → length vs < needed_in task takes n i → take_inputs t n i s vs ≡ spent
  unfolding take_inputs needed_in
  spends zero i s vs l k = absurd (omega arith)
  spends (suc n) i s vs l k =
      go (ltb (length vs) (first_inputs t i))
      (λ e. spends n (suc i) (with_inputs t i s (take (first_inputs t i) vs)) (drop (first_inputs t i) vs) (omega arith)
      (omega (arith, length-drop (first_inputs t i) vs, wants i (omega arith), ltb-false (length vs) (first_inputs t i) e)))
    where
      after : Beginning
      after = take_inputs t n (suc i) (with_inputs t i s (take (first_inputs t i) vs)) (drop (first_inputs t i) vs)

      go : (b : Bool) → (b ≡ false → after ≡ spent) → ◌≡◌ {A = Beginning} (elim b [ true ↦ spent | false ↦ after ]) spent
      go true f = refl
      go false f = f refl

  -- n tasks from i on take their inputs
  record Taken (n i : ℕ) (s : State) (vs : List ℤ) : Type 0 where
    state : State
    same : take_inputs t n i s vs ≡ begun state (drop (needed_in task takes n i) vs)
    cells : cells_of state ≡ input_cells task takes n i vs (cells_of s)
    marks : marks_of state ≡ marks_of (first_state t)

  -- one task takes its inputs
  module _ (i : ℕ) (s : State) (vs : List ℤ) (l : i < t.tasks) (sh : Shape s) (e : marks_of s ≡ marks_of (first_state t)) where
    abbrev input_frame : Frame
    input_frame = record { proc = (task_at t i).top; node = 0; vars = input_row (take (first_inputs t i) vs) }

    low : place i 0 < 32
    low = omega (arith, h.ready.tasks)

    one_shape : Shape (with_inputs t i s (take (first_inputs t i) vs))
    one_shape = shape_frames s sh (place i 0) input_frame (inputs_long t h.keep h.ready i vs)

    one_cells : cells_of (with_inputs t i s (take (first_inputs t i) vs)) ≡ set (cells_of s) (8 * i) (input_row (take (first_inputs t i) vs))
    one_cells = sym (frame_cells s sh (place i 0) input_frame low) ∙ ap (λ (j : ℕ). set (cells_of s) j (input_row (take (first_inputs t i) vs))) (omega arith)

    stay : (j x : ℕ) → get_or (marks_of (first_state t)) j 0 ≡ x → set (marks_of s) j x ≡ marks_of s
    stay j x k = ap (λ (x : ℕ). set (marks_of s) j x) (sym (ap (λ (l : List ℕ). get_or l j 0) e ∙ k)) ∙ set-get_or (marks_of s) j 0

    one_marks : marks_of (with_inputs t i s (take (first_inputs t i) vs)) ≡ marks_of (first_state t)
    one_marks =
        let f = first_shape t h.keep h.ready in
        sym (frame_marks s sh (place i 0) input_frame low)
        ∙ ap (λ (l : List ℕ). set l (64 + place i 0) 0) (stay (32 + place i 0) (task_at t i).top (proc_at_lem (first_state t) f (place i 0) low ∙ first_top t h.ready.tasks i l))
        ∙ stay (64 + place i 0) 0 (node_at_lem (first_state t) f (place i 0) low ∙ first_node t h.ready.tasks (place i 0))
        ∙ e

  taken : (n i : ℕ) (s : State) (vs : List ℤ) → i + n ≤ t.tasks → needed_in task takes n i ≤ length vs → Shape s → marks_of s ≡ marks_of (first_state t) → Taken n i s vs
  unfolding take_inputs needed_in input_cells
  taken zero i s vs l k sh e = record { state = s; same = refl; cells = refl; marks = e }
  taken (suc n) i s vs l k sh e =
      let m = first_inputs t i in
      let w : takes_at task takes i ≡ m = wants i (omega arith) in
      let z = length-drop m vs in
      let more = drop-drop (needed_in task takes n (suc i)) m vs ∙ ap (λ (j : ℕ). drop (j + needed_in task takes n (suc i)) vs) (sym w) in
      let r = taken n (suc i) (with_inputs t i s (take m vs)) (drop m vs) (omega arith) (omega (arith, w)) (one_shape i s vs (omega arith) sh e) (one_marks i s vs (omega arith) sh e) in
      record {
        state = r.state;
        same = rw (take_inputs, le-ltb (length vs) m (omega (arith, w))) (r.same ∙ ap (begun r.state) more);
        cells =
            r.cells
            ∙ ap (λ (c : List (List ℤ)). input_cells task takes n (suc i) (drop m vs) c) (one_cells i s vs (omega arith) sh e)
            ∙ ap (λ (j : ℕ). input_cells task takes n (suc i) (drop j vs) (set (cells_of s) (8 * i) (input_row (take j vs)))) (sym w);
        marks = r.marks;
      }

  -- ---- how a run begins

  pub begins_spent : (vs : List ℤ) (cells : List (List ℤ)) → length vs < needed_in task takes tasks 0 → cells ≡ no_cells
      → Begins t vs (begin t vs) None cells
  unfolding begin
  begins_spent vs cells l c =
      let e : begin t vs ≡ spent = spends t.tasks 0 (first_state t) vs (omega arith) (rw (← h.tasks_are) l) in
      rw e (c ∙ sym (first_cells t h.ready.tasks))

  pub begins_with : (vs : List ℤ) (used : ℕ) (cells : List (List ℤ)) → used ≡ needed_in task takes tasks 0 → used ≤ length vs
      → cells ≡ input_cells task takes tasks 0 vs no_cells → Begins t vs (begin t vs) (Some used) cells
  unfolding begin
  begins_with vs used cells u l c =
      let w : needed_in task takes tasks 0 ≡ needed_in task takes t.tasks 0 = ap (λ (n : ℕ). needed_in task takes n 0) h.tasks_are in
      let r = taken t.tasks 0 (first_state t) vs (omega arith) (omega (arith, u, w)) (first_shape t h.keep h.ready) refl in
      let d : drop (needed_in task takes t.tasks 0) vs ≡ drop used vs = ap (λ (n : ℕ). drop n vs) (sym (u ∙ w)) in
      let e : begin t vs ≡ begun r.state (drop used vs) = r.same ∙ ap (begun r.state) d in
      rw e (record {
        answer = omega (arith, length-drop used vs);
        cells_are =
            c
            ∙ ap (λ (n : ℕ). input_cells task takes n 0 vs no_cells) h.tasks_are
            ∙ ap (λ (x : List (List ℤ)). input_cells task takes t.tasks 0 vs x) (sym (first_cells t h.ready.tasks))
            ∙ sym r.cells;
        marks_stay = r.marks;
        within = l;
        rest_is = refl;
      })

-- ---- task by task

module _ {tasks : ℕ} {task : List Task} {takes : List ℕ} (h : Tops tasks task takes) where
  pub tops_few : tasks ≤ 4
  tops_few = omega (arith, h.have.tasks_are, h.have.ready.tasks)

  pub tops_low : (i : ℕ) → i < tasks → top_at task i < 8
  tops_low i l =
      let r = h.have.ready in
      let e : top_at task i ≡ (task_at h.t i).top = ap (λ (l : List Task). top_at l i) h.have.task_are in
      omega (arith, r.tops i (omega (arith, h.have.tasks_are)), r.procs)

  pub takes_few : (i : ℕ) → i < tasks → takes_at task takes i ≤ 4
  takes_few i l = omega (arith, wants h.have i (omega (arith, h.have.tasks_are)), inputs_few h.t h.have.keep h.have.ready i)

-- the inputs of the first i of n tasks, added up
pub record Summed (task : List Task) (takes : List ℕ) (n i sum : ℕ) : Type 0 where
  pub within : i ≤ n
  pub small : sum ≤ 4 * i
  pub rest : sum + needed_in task takes (n - i) i ≡ needed_in task takes n 0

pub sum_first : (task : List Task) (takes : List ℕ) (n : ℕ) → Summed task takes n 0 0
sum_first task takes n = let z : n - 0 ≡ n = omega arith in record { within = omega arith; small = omega arith; rest = rw z (omega arith) }

module _ (task : List Task) (takes : List ℕ) (n : ℕ) {i sum : ℕ} (k : Summed task takes n i sum) where
  pub sum_more : i < n → takes_at task takes i ≤ 4 → Summed task takes n (i + 1) (sum + takes_at task takes i)
  unfolding needed_in
  sum_more l m =
      let z : n - i ≡ suc (n - suc i) = omega arith in
      let r = rw z at k.rest in
      record { within = omega arith; small = omega (arith, k.small); rest = rw add-one (omega (arith, r)) }

  pub sum_done : n ≤ i → sum ≡ needed_in task takes n 0
  unfolding needed_in
  sum_done l = let z : n - i ≡ 0 = omega arith in omega (arith, rw z at k.rest)

-- the inputs of the first i of n tasks are taken, which are the first `used` values
pub record Taking (task : List Task) (takes : List ℕ) (n : ℕ) (vs : List ℤ) (i used : ℕ) (cells : List (List ℤ)) : Type 0 where
  pub within : i ≤ n
  pub rest : used + needed_in task takes (n - i) i ≡ needed_in task takes n 0
  pub cells_are : input_cells task takes (n - i) i (drop used vs) cells ≡ input_cells task takes n 0 vs no_cells

pub take_first : (task : List Task) (takes : List ℕ) (n : ℕ) (vs : List ℤ) (cells : List (List ℤ)) → cells ≡ no_cells → Taking task takes n vs 0 0 cells
take_first task takes n vs cells e =
    let z : n - 0 ≡ n = omega arith in
    record { within = omega arith; rest = rw z (omega arith); cells_are = rw (e, z) refl }

module _ (task : List Task) (takes : List ℕ) (n : ℕ) (vs : List ℤ) {i used : ℕ} {cells : List (List ℤ)} (k : Taking task takes n vs i used cells) where
  pub take_more : (row : List ℤ) → i < n → row ≡ input_row (take (takes_at task takes i) (drop used vs))
      → Taking task takes n vs (i + 1) (used + takes_at task takes i) (set cells (8 * i) row)
  unfolding needed_in input_cells
  take_more row l e =
      let z : n - i ≡ suc (n - suc i) = omega arith in
      let r = rw z at k.rest in
      let c = rw z at k.cells_are in
      record {
        within = omega arith;
        rest = rw add-one (omega (arith, r));
        cells_are = rw (e, add-one, ← drop-drop (takes_at task takes i) used vs) c;
      }

  -- the values last for the inputs of task i
  pub take_room : i < n → needed_in task takes n 0 ≤ length vs → used + takes_at task takes i ≤ length vs
  unfolding needed_in
  take_room l m =
      let z : n - i ≡ suc (n - suc i) = omega arith in
      omega (arith, rw z at k.rest)

  pub take_done : n ≤ i → (used ≡ needed_in task takes n 0) × (cells ≡ input_cells task takes n 0 vs no_cells)
  unfolding needed_in input_cells
  take_done l =
      let z : n - i ≡ 0 = omega arith in
      (omega (arith, rw z at k.rest), rw z at k.cells_are)

-- ---- the state that arrays hold

abbrev not_zero : ℕ → Bool
not_zero n = not (eqb n 0)

lost_back : (b : Bool) → not_zero (lost_mark b) ≡ b
lost_back true = refl
lost_back false = refl

-- the state of marks, with the frames and the queues of the arrays
abbrev pub state_of : List ℕ → List Frame → List Entries → State
state_of marks f q = record {
  depth = tab 4 (λ i. get_or marks i 0);
  lost = tab 4 (λ i. not_zero (get_or marks (4 + i) 0));
  frames = f;
  sems = tab 8 (λ i. get_or marks (8 + i) 0);
  queues = q;
}

module _ (s : State) (h : Shape s) {marks : List ℕ} {cells : List (List ℤ)} (em : marks ≡ marks_of s) (ec : cells ≡ cells_of s) where
  pub frames_are : {l : List Frame} → Frames marks cells l → l ≡ s.frames
  frames_are {l} f = ext_get_or (record { proc = 0; node = 0; vars = [] }) l s.frames (f.long ∙ sym h.frames) (λ j k. at j (omega (arith, f.long)))
    where
      at : (j : ℕ) → j < 32 → frame_in l j ≡ frame_in s.frames j
      at j k =
          let p = ap (λ (m : List ℕ). get_or m (32 + j) 0) em ∙ proc_at_lem s h j k in
          let n = ap (λ (m : List ℕ). get_or m (64 + j) 0) em ∙ node_at_lem s h j k in
          let v = ap (λ (c : List (List ℤ)). get_or c j []) ec ∙ vars_at s h j k in
          f.places j k ∙ (λ ι. record { proc = p ι; node = n ι; vars = v ι })

  pub queues_are : {l : List Entries} → Queues marks cells l → l ≡ s.queues
  queues_are {l} f = ext_get_or (record { len = 0; items = [] }) l s.queues (f.long ∙ sym h.queues) (λ q k. at q (omega (arith, f.long)))
    where
      at : (q : ℕ) → q < 8 → entries_at l q ≡ entries_at s.queues q
      at q k =
          let n = ap (λ (m : List ℕ). get_or m (16 + q) 0) em ∙ len_at s h q k in
          let u = ap (λ (c : List (List ℤ)). take 8 (get_or c (32 + q) [])) ec ∙ ap (take 8) (items_at s h q k) in
          let v = u ∙ take_at (entries_at s.queues q).items (replicate 8 (pos 0)) 8 (h.items q k) in
          f.places q k ∙ (λ ι. record { len = n ι; items = v ι })

  pub state_is : {f : List Frame} {q : List Entries} → Frames marks cells f → Queues marks cells q → state_of marks f q ≡ s
  state_is hf hq =
      let d = tab_is 0 s.depth 4 (λ i. get_or marks i 0) h.depth (λ i k. ap (λ (m : List ℕ). get_or m i 0) em ∙ depth_at s h i k) in
      let b : (i : ℕ) → i < 4 → not_zero (get_or marks (4 + i) 0) ≡ is_lost s i =
      λ i k. ap (λ (m : List ℕ). not_zero (get_or m (4 + i) 0)) em ∙ ap not_zero (lost_at s h i k) ∙ lost_back (is_lost s i) in
      let l = tab_is false s.lost 4 (λ i. not_zero (get_or marks (4 + i) 0)) h.lost b in
      let c = tab_is 0 s.sems 8 (λ i. get_or marks (8 + i) 0) h.sems (λ i k. ap (λ (m : List ℕ). get_or m (8 + i) 0) em ∙ sem_at s h i k) in
      λ ι. record { depth = d ι; lost = l ι; frames = frames_are hf ι; sems = c ι; queues = queues_are hq ι }

-- ---- arrays that hold some state

pub stated_wide : {marks : List ℕ} {cells : List (List ℤ)} → Stated marks cells → (j : ℕ) → j < 40 → length (get_or cells j []) ≡ 16
stated_wide h j l = ap (λ (c : List (List ℤ)). length (get_or c j [])) h.cells_are ∙ cells_wide h.s h.shape j l
