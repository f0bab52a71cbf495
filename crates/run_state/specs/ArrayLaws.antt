-- The arrays of a state are read and stored into as the state is.
use Rattle.std.specs.Prelude.{ℕ, zero, suc, ◌+◌, ◌-◌, ◌<◌, ◌≡◌, Bool, length, replicate, ℤ, pos}
use Rattle.std.proofs.Common.{arith, zero-add, suc-add, ◌∙◌, length-append, length-set, get_or-append-add}
use Rattle.std.proofs.Math.Decide.{dec_lt}
use Rattle.std.proofs.Math.Path.{refl, sym, ap}
use Rattle.std.proofs.Math.Bool.{false}
use mathlib.Core.List.{List, [], ◌∷◌, ◌++◌, map}
use Rattle.std.proofs.Math.ListN.{get_or, set, get_or-append, get_or-map}
use Rattle.std.proofs.lemmas.List.{length-map, set-append_left}
use Rattle.std.proofs.Math.Seq.{map-set_same}
use Rattle.machine.specs.declared.Frame.{Frame}
use Rattle.machine.specs.declared.Entries.{Entries}
use Rattle.machine.specs.declared.State.{State}
use Rattle.machine.specs.State.{open_frames, is_lost, sem_count, entries_at, with_depth, with_lost, with_frames, with_sems, with_queues}
use Rattle.run_state.specs.Good.{frame_in, Shape}
use Rattle.run_state.specs.Arrays.{lost_mark, marks_of, entry_cells, cells_of}

-- ---- lists in parts

-- behind the n elements of a
module _ {A : Type 0} (a b : List A) {n : ℕ} (e : length a ≡ n) where
  pub at_behind : (i j : ℕ) (d : A) → j ≡ n + i → get_or (a ++ b) j d ≡ get_or b i d
  at_behind i j d h = ap (λ (k : ℕ). get_or (a ++ b) k d) (h ∙ ap (λ (k : ℕ). k + i) (sym e)) ∙ get_or-append-add a b i d

  pub at_front : (i : ℕ) (d : A) → i < n → get_or (a ++ b) i d ≡ get_or a i d
  at_front i d h = get_or-append a b d i (omega arith)

  pub set_front : (i : ℕ) (x : A) → i < n → set (a ++ b) i x ≡ set a i x ++ b
  set_front i x h = set-append_left a b i x (omega arith)

pub set_append_add : {A : Type 0} (a b : List A) (i : ℕ) (x : A) → set (a ++ b) (length a + i) x ≡ a ++ set b i x
set_append_add {A} [] b i x = ap (λ (k : ℕ). set b k x) (zero-add i)
set_append_add {A} (y ∷ a) b i x = ap (λ (k : ℕ). set (y ∷ (a ++ b)) k x) (suc-add (length a) i) ∙ ap (λ (r : List A). y ∷ r) (set_append_add a b i x)

pub set_behind : {A : Type 0} (a b : List A) {n : ℕ} → length a ≡ n → (i j : ℕ) (x : A) → j ≡ n + i → set (a ++ b) j x ≡ a ++ set b i x
set_behind a b e i j x h = ap (λ (k : ℕ). set (a ++ b) k x) (h ∙ ap (λ (k : ℕ). k + i) (sym e)) ∙ set_append_add a b i x

module _ {A B : Type 0} (f : A → B) where
  pub map_set : (l : List A) (i : ℕ) (x : A) → map f (set l i x) ≡ set (map f l) i (f x)
  map_set [] i x = refl
  map_set (y ∷ l) zero x = refl
  map_set (y ∷ l) (suc i) x = ap (λ (r : List B). f y ∷ r) (map_set l i x)

  -- an element that is there, whatever the defaults
  pub map_at : (l : List A) (i : ℕ) (d : A) (e : B) → i < length l → get_or (map f l) i e ≡ f (get_or l i d)
  map_at [] i d e h = absurd (omega arith)
  map_at (y ∷ l) zero d e h = refl
  map_at (y ∷ l) (suc i) d e h = map_at l i d e (omega arith)

-- what holds of the new element and of an element before holds of that element after
pub after_set : {A : Type 0} (P : A → Type 0) (l : List A) (i j : ℕ) (a d : A) → P a → P (get_or l j d) → P (get_or (set l i a) j d)
after_set P [] i j a d p q = q
after_set P (x ∷ l) zero zero a d p q = p
after_set P (x ∷ l) zero (suc j) a d p q = q
after_set P (x ∷ l) (suc i) zero a d p q = q
after_set P (x ∷ l) (suc i) (suc j) a d p q = after_set P l i j a d p q

-- ---- the parts of the marks: 4, 4, 8, 8, 8, 32 and 32 bytes

module _ (a b c d e r : List ℕ) (ha : length a ≡ 4) (hb : length b ≡ 4) (hc : length c ≡ 8) (hd : length d ≡ 8) (he : length e ≡ 8) where
  at8 : (i : ℕ) → get_or (a ++ (b ++ (c ++ (d ++ (e ++ r))))) (8 + i) 0 ≡ get_or (c ++ (d ++ (e ++ r))) i 0
  at8 i = at_behind a (b ++ (c ++ (d ++ (e ++ r)))) ha (4 + i) (8 + i) 0 (omega arith) ∙ at_behind b (c ++ (d ++ (e ++ r))) hb i (4 + i) 0 refl

  at16 : (i : ℕ) → get_or (a ++ (b ++ (c ++ (d ++ (e ++ r))))) (16 + i) 0 ≡ get_or (d ++ (e ++ r)) i 0
  at16 i = ap (λ (k : ℕ). get_or (a ++ (b ++ (c ++ (d ++ (e ++ r))))) k 0) (omega arith) ∙ at8 (8 + i) ∙ at_behind c (d ++ (e ++ r)) hc i (8 + i) 0 refl

  at32 : (i : ℕ) → get_or (a ++ (b ++ (c ++ (d ++ (e ++ r))))) (32 + i) 0 ≡ get_or r i 0
  at32 i =
      ap (λ (k : ℕ). get_or (a ++ (b ++ (c ++ (d ++ (e ++ r))))) k 0) (omega arith)
      ∙ at16 (16 + i)
      ∙ at_behind d (e ++ r) hd (8 + i) (16 + i) 0 (omega arith)
      ∙ at_behind e r he i (8 + i) 0 refl

  set4 : (i x : ℕ) → set (a ++ (b ++ (c ++ (d ++ (e ++ r))))) (4 + i) x ≡ a ++ set (b ++ (c ++ (d ++ (e ++ r)))) i x
  set4 i x = set_behind a (b ++ (c ++ (d ++ (e ++ r)))) ha i (4 + i) x refl

  set8 : (i x : ℕ) → set (a ++ (b ++ (c ++ (d ++ (e ++ r))))) (8 + i) x ≡ a ++ (b ++ set (c ++ (d ++ (e ++ r))) i x)
  set8 i x =
      set_behind a (b ++ (c ++ (d ++ (e ++ r)))) ha (4 + i) (8 + i) x (omega arith)
      ∙ ap (λ (l : List ℕ). a ++ l) (set_behind b (c ++ (d ++ (e ++ r))) hb i (4 + i) x refl)

  set16 : (i x : ℕ) → set (a ++ (b ++ (c ++ (d ++ (e ++ r))))) (16 + i) x ≡ a ++ (b ++ (c ++ set (d ++ (e ++ r)) i x))
  set16 i x =
      ap (λ (k : ℕ). set (a ++ (b ++ (c ++ (d ++ (e ++ r))))) k x) (omega arith)
      ∙ set8 (8 + i) x
      ∙ ap (λ (l : List ℕ). a ++ (b ++ l)) (set_behind c (d ++ (e ++ r)) hc i (8 + i) x refl)

  set32 : (i x : ℕ) → set (a ++ (b ++ (c ++ (d ++ (e ++ r))))) (32 + i) x ≡ a ++ (b ++ (c ++ (d ++ (e ++ set r i x))))
  set32 i x =
      ap (λ (k : ℕ). set (a ++ (b ++ (c ++ (d ++ (e ++ r))))) k x) (omega arith)
      ∙ set16 (16 + i) x
      ∙ ap (λ (l : List ℕ). a ++ (b ++ (c ++ l)))
      (set_behind d (e ++ r) hd (8 + i) (16 + i) x (omega arith) ∙ ap (λ (l : List ℕ). d ++ l) (set_behind e r he i (8 + i) x refl))

-- ---- a state's arrays

abbrev lost_marks : State → List ℕ
lost_marks s = map lost_mark s.lost

abbrev lens : State → List ℕ
lens s = map (λ (e : Entries). e.len) s.queues

abbrev procs : State → List ℕ
procs s = map (λ (f : Frame). f.proc) s.frames

abbrev nodes : State → List ℕ
nodes s = map (λ (f : Frame). f.node) s.frames

abbrev no_bytes : List ℕ
no_bytes = replicate 8 0

abbrev rows : State → List (List ℤ)
rows s = map (λ (f : Frame). f.vars) s.frames

abbrev entry_rows : State → List (List ℤ)
entry_rows s = map entry_cells s.queues

abbrev no_frame_at : Frame
no_frame_at = record { proc = 0; node = 0; vars = [] }

abbrev no_entries_at : Entries
no_entries_at = record { len = 0; items = [] }

module _ (s : State) (h : Shape s) where
  lost_long : length (lost_marks s) ≡ 4
  lost_long = length-map s.lost lost_mark ∙ h.lost

  lens_long : length (lens s) ≡ 8
  lens_long = length-map s.queues (λ (e : Entries). e.len) ∙ h.queues

  procs_long : length (procs s) ≡ 32
  procs_long = length-map s.frames (λ (f : Frame). f.proc) ∙ h.frames

  nodes_long : length (nodes s) ≡ 32
  nodes_long = length-map s.frames (λ (f : Frame). f.node) ∙ h.frames

  rows_long : length (rows s) ≡ 32
  rows_long = length-map s.frames (λ (f : Frame). f.vars) ∙ h.frames

  entry_rows_long : length (entry_rows s) ≡ 8
  entry_rows_long = length-map s.queues entry_cells ∙ h.queues

  -- ---- loads

  pub depth_at : (i : ℕ) → i < 4 → get_or (marks_of s) i 0 ≡ open_frames s i
  unfolding marks_of
  depth_at i k = at_front s.depth (lost_marks s ++ (s.sems ++ (lens s ++ (no_bytes ++ (procs s ++ nodes s))))) h.depth i 0 k

  pub lost_at : (i : ℕ) → i < 4 → get_or (marks_of s) (4 + i) 0 ≡ lost_mark (is_lost s i)
  unfolding marks_of
  lost_at i k =
      at_behind s.depth (lost_marks s ++ (s.sems ++ (lens s ++ (no_bytes ++ (procs s ++ nodes s))))) h.depth i (4 + i) 0 refl
      ∙ at_front (lost_marks s) (s.sems ++ (lens s ++ (no_bytes ++ (procs s ++ nodes s)))) lost_long i 0 k
      ∙ get_or-map lost_mark s.lost i false

  pub sem_at : (i : ℕ) → i < 8 → get_or (marks_of s) (8 + i) 0 ≡ sem_count s.sems i
  unfolding marks_of
  sem_at i k =
      at8 s.depth (lost_marks s) s.sems (lens s) no_bytes (procs s ++ nodes s) h.depth lost_long h.sems lens_long refl i
      ∙ at_front s.sems (lens s ++ (no_bytes ++ (procs s ++ nodes s))) h.sems i 0 k

  pub len_at : (q : ℕ) → q < 8 → get_or (marks_of s) (16 + q) 0 ≡ (entries_at s.queues q).len
  unfolding marks_of
  len_at q k =
      at16 s.depth (lost_marks s) s.sems (lens s) no_bytes (procs s ++ nodes s) h.depth lost_long h.sems lens_long refl q
      ∙ at_front (lens s) (no_bytes ++ (procs s ++ nodes s)) lens_long q 0 k
      ∙ get_or-map (λ (e : Entries). e.len) s.queues q no_entries_at

  pub proc_at_lem : (f : ℕ) → f < 32 → get_or (marks_of s) (32 + f) 0 ≡ (frame_in s.frames f).proc
  unfolding marks_of
  proc_at_lem f k =
      at32 s.depth (lost_marks s) s.sems (lens s) no_bytes (procs s ++ nodes s) h.depth lost_long h.sems lens_long refl f
      ∙ at_front (procs s) (nodes s) procs_long f 0 k
      ∙ get_or-map (λ (f : Frame). f.proc) s.frames f no_frame_at

  pub node_at_lem : (f : ℕ) → f < 32 → get_or (marks_of s) (64 + f) 0 ≡ (frame_in s.frames f).node
  unfolding marks_of
  node_at_lem f k =
      ap (λ (k : ℕ). get_or (s.depth ++ (lost_marks s ++ (s.sems ++ (lens s ++ (no_bytes ++ (procs s ++ nodes s)))))) k 0) (omega arith)
      ∙ at32 s.depth (lost_marks s) s.sems (lens s) no_bytes (procs s ++ nodes s) h.depth lost_long h.sems lens_long refl (32 + f)
      ∙ at_behind (procs s) (nodes s) procs_long f (32 + f) 0 refl
      ∙ get_or-map (λ (f : Frame). f.node) s.frames f no_frame_at

  pub vars_at : (f : ℕ) → f < 32 → get_or (cells_of s) f [] ≡ (frame_in s.frames f).vars
  unfolding cells_of
  vars_at f k = at_front (rows s) (entry_rows s) rows_long f [] k ∙ get_or-map (λ (f : Frame). f.vars) s.frames f no_frame_at

  pub items_at : (q : ℕ) → q < 8 → get_or (cells_of s) (32 + q) [] ≡ entry_cells (entries_at s.queues q)
  unfolding cells_of
  items_at q k = at_behind (rows s) (entry_rows s) rows_long q (32 + q) [] refl ∙ map_at entry_cells s.queues q no_entries_at [] (omega (arith, h.queues))

  -- ---- lengths

  pub cells_wide : (j : ℕ) → j < 40 → length (get_or (cells_of s) j []) ≡ 16
  cells_wide j k = elim (dec_lt j 32) [ yes l ↦ ap length (vars_at j l) ∙ h.vars j l | no l ↦ behind (j - 32) (omega arith) (omega (arith, l)) ]
    where
      behind : (q : ℕ) → j ≡ 32 + q → q < 8 → length (get_or (cells_of s) j []) ≡ 16
      behind q e l =
          ap (λ (i : ℕ). length (get_or (cells_of s) i [])) e
          ∙ ap length (items_at q l)
          ∙ length-append (entries_at s.queues q).items (replicate 8 (pos 0))
          ∙ omega (arith, h.items q l)

  -- ---- stores

  pub depth_set : (i d : ℕ) → i < 4 → set (marks_of s) i d ≡ marks_of (with_depth s (set s.depth i d))
  unfolding marks_of
  depth_set i d k = set_front s.depth (lost_marks s ++ (s.sems ++ (lens s ++ (no_bytes ++ (procs s ++ nodes s))))) h.depth i d k

  pub lost_set : (i : ℕ) (b : Bool) → i < 4 → set (marks_of s) (4 + i) (lost_mark b) ≡ marks_of (with_lost s (set s.lost i b))
  unfolding marks_of
  lost_set i b k =
      let tail = s.sems ++ (lens s ++ (no_bytes ++ (procs s ++ nodes s))) in
      set4 s.depth (lost_marks s) s.sems (lens s) no_bytes (procs s ++ nodes s) h.depth lost_long h.sems lens_long refl i (lost_mark b)
      ∙ ap (λ (l : List ℕ). s.depth ++ l)
      (set_front (lost_marks s) tail lost_long i (lost_mark b) k ∙ ap (λ (l : List ℕ). l ++ tail) (sym (map_set lost_mark s.lost i b)))

  pub sem_set : (i c : ℕ) → i < 8 → set (marks_of s) (8 + i) c ≡ marks_of (with_sems s (set s.sems i c))
  unfolding marks_of
  sem_set i c k =
      set8 s.depth (lost_marks s) s.sems (lens s) no_bytes (procs s ++ nodes s) h.depth lost_long h.sems lens_long refl i c
      ∙ ap (λ (l : List ℕ). s.depth ++ (lost_marks s ++ l)) (set_front s.sems (lens s ++ (no_bytes ++ (procs s ++ nodes s))) h.sems i c k)

  pub queue_marks : (q : ℕ) (e : Entries) → q < 8 → set (marks_of s) (16 + q) e.len ≡ marks_of (with_queues s (set s.queues q e))
  unfolding marks_of
  queue_marks q e k =
      let tail = no_bytes ++ (procs s ++ nodes s) in
      set16 s.depth (lost_marks s) s.sems (lens s) no_bytes (procs s ++ nodes s) h.depth lost_long h.sems lens_long refl q e.len
      ∙ ap (λ (l : List ℕ). s.depth ++ (lost_marks s ++ (s.sems ++ l)))
      (set_front (lens s) tail lens_long q e.len k ∙ ap (λ (l : List ℕ). l ++ tail) (sym (map_set (λ (e : Entries). e.len) s.queues q e)))

  pub queue_cells : (q : ℕ) (e : Entries) → q < 8 → set (cells_of s) (32 + q) (entry_cells e) ≡ cells_of (with_queues s (set s.queues q e))
  unfolding cells_of
  queue_cells q e k =
      set_behind (rows s) (entry_rows s) rows_long q (32 + q) (entry_cells e) refl
      ∙ ap (λ (l : List (List ℤ)). rows s ++ l) (sym (map_set entry_cells s.queues q e))

  -- the marks with other procedures and nodes of the frames
  abbrev framed : List ℕ → List ℕ → List ℕ
  framed p n = s.depth ++ (lost_marks s ++ (s.sems ++ (lens s ++ (no_bytes ++ (p ++ n)))))

  proc_framed : (p n : List ℕ) (f x : ℕ) → length p ≡ 32 → f < 32 → set (framed p n) (32 + f) x ≡ framed (set p f x) n
  proc_framed p n f x e k =
      set32 s.depth (lost_marks s) s.sems (lens s) no_bytes (p ++ n) h.depth lost_long h.sems lens_long refl f x
      ∙ ap (λ (l : List ℕ). s.depth ++ (lost_marks s ++ (s.sems ++ (lens s ++ (no_bytes ++ l))))) (set_front p n e f x k)

  node_framed : (p n : List ℕ) (f x : ℕ) → length p ≡ 32 → set (framed p n) (64 + f) x ≡ framed p (set n f x)
  node_framed p n f x e =
      ap (λ (k : ℕ). set (framed p n) k x) (omega arith)
      ∙ set32 s.depth (lost_marks s) s.sems (lens s) no_bytes (p ++ n) h.depth lost_long h.sems lens_long refl (32 + f) x
      ∙ ap (λ (l : List ℕ). s.depth ++ (lost_marks s ++ (s.sems ++ (lens s ++ (no_bytes ++ l))))) (set_behind p n e f (32 + f) x refl)

  pub frame_marks : (f : ℕ) (fr : Frame) → f < 32 → set (set (marks_of s) (32 + f) fr.proc) (64 + f) fr.node ≡ marks_of (with_frames s (set s.frames f fr))
  unfolding marks_of
  frame_marks f fr k =
      ap (λ (l : List ℕ). set l (64 + f) fr.node) (proc_framed (procs s) (nodes s) f fr.proc procs_long k)
      ∙ node_framed (set (procs s) f fr.proc) (nodes s) f fr.node (length-set (procs s) f fr.proc ∙ procs_long)
      ∙ sym (λ ι. framed (map_set (λ (f : Frame). f.proc) s.frames f fr ι) (map_set (λ (f : Frame). f.node) s.frames f fr ι))

  pub proc_marks : (f : ℕ) (fr : Frame) → f < 32 → fr.node ≡ (frame_in s.frames f).node
      → set (marks_of s) (32 + f) fr.proc ≡ marks_of (with_frames s (set s.frames f fr))
  unfolding marks_of
  proc_marks f fr k e =
      proc_framed (procs s) (nodes s) f fr.proc procs_long k
      ∙ ap (λ (l : List ℕ). framed l (nodes s)) (sym (map_set (λ (f : Frame). f.proc) s.frames f fr))
      ∙ ap (λ (l : List ℕ). framed (map (λ (f : Frame). f.proc) (set s.frames f fr)) l) (sym (map-set_same (λ (f : Frame). f.node) s.frames f fr no_frame_at e))

  pub node_marks : (f : ℕ) (fr : Frame) → f < 32 → fr.proc ≡ (frame_in s.frames f).proc
      → set (marks_of s) (64 + f) fr.node ≡ marks_of (with_frames s (set s.frames f fr))
  unfolding marks_of
  node_marks f fr k e =
      node_framed (procs s) (nodes s) f fr.node procs_long
      ∙ ap (λ (l : List ℕ). framed (procs s) l) (sym (map_set (λ (f : Frame). f.node) s.frames f fr))
      ∙ ap (λ (l : List ℕ). framed l (map (λ (f : Frame). f.node) (set s.frames f fr))) (sym (map-set_same (λ (f : Frame). f.proc) s.frames f fr no_frame_at e))

  pub frame_cells : (f : ℕ) (fr : Frame) → f < 32 → set (cells_of s) f fr.vars ≡ cells_of (with_frames s (set s.frames f fr))
  unfolding cells_of
  frame_cells f fr k =
      set_front (rows s) (entry_rows s) rows_long f fr.vars k
      ∙ ap (λ (l : List (List ℤ)). l ++ entry_rows s) (sym (map_set (λ (f : Frame). f.vars) s.frames f fr))

  -- ---- shapes

  pub shape_depth : (i d : ℕ) → Shape (with_depth s (set s.depth i d))
  shape_depth i d = record {
    depth = length-set s.depth i d ∙ h.depth;
    lost = h.lost;
    frames = h.frames;
    sems = h.sems;
    queues = h.queues;
    vars = h.vars;
    items = h.items;
  }

  pub shape_lost : (i : ℕ) (b : Bool) → Shape (with_lost s (set s.lost i b))
  shape_lost i b = record {
    lost = length-set s.lost i b ∙ h.lost;
    depth = h.depth;
    frames = h.frames;
    sems = h.sems;
    queues = h.queues;
    vars = h.vars;
    items = h.items;
  }

  pub shape_frames : (f : ℕ) (fr : Frame) → length fr.vars ≡ 16 → Shape (with_frames s (set s.frames f fr))
  shape_frames f fr k = record {
    frames = length-set s.frames f fr ∙ h.frames;
    vars = λ j l. after_set (λ (x : Frame). length x.vars ≡ 16) s.frames f j fr no_frame_at k (h.vars j l);
    depth = h.depth;
    lost = h.lost;
    sems = h.sems;
    queues = h.queues;
    items = h.items;
  }

-- ---- what a setter does not touch

pub cells_depth : (s : State) (l : List ℕ) → cells_of (with_depth s l) ≡ cells_of s
unfolding cells_of
cells_depth s l = refl

pub cells_lost : (s : State) (l : List Bool) → cells_of (with_lost s l) ≡ cells_of s
unfolding cells_of
cells_lost s l = refl

pub cells_sems : (s : State) (l : List ℕ) → cells_of (with_sems s l) ≡ cells_of s
unfolding cells_of
cells_sems s l = refl
