-- A step of a good state leaves a good one, and so does a run; the values left are a rest of the values.
use Prim.Native.Nat.{ℕ, zero, suc, ◌+◌, ◌-◌, ◌*◌, ◌<◌, ◌≤◌}
use Rattle.std.proofs.Common.{arith, sym, ◌∙◌, ap, subst, length-set, length-append, length-drop, get_or-set_other, drop-drop, leb-false, ltb-true}
use Rattle.std.specs.Prelude.{◌≡◌, Bool, length, set, drop, pos, negsuc}
use Rattle.std.proofs.Math.Path.{refl}
use Rattle.std.proofs.Math.Bool.{true, false}
use mathlib.Core.List.{List, [], ◌∷◌, Memᴰ}
use Rattle.std.proofs.Math.Option.{Option, none, some}
use Rattle.std.proofs.Math.ListN.{get_elem?}
use Rattle.std.proofs.lemmas.List.Edits.{sets}
use Rattle.std.proofs.Math.Dec.{ltb}
use Rattle.std.proofs.Math.IntN.{ℤ}
use Rattle.table.specs.Mask.{pick, members}
use Rattle.table.specs.MaskLaws.{members_is}
use Rattle.table.specs.ByKind.{by_kind}
use Rattle.table.specs.Table.{node_at, arc_to, act}
use Rattle.table.specs.declared.Args.{Args}
use Rattle.table.specs.declared.Node.{Node}
use Rattle.table.specs.declared.Node.TheVariants.{Absent, Start, Set, Test, Read, Call, Wait, Signal, Send, Recv, Assert, Out, Return}
use Rattle.table.specs.declared.Table.{Table}
use Rattle.text.specs.Reader.{concat_from}
use Rattle.machine.specs.declared.Frame.{Frame}
use Rattle.machine.specs.declared.Entries.{Entries}
use Rattle.machine.specs.declared.State.{State}
use Rattle.machine.specs.State.{no_frame, with_depth, with_lost, with_sems, with_queues, open_frames, is_lost, place, frame_at, topmost, entries_at, stands_before, blocked_at, blocked}
use Rattle.machine.specs.Step.{no_such_task, log_full, task_lost, task_blocked, too_many, Memory, assign, with_sem, with_entries, appended, shortened, entering, Does, opens, closes, goes, stops, read_of, exec, Choice, nowhere, node, bad, tossed, toss, choose_from, choose, Kept, kept_in, Walk, halts, arrives, along, onward, noting, walk, Entry, Step, stopped, stepped, landed, settled, called, returned, memory, entry_of, step_as, step_of, before, unless, step}
use Rattle.machine.specs.Run.{entry_bytes, turn, run_from}
use Rattle.machine.proofs.RunLaws.{after_step, run_end, run_next}
use Rattle.machine.proofs.ExecLaws.{Executes, calling, returning, going, stopping, exec_view}
use Rattle.run_code.specs.Ready.{Placed, Ready}
use Rattle.run_state.specs.Good.{frame_in, Good}
use Rattle.run_state.specs.ArrayLaws.{after_set, shape_depth, shape_lost}
use Rattle.run_state.specs.GoodLaws.{FrameGood, good_frame}

-- ---- a good state stays good where a part of it is replaced

-- the semaphores' counts and the queues
pub record SharedGood (ss : List ℕ) (qs : List Entries) : Type 0 where
  pub sems : length ss ≡ 8
  pub queues : length qs ≡ 8
  pub items : (q : ℕ) → q < 8 → length (entries_at qs q).items ≡ 8

module _ {t : Table} {s : State} (g : Good t s) where
  -- the frames open of a task
  pub good_depth : (k n : ℕ) → k < t.tasks → 0 < n → n ≤ 8 → Good t (with_depth s (set s.depth k n))
  good_depth k n l lo hi = record {
    shape = shape_depth s g.shape k n;
    opened = λ i h. after_set (λ (x : ℕ). 0 < x) s.depth k i n 0 lo (g.opened i h);
    bounded = λ i. after_set (λ (x : ℕ). x ≤ 8) s.depth k i n 0 hi (g.bounded i);
    closed = λ i h. get_or-set_other s.depth k i n 0 (λ e. omega arith) ∙ g.closed i h;
    procs = g.procs;
    nodes = g.nodes;
  }

  pub good_lost : (k : ℕ) (b : Bool) → Good t (with_lost s (set s.lost k b))
  good_lost k b = record { shape = shape_lost s g.shape k b; opened = g.opened; bounded = g.bounded; closed = g.closed; procs = g.procs; nodes = g.nodes }

  pub good_shared : (ss : List ℕ) (qs : List Entries) → SharedGood ss qs → Good t (with_queues (with_sems s ss) qs)
  good_shared ss qs h = record {
    shape = record {
      depth = g.shape.depth;
      lost = g.shape.lost;
      frames = g.shape.frames;
      sems = h.sems;
      queues = h.queues;
      vars = g.shape.vars;
      items = h.items;
    };
    opened = g.opened;
    bounded = g.bounded;
    closed = g.closed;
    procs = g.procs;
    nodes = g.nodes;
  }

-- ---- what holds of a memory and the values left, and is kept by nodes and by tosses, holds where a walk ends; and a walk ends below 32

abbrev Below : Option ℕ → Type 0
Below none = Unit {0}
Below (some n) = n < 32

abbrev DoesIn : (Frame → Type 0) → (Memory → List ℤ → Type 0) → Does → Type 0
DoesIn F M (opens f) = F f
DoesIn F M closes = Unit {0}
DoesIn F M (goes arc m ws o) = M m ws
DoesIn F M (stops c) = Unit {0}

abbrev ChoiceIn : (List ℤ → Type 0) → Choice → Type 0
ChoiceIn M (nowhere ws) = M ws
ChoiceIn M (node n ws) = (n < 32) × M ws
ChoiceIn M (bad c) = Unit {0}

abbrev WalkIn : (Memory → List ℤ → Type 0) → Walk → Type 0
WalkIn M (halts c) = Unit {0}
WalkIn M (arrives w m ws ns) = Below w × M m ws

abbrev StepIn : (State → List ℤ → Type 0) → Step → Type 0
StepIn Q (stopped c) = Unit {0}
StepIn Q (stepped e ns z ws) = Q z ws

-- a member's place in a list whose members are below 32
below_at : (ms : List ℕ) → ((n : ℕ) → Memᴰ n ms → n < 32) → (i : ℕ) → Below (get_elem? ms i)
below_at [] h i = tt
below_at (m ∷ ms) h zero = h m (Memᴰ.head refl)
below_at (m ∷ ms) h (suc i) = below_at ms (λ n d. h n (Memᴰ.tail d)) i

module _ (M : List ℤ → Type 0) (ms : List ℕ) (low : (n : ℕ) → Memᴰ n ms → n < 32) where
  tossed_in : (o : Option ℕ) (ws : List ℤ) → Below o → M ws → ChoiceIn M (tossed o ws)
  tossed_in none ws b h = tt
  tossed_in (some n) ws b h = (b, h)

  toss_in : (x : ℤ) (ws : List ℤ) → M ws → ChoiceIn M (toss ms x ws)
  toss_in (pos i) ws h = tossed_in (get_elem? ms i) ws (below_at ms low i) h
  toss_in (negsuc i) ws h = tt

choose_from_in : (M : List ℤ → Type 0) → ((x : ℤ) (ws : List ℤ) → M (x ∷ ws) → M ws) → (ms : List ℕ) → ((n : ℕ) → Memᴰ n ms → n < 32)
    → (vs : List ℤ) → M vs → ChoiceIn M (choose_from ms vs)
choose_from_in M less [] low vs h = h
choose_from_in M less (m ∷ []) low vs h = (low m (Memᴰ.head refl), h)
choose_from_in M less (m ∷ m' ∷ ms) low [] h = tt
choose_from_in M less (m ∷ m' ∷ ms) low (x ∷ vs) h = toss_in M (m ∷ m' ∷ ms) low x vs (less x vs h)

choose_in : (M : List ℤ → Type 0) → ((x : ℤ) (ws : List ℤ) → M (x ∷ ws) → M ws) → (arc : ℕ) (vs : List ℤ) → M vs → ChoiceIn M (choose arc vs)
unfolding choose
choose_in M less arc vs h = choose_from_in M less (members arc) (λ n d. ((members_is n arc).0 d).1) vs h

module _ (t : Table) (keep : Kept) (F : Frame → Type 0) (M : Memory → List ℤ → Type 0)
    (acts : (k p n : ℕ) (m : Memory) (ws : List ℤ) → M m ws → DoesIn F M (exec t k (node_at t p n) m ws))
    (less : (m : Memory) (x : ℤ) (ws : List ℤ) → M m (x ∷ ws) → M m ws) where
  noting_in : (n : ℕ) (w : Walk) → WalkIn M w → WalkIn M (noting n w)
  noting_in n (halts c) h = tt
  noting_in n (arrives w m ws ns) h = h

  abbrev WalksIn : (ℕ → Memory → List ℤ → Walk) → Type 0
  WalksIn go = (n : ℕ) (m : Memory) (ws : List ℤ) → n < 32 → M m ws → WalkIn M (go n m ws)

  along_in : (go : ℕ → Memory → List ℤ → Walk) → WalksIn go → (m : Memory) (c : Choice) → ChoiceIn (M m) c
      → WalkIn M (along go m c)
  along_in go hyp m (nowhere ws) h = (tt, h)
  along_in go hyp m (node n ws) h = hyp n m ws h.0 h.1
  along_in go hyp m (bad c) h = tt

  onward_in : (go : ℕ → Memory → List ℤ → Walk) → WalksIn go → (m : Memory) (vs : List ℤ) → M m vs → (d : Does)
      → DoesIn F M d → WalkIn M (onward go m vs d)
  onward_in go hyp m vs h (opens f) b = (tt, h)
  onward_in go hyp m vs h closes b = (tt, h)
  onward_in go hyp m vs h (goes arc m' ws o) b = along_in go hyp m' (choose arc ws) (choose_in (M m') (less m') arc ws b)
  onward_in go hyp m vs h (stops c) b = tt

  walk_in : (k p d n : ℕ) (m : Memory) (vs : List ℤ) → n < 32 → M m vs → WalkIn M (walk t keep k p d n m vs)
  unfolding walk
  walk_in k p zero n m vs l h = elim (keep p n) as (λ (b : Bool). WalkIn M (elim b [ true ↦ arrives (some n) m vs [] | false ↦ halts too_many ])) [ true ↦ (l, h) | false ↦ tt ]
  walk_in k p (suc d) n m vs l h =
      let go : ℕ → Memory → List ℤ → Walk = λ n' m' ws. walk t keep k p d n' m' ws in
      let x = exec t k (node_at t p n) m vs in
      elim (keep p n) as (λ (b : Bool). WalkIn M (elim b [ true ↦ arrives (some n) m vs [] | false ↦ noting n (onward go m vs x) ])) [
        | true ↦ (l, h)
        | false ↦ noting_in n (onward go m vs x) (onward_in go (λ n' m' ws a b. walk_in k p d n' m' ws a b) m vs h x (acts k p n m vs h))
      ]

  -- from an arc on
  way_in : (k p d : ℕ) (m : Memory) (arc : ℕ) (vs : List ℤ) → M m vs → WalkIn M (along (λ n m' ws. walk t keep k p d n m' ws) m (choose arc vs))
  way_in k p d m arc vs h = along_in (λ n m' ws. walk t keep k p d n m' ws) (λ n m' ws a b. walk_in k p d n m' ws a b) m (choose arc vs) (choose_in (M m) (less m) arc vs h)

  -- and so what the state after a step and the values left have
  module _ (Q : State → List ℤ → Type 0) (most : ℕ) (s : State) (k : ℕ) where
    abbrev Lands : State → ℕ → ℕ → Type 0
    Lands z j p = (w : Option ℕ) (m : Memory) (ws : List ℤ) → Below w → M m ws → Q (landed z k j p w m) ws

    settled_in : (e : Entry) (z : State) (j p : ℕ) → Lands z j p → (w : Walk) → WalkIn M w → StepIn Q (settled e z k j p w)
    settled_in e z j p lands (halts c) h = tt
    settled_in e z j p lands (arrives w m ws ns) h = lands w m ws h.0 h.1

    abbrev f : Frame
    f = topmost s k

    abbrev below : Frame
    below = frame_at s k (open_frames s k - 2)

    module _ (vs : List ℤ) (first : M (memory s f) vs) (free : blocked t s k ≡ false)
        (calling-in : (g : Frame) → open_frames s k < 8 → F g → Q (called s k g) vs)
        (returning-in : 1 < open_frames s k → M (memory s below) vs × Lands (returned s k) (open_frames s k - 2) below.proc)
        (going-in : Lands s (open_frames s k - 1) f.proc) where
      executed_in : (x : Node) (d : Does) → blocked_at t s k (act x) ≡ false → DoesIn F M d → Executes x (memory s f) vs d → StepIn Q (step_as t keep most s k f vs d)
      unfolding blocked_at
      executed_in x d b h (calling q xs a e) = rw e (calling-in (entering f.vars q xs) (leb-false 8 (open_frames s k) (rw a at b)) (rw e at h))
      executed_in x d b h (returning a e) =
          let r = returning-in (leb-false (open_frames s k) 1 (rw a at b)) in
          let p = below.proc in
          let w = along (λ n m ws. walk t keep k p most n m ws) (memory s below) (choose (arc_to (node_at t p below.node)) vs) in
          rw e (settled_in (entry_of k f none) (returned s k) (open_frames s k - 2) p r.1 w (way_in k p most (memory s below) (arc_to (node_at t p below.node)) vs r.0))
      executed_in x d b h (going arc m ws o a e) =
          let w = along (λ n m' vs'. walk t keep k f.proc most n m' vs') m (choose arc ws) in
          rw e (settled_in (entry_of k f o) s (open_frames s k - 1) f.proc going-in w (way_in k f.proc most m arc ws (rw e at h)))
      executed_in x d b h (stopping c e) = rw e tt

      step_of_in : StepIn Q (step_of t keep most s k vs)
      unfolding step_of
      step_of_in =
          let x = stands_before t s k in
          executed_in x (exec t k x (memory s f) vs) free (acts k f.proc f.node (memory s f) vs first) (exec_view t k (memory s f) x vs)

    step_in : (vs : List ℤ) → M (memory s f) vs → ((g : Frame) → open_frames s k < 8 → F g → Q (called s k g) vs)
        → (1 < open_frames s k → M (memory s below) vs × Lands (returned s k) (open_frames s k - 2) below.proc) → Lands s (open_frames s k - 1) f.proc → StepIn Q (step t keep most s k vs)
    unfolding step before
    step_in vs first c r g =
        elim (is_lost s k) as (λ (b : Bool). StepIn Q (unless (elim b [ true ↦ some task_lost | false ↦ pick (blocked t s k) (some task_blocked) none ]) (step_of t keep most s k vs))) [
          | true ↦ tt
          | false ↦ unblocked (blocked t s k) refl
        ]
      where
        unblocked : (b : Bool) → blocked t s k ≡ b → StepIn Q (unless (pick b (some task_blocked) none) (step_of t keep most s k vs))
        unblocked true e = tt
        unblocked false e = step_of_in vs first e c r g

-- ---- a good state

pub record MemoryGood (m : Memory) : Type 0 where
  pub vars : length m.vars ≡ 16
  pub shared : SharedGood m.sems m.queues

module _ (m : Memory) (g : MemoryGood m) where
  assign_good : (v : ℕ) (x : ℤ) → MemoryGood (assign v x m)
  assign_good v x = record { vars = length-set m.vars v x ∙ g.vars; shared = g.shared }

  sem_good : (i c : ℕ) → MemoryGood (with_sem i c m)
  sem_good i c = record { vars = g.vars; shared = record { sems = length-set m.sems i c ∙ g.shared.sems; queues = g.shared.queues; items = g.shared.items } }

  entries_good : (q : ℕ) (e : Entries) → length e.items ≡ 8 → MemoryGood (with_entries q e m)
  entries_good q e h = record {
    vars = g.vars;
    shared = record {
      sems = g.shared.sems;
      queues = length-set m.queues q e ∙ g.shared.queues;
      items = λ j l. after_set (λ (x : Entries). length x.items ≡ 8) m.queues q j e _ h (g.shared.items j l);
    };
  }

  sent_good : (q : ℕ) (x : ℤ) → q < 8 → MemoryGood (with_entries q (appended x (entries_at m.queues q)) m)
  sent_good q x l = entries_good q (appended x (entries_at m.queues q)) (length-set (entries_at m.queues q).items (entries_at m.queues q).len x ∙ g.shared.items q l)

  received_good : (q : ℕ) → q < 8 → MemoryGood (with_entries q (shortened (entries_at m.queues q)) m)
  received_good q l =
      let r = (entries_at m.queues q).items in
      entries_good q (shortened (entries_at m.queues q)) (length-append (drop 1 r) (pos 0 ∷ []) ∙ omega (arith, length-drop 1 r, g.shared.items q l))

  entered_good : (q : ℕ) (xs : Args) → q < 8 → FrameGood (entering m.vars q xs)
  unfolding concat_from
  entered_good q xs l = record { proc = l; node = omega arith; vars = refl }

abbrev Executed : Does → Type 0
Executed d = DoesIn FrameGood (λ m ws. MemoryGood m) d

module _ (t : Table) (k : ℕ) where
  read_good : (m : Memory) → MemoryGood m → (v to : ℕ) (vs : List ℤ) → Executed (read_of v to m vs)
  read_good m g v to [] = tt
  read_good m g v to (x ∷ vs) = assign_good m g v x

  exec_good : (x : Node) → Placed x → (m : Memory) (vs : List ℤ) → MemoryGood m → Executed (exec t k x m vs)
  unfolding exec Placed
  exec_good Absent h m vs g = g
  exec_good (Start to) h m vs g = g
  exec_good (Set v o a b to) h m vs g = assign_good m g v _
  exec_good (Test o a b y n) h m vs g = g
  exec_good (Read v to) h m vs g = read_good m g v to vs
  exec_good (Call q xs to) h m vs g = entered_good m g q xs h.0
  exec_good (Wait i to) h m vs g = sem_good m g i _
  exec_good (Signal i to) h m vs g = sem_good m g i _
  exec_good (Send q v to) h m vs g = sent_good m g q _ h
  exec_good (Recv q v to) h m vs g = assign_good _ (received_good m g q h) v _
  exec_good (Assert v to) h m vs g = g
  exec_good (Out v to) h m vs g = g
  exec_good Return h m vs g = tt

module _ (t : Table) (keep : List ℕ) (ready : Ready t keep) where
  module _ {s : State} (g : Good t s) where
    memory_good : (j : ℕ) → j < 32 → MemoryGood (memory s (frame_in s.frames j))
    memory_good j l = record { vars = g.shape.vars j l; shared = record { sems = g.shape.sems; queues = g.shape.queues; items = g.shape.items } }

    landed_good : (k j p : ℕ) → p < 8 → (w : Option ℕ) (m : Memory) → Below w → MemoryGood m → Good t (landed s k j p w m)
    landed_good k j p l (some n) m b h = good_frame (place k j) _ (good_shared g m.sems m.queues h.shared) (record { proc = l; node = b; vars = h.vars })
    landed_good k j p l none m b h =
        good_lost (good_frame (place k j) _ (good_shared g m.sems m.queues h.shared) (record { proc = l; node = omega arith; vars = h.vars })) k true

  pub step_good : (s : State) → Good t s → (most k : ℕ) → k < t.tasks → (vs : List ℤ) (e : Entry) (ns : List ℕ) (z : State) (rest : List ℤ)
      → step t (kept_in t) most s k vs ≡ stepped e ns z rest → Good t z
  step_good s g most k l vs e ns z rest h =
      let low : k < 4 = omega (arith, ready.tasks) in
      let d = open_frames s k in
      let deep : d ≤ 8 = g.bounded k in
      let some_open : 0 < d = g.opened k l in
      let j = d - 2 in
      let at : place k j < 32 = omega (arith, low, deep) in
      subst (StepIn (λ z ws. Good t z)) h
      (step_in t (kept_in t) FrameGood (λ m ws. MemoryGood m) (λ k p n m ws. exec_good t k (node_at t p n) (ready.nodes p n) m ws) (λ m x ws h. h) (λ z ws. Good t z) most s k vs
      (memory_good g (place k (d - 1)) (omega (arith, low, deep)))
      (λ f few fg. good_frame (place k d) f (good_depth g k (d + 1) l (omega arith) (omega arith)) fg)
      (λ more.
      let r = good_frame (place k (d - 1)) no_frame (good_depth g k (d - 1) l (omega arith) (omega arith)) (record { proc = omega arith; node = omega arith; vars = refl }) in
      (memory_good g (place k j) at, λ w m ws b mg. landed_good r k j _ (g.procs (place k j)) w m b mg))
      (λ w m ws b mg. landed_good g k (d - 1) _ (g.procs (place k (d - 1))) w m b mg))

-- ---- the values left

-- ws is what is left of vs
abbrev Rest : List ℤ → List ℤ → Type 0
Rest vs ws = (drop (length vs - length ws) vs ≡ ws) × (length ws ≤ length vs)

rest_drop : (n : ℕ) (vs : List ℤ) → n ≤ length vs → Rest vs (drop n vs)
rest_drop n vs l =
    let e : length vs - length (drop n vs) ≡ n = omega (arith, length-drop n vs) in
    (ap (λ (k : ℕ). drop k vs) e, omega (arith, length-drop n vs))

rest_less : (vs : List ℤ) (x : ℤ) (ws : List ℤ) → Rest vs (x ∷ ws) → Rest vs ws
rest_less vs x ws h =
    let n = length vs - suc (length ws) in
    let e : length vs - length ws ≡ n + 1 = omega (arith, h.1) in
    (ap (λ (k : ℕ). drop k vs) e ∙ sym (drop-drop 1 n vs) ∙ ap (drop 1) h.0, omega (arith, h.1))

module _ (t : Table) (k : ℕ) (vs : List ℤ) where
  abbrev Leaves : Does → Type 0
  Leaves d = DoesIn (λ f. Unit {0}) (λ m ws. Rest vs ws) d

  read_rest : (m : Memory) (v to : ℕ) (ws : List ℤ) → Rest vs ws → Leaves (read_of v to m ws)
  read_rest m v to [] h = tt
  read_rest m v to (x ∷ ws) h = rest_less vs x ws h

  exec_rest : (x : Node) (m : Memory) (ws : List ℤ) → Rest vs ws → Leaves (exec t k x m ws)
  unfolding exec
  exec_rest = by_kind (search read_rest)

-- the values left after a step are the values given less those used
pub step_rest : (t : Table) (most : ℕ) (s : State) (k : ℕ) (vs : List ℤ) (used : ℕ) → used ≤ length vs → (e : Entry) (ns : List ℕ) (z : State) (rest : List ℤ)
    → step t (kept_in t) most s k (drop used vs) ≡ stepped e ns z rest → (drop (length vs - length rest) vs ≡ rest) × (length vs - length rest ≤ length vs)
step_rest t most s k vs used l e ns z rest h =
    let lands : (w : Option ℕ) (m : Memory) (ws : List ℤ) → Below w → Rest vs ws → Rest vs ws = λ w m ws b r. r in
    let first = rest_drop used vs l in
    let r : Rest vs rest =
    subst (StepIn (λ z ws. Rest vs ws)) h
    (step_in t (kept_in t) (λ f. Unit {0}) (λ m ws. Rest vs ws) (λ k p n m ws. exec_rest t k vs (node_at t p n) m ws) (λ m x ws. rest_less vs x ws) (λ z ws. Rest vs ws) most s k (drop used vs)
    first (λ f few u. first) (λ more. (first, lands)) lands)
    in
    (r.0, omega arith)

-- ---- a run

module _ (t : Table) (keep : List ℕ) (ready : Ready t keep) (most : ℕ) where
  turn_good : (room k n : ℕ) (s : State) (vs : List ℤ) (e : Entry) (ns : List ℕ) (z : State) (rest : List ℤ) → Good t s → turn t (kept_in t) most room k n s vs ≡ stepped e ns z rest → Good t z
  unfolding turn
  turn_good room k n s vs e ns z rest g = go (ltb k t.tasks) (ltb room (8 * n + 8)) refl
    where
      go : (a b : Bool) → ltb k t.tasks ≡ a → elim a [ true ↦ elim b [ true ↦ stopped log_full | false ↦ step t (kept_in t) most s k vs ] | false ↦ stopped no_such_task ] ≡ stepped e ns z rest → Good t z
      go true true l h = absurd (subst (λ (r : Step). StepIn (λ z ws. ⊥) r) h tt)
      go true false l h = step_good t keep ready s g most k (ltb-true k t.tasks l) vs e ns z rest h
      go false b l h = absurd (subst (λ (r : Step). StepIn (λ z ws. ⊥) r) h tt)

  -- the state after a run is good
  pub run_good : (vs : List ℤ) (ks : List ℕ) (n : ℕ) (s : State) (rest : List ℤ) (log : List ℕ) → Good t s → Good t (run_from t (kept_in t) most vs ks n s rest log).answer.state
  run_good vs [] n s rest log g = rw (run_end t (kept_in t) most vs n s rest log) g
  run_good vs (k ∷ ks) n s rest log g =
      rw (run_next t (kept_in t) most vs k ks n s rest log) (after (turn t (kept_in t) most (length log) k n s rest) refl (λ z ws l h. run_good vs ks (suc n) z ws l h))
    where
      after : (r : Step) → turn t (kept_in t) most (length log) k n s rest ≡ r
          → ((z : State) (ws : List ℤ) (l : List ℕ) → Good t z → Good t (run_from t (kept_in t) most vs ks (suc n) z ws l).answer.state)
          → Good t (after_step t (kept_in t) most vs ks n s rest log r).answer.state
      after (stopped c) e go = g
      after (stepped e ns z ws) h go = go z ws (sets log (8 * n) (entry_bytes e)) (turn_good (length log) k n s rest e ns z ws g h)
