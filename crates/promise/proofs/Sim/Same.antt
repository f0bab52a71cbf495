-- What the proof carries from step to step: a state of the open run and one of the closed run, task by task and frame by frame.
use Rattle.std.specs.Prelude.{ℕ, suc, ◌-◌, ◌<◌, ◌≤◌, ◌≡◌, refl, ◌≢◌, true, false, List, length, set, eqb}
use Rattle.std.proofs.Common.{arith, sym, ◌∙◌, length-set, get_or-set_same, get_or-set_other, eqb-true}
use Rattle.std.proofs.Math.Option.{none, some}
use Rattle.std.proofs.lemmas.Bool.{eqb-false}
use Rattle.table.specs.Cases.{cases}
use Rattle.table.specs.Table.{node_at}
use Rattle.table.specs.declared.Args.{Args}
use Rattle.table.specs.declared.Node.{Node}
use Rattle.table.specs.declared.Node.TheVariants.{Call}
use Rattle.table.specs.declared.Table.{Table}
use Rattle.machine.specs.declared.Frame.{Frame}
use Rattle.machine.specs.declared.State.{State}
use Rattle.machine.specs.State.{no_frame, open_frames, is_lost, place, frame_at, topmost}
use Rattle.machine.specs.Step.{Memory, landed, called, returned}
use Rattle.promise.specs.History.{History, last_setting}
use Rattle.promise.proofs.Sim.Stores.{frame_same, frame_other}
use Rattle.promise.proofs.Sim.Locals.{Last, kept_at, Locals, Shared}

abbrev pub IsCall : Node → Type 0
IsCall x = (q : ℕ) × (xs : Args) × (to : ℕ) × (x ≡ Call q xs to)

-- ---- a state s₁ that comes from s: task k has j + 1 frames open, the topmost f, those below and the other tasks as in s

pub record Touched (s s₁ : State) (k j : ℕ) (f : Frame) : Type 0 where
  pub depths : length s₁.depth ≡ 4
  pub places : length s₁.frames ≡ 32
  pub depth : open_frames s₁ k ≡ suc j
  pub now : frame_at s₁ k j ≡ f
  pub below : (i : ℕ) → i < j → frame_at s₁ k i ≡ frame_at s k i
  pub depth_other : (k' : ℕ) → k' ≢ k → open_frames s₁ k' ≡ open_frames s k'
  pub other : (k' i : ℕ) → k' ≢ k → i < 8 → frame_at s₁ k' i ≡ frame_at s k' i
  pub lost : s₁.lost ≡ s.lost

module _ (s : State) (k j : ℕ) (depths : length s.depth ≡ 4) (places : length s.frames ≡ 32) (k< : k < 4) (j< : j < 8) where
  -- the topmost frame goes on
  pub stays_touch : (p n : ℕ) (m : Memory) → open_frames s k ≡ suc j → Touched s (landed s k j p (some n) m) k j (record { proc = p; node = n; vars = m.vars })
  stays_touch p n m d = record {
    depths = depths;
    places = length-set s.frames (place k j) _ ∙ places;
    depth = d;
    now = frame_same s.frames k j _ _ places k< j<;
    below = λ i l. frame_other s.frames k j k i _ _ j< (omega arith) (λ _ e. absurd (omega arith));
    depth_other = λ k' h. refl;
    other = λ k' i h l. frame_other s.frames k j k' i _ _ j< l (λ e. absurd (h e));
    lost = refl;
  }

  -- a frame is opened
  pub call_touch : (f : Frame) → open_frames s k ≡ j → Touched s (called s k f) k j f
  call_touch f d = record {
    depths = length-set s.depth k _ ∙ depths;
    places = length-set s.frames _ f ∙ places;
    depth = get_or-set_same s.depth k _ 0 (omega arith) ∙ omega arith;
    now = rw d (frame_same s.frames k j f _ places k< j<);
    below = λ i l. rw d (frame_other s.frames k j k i f _ j< (omega arith) (λ _ e. absurd (omega arith)));
    depth_other = λ k' h. get_or-set_other s.depth k k' _ 0 h;
    other = λ k' i h l. rw d (frame_other s.frames k j k' i f _ j< l (λ e. absurd (h e)));
    lost = refl;
  }

  -- the topmost frame is closed, and the one below it goes on
  pub return_touch : (p n : ℕ) (m : Memory) → open_frames s k ≡ suc (suc j) → suc j < 8 → Touched s (landed (returned s k) k j p (some n) m) k j (record { proc = p; node = n; vars = m.vars })
  return_touch p n m d l' = record {
    depths = length-set s.depth k _ ∙ depths;
    places = size;
    depth = get_or-set_same s.depth k _ 0 (omega arith) ∙ omega arith;
    now = frame_same gone k j _ _ (length-set s.frames _ no_frame ∙ places) k< j<;
    below = λ i l. frame_other gone k j k i _ _ j< (omega arith) (λ _ e. absurd (omega arith)) ∙ rw e₁ (frame_other s.frames k (suc j) k i _ _ l' (omega arith) (λ _ e. absurd (omega arith)));
    depth_other = λ k' h. get_or-set_other s.depth k k' _ 0 h;
    other = λ k' i h l. frame_other gone k j k' i _ _ j< l (λ e. absurd (h e)) ∙ rw e₁ (frame_other s.frames k (suc j) k' i _ _ l' l (λ e. absurd (h e)));
    lost = refl;
  }
    where
      e₁ : open_frames s k - 1 ≡ suc j
      e₁ = omega arith

      gone : List Frame
      gone = set s.frames (place k (open_frames s k - 1)) no_frame

      size : length (set gone (place k j) (record { proc = p; node = n; vars = m.vars })) ≡ 32
      size = length-set gone (place k j) _ ∙ length-set s.frames _ no_frame ∙ places

module _ (t : Table) where
  -- the last settings after the nodes executed in a frame of p
  abbrev pub last_of : ℕ → List ℕ → Last
  last_of p hist v = last_setting t p v none hist

  pub record SameFrame (hist : List ℕ) (f f' : Frame) : Type 0 where
    pub proc : f.proc ≡ f'.proc
    pub node : f.node ≡ f'.node
    pub locals : Locals t f.proc f.node (last_of f.proc hist) f.vars f'.vars

  abbrev pub node_of : Frame → Node
  node_of f = node_at t f.proc f.node

  pub record SameTask (h : History) (s s' : State) (k : ℕ) : Type 0 where
    pub depth : open_frames s k ≡ open_frames s' k
    pub some_open : 1 ≤ open_frames s k
    pub few_open : open_frames s k ≤ 8
    pub open_stands : is_lost s k ≡ false
    pub closed_stands : is_lost s' k ≡ false
    pub frame : (j : ℕ) → j < open_frames s k → SameFrame (h k j) (frame_at s k j) (frame_at s' k j)
    pub keeps : kept_at t (topmost s k).proc (topmost s k).node ≡ true
    pub calls : (j : ℕ) → suc j < open_frames s k → IsCall (node_of (frame_at s k j))

  pub record Same (h : History) (s s' : State) : Type 0 where
    pub depths : length s.depth ≡ 4
    pub depths' : length s'.depth ≡ 4
    pub places : length s.frames ≡ 32
    pub places' : length s'.frames ≡ 32
    pub task : (k : ℕ) → k < t.tasks → SameTask h s s' k
    pub shared : Shared t s.sems s.queues s'.sems s'.queues

  -- ---- after a step of task k

  module _ (h h₁ : History) (s s₁ s' s₁' : State) (k j : ℕ) (f f' : Frame) (a : Touched s s₁ k j f) (a' : Touched s' s₁' k j f') where
    -- another task is as it was
    other_task : (k' : ℕ) → k' ≢ k → ((i : ℕ) → h₁ k' i ≡ h k' i) → SameTask h s s' k' → SameTask h₁ s₁ s₁' k'
    other_task k' c e r = record {
      depth = rw (a.depth_other k' c, a'.depth_other k' c) r.depth;
      some_open = rw (a.depth_other k' c) r.some_open;
      few_open = rw (a.depth_other k' c) r.few_open;
      open_stands = rw a.lost r.open_stands;
      closed_stands = rw a'.lost r.closed_stands;
      frame = λ i l. let l' : i < open_frames s k' = rw (a.depth_other k' c) at l in let l₈ : i < 8 = omega (arith, r.few_open) in
          rw (a.other k' i c l₈, a'.other k' i c l₈, e i) (r.frame i l');
      keeps = rw (a.depth_other k' c) (rw (a.other k' (open_frames s k' - 1) c (omega (arith, r.few_open))) r.keeps);
      calls = λ i l. let l' : suc i < open_frames s k' = rw (a.depth_other k' c) at l in
          rw (a.other k' i c (omega (arith, r.few_open))) (r.calls i l');
    }

    this_task : j < 8 → is_lost s k ≡ false → is_lost s' k ≡ false → SameFrame (h₁ k j) f f' → kept_at t f.proc f.node ≡ true
        → ((i : ℕ) → i < j → SameFrame (h₁ k i) (frame_at s k i) (frame_at s' k i)) → ((i : ℕ) → i < j → IsCall (node_of (frame_at s k i)))
        → SameTask h₁ s₁ s₁' k
    this_task j< n n' top keep low calls = record {
      depth = a.depth ∙ sym a'.depth;
      some_open = omega (arith, a.depth);
      few_open = omega (arith, a.depth);
      open_stands = rw a.lost n;
      closed_stands = rw a'.lost n';
      frame = λ i l. cases (eqb i j)
          (λ b. rw (eqb-true i j b) (rw (a.now, a'.now) top))
          (λ b. let l' : i < j = omega (arith, a.depth, eqb-false i j b) in rw (a.below i l', a'.below i l') (low i l'));
      keeps = let z : open_frames s₁ k - 1 ≡ j = omega (arith, a.depth) in rw z (rw a.now keep);
      calls = λ i l. let l' : i < j = omega (arith, a.depth) in rw (a.below i l') (calls i l');
    }

    pub rebuild : Same h s s' → k < t.tasks → j < 8 → ((k' i : ℕ) → k' ≢ k → h₁ k' i ≡ h k' i) → SameFrame (h₁ k j) f f' → kept_at t f.proc f.node ≡ true
        → ((i : ℕ) → i < j → SameFrame (h₁ k i) (frame_at s k i) (frame_at s' k i)) → ((i : ℕ) → i < j → IsCall (node_of (frame_at s k i)))
        → Shared t s₁.sems s₁.queues s₁'.sems s₁'.queues → Same h₁ s₁ s₁'
    rebuild r k< j< e top keep low calls sh = record {
      depths = a.depths;
      depths' = a'.depths;
      places = a.places;
      places' = a'.places;
      task = λ k' l. cases (eqb k' k)
          (λ b. rw (eqb-true k' k b) (this_task j< (r.task k k<).open_stands (r.task k k<).closed_stands top keep low calls))
          (λ b. other_task k' (eqb-false k' k b) (λ i. e k' i (eqb-false k' k b)) (r.task k' l));
      shared = sh;
    }
