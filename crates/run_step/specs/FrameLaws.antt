-- A call opens a frame, and a return closes one: what the arms for them leave.
use Prim.Native.Nat.{ℕ, ◌+◌, ◌-◌, ◌*◌, ◌/◌, ◌%◌, ◌<◌, ◌≤◌}
use Rattle.std.proofs.Common.{arith, ◌∙◌}
use Rattle.std.specs.Prelude.{◌≡◌, refl, true, false, List, [], length, get_or, set, drop, ℤ, pos, Result, Ok, Err}
use Rattle.std.proofs.Math.Path.{sym, ap}
use Rattle.std.proofs.Math.Option.{none, some}
use Rattle.std.proofs.Math.Seq.{set_out}
use Rattle.std.proofs.lemmas.List.{set_comm}
use Rattle.text.specs.Reader.{concat_from}
use Rattle.table.specs.Table.{node_at, arc_to, removed}
use Rattle.table.specs.declared.Args.{Args}
use Rattle.table.specs.declared.Node.{Node}
use Rattle.table.specs.declared.Node.TheVariants.{Return}
use Rattle.table.specs.declared.Table.{Table}
use Rattle.machine.specs.declared.Frame.{Frame}
use Rattle.machine.specs.declared.State.{State}
use Rattle.machine.specs.State.{no_vars, no_frame, with_depth, with_frames, open_frames, place, stands_before}
use Rattle.machine.specs.Step.{entering, Does, opens, closes, exec, choose, kept_in, Walk, halts, arrives, along, walk, Entry, Step, stepped, settled, called, returned, memory, entry_of, step_of}
use Rattle.tosses.specs.declared.Stop.{Stop}
use Rattle.run_code.specs.Code.{byte, node_of}
use Rattle.run_code.specs.CodeLaws.{is_call, is_return}
use Rattle.run_state.specs.Good.{frame_in, Shape}
use Rattle.run_state.specs.Arrays.{marks_of, cells_of}
use Rattle.run_state.specs.ArrayLaws.{depth_at, depth_set, frame_marks, frame_cells, shape_frames, cells_depth}
use Rattle.run_step.specs.declared.Effect.{Effect}
use Rattle.run_step.specs.Results.{ok_err}
use Rattle.run_step.specs.Effects.{goes_to}
use Rattle.run_step.specs.Steps.{Stands, Going, Goes, way_of, gone_of, went_to, Did, gone_done, arc_in}
use Rattle.run_step.specs.GoLaws.{proc_is, node_is, arc_is}
use Rattle.run_step.specs.Standing.{shape_of, task_low, depth_low, depth_high, frame_low, stands_as, used_is, free_call, free_return}
use Rattle.run_step.specs.StepLaws.{Ends, went_shape, way_lands, step_does, did_by}

-- ---- a frame put at place g, and the frames open of task k

abbrev pub reframed : State → ℕ → Frame → ℕ → ℕ → State
reframed s g fr k c = with_depth (with_frames s (set s.frames g fr)) (set s.depth k c)

module _ (s : State) (h : Shape s) (g : ℕ) (fr : Frame) (low : g < 32) (k : ℕ) (task : k < 4) (long : length fr.vars ≡ 16) where
  abbrev marked : List ℕ
  marked = set (set (marks_of s) (32 + g) fr.proc) (64 + g) fr.node

  pub reframed_depth : get_or marked k 0 ≡ open_frames s k
  reframed_depth =
      ap (λ (l : List ℕ). get_or l k 0) (frame_marks s h g fr low) ∙
      depth_at (with_frames s (set s.frames g fr)) (shape_frames s h g fr long) k task

  pub reframed_marks : (c : ℕ) → set marked k c ≡ marks_of (reframed s g fr k c)
  reframed_marks c =
      ap (λ (l : List ℕ). set l k c) (frame_marks s h g fr low) ∙
      depth_set (with_frames s (set s.frames g fr)) (shape_frames s h g fr long) k c task

  pub reframed_cells : (c : ℕ) → set (cells_of s) g fr.vars ≡ cells_of (reframed s g fr k c)
  reframed_cells c = frame_cells s h g fr low ∙ sym (cells_depth (with_frames s (set s.frames g fr)) (set s.depth k c))

entering_long : (l : List ℤ) (q : ℕ) (xs : Args) → length (entering l q xs).vars ≡ 16
unfolding concat_from
entering_long l q xs = refl

-- the arguments in a call's row
abbrev pub args_in : List ℕ → Args
args_in b = record { len = byte b 2; a0 = byte b 3; a1 = byte b 4; a2 = byte b 5; a3 = byte b 6 }

module _ {t : Table} {s : State} {keep : List ℕ} {code words : List (List ℕ)} {marks : List ℕ} {cells : List (List ℤ)} {vs : List ℤ} {used f a : ℕ}
    (z : Stands t s keep code words marks cells vs used f a) (most : ℕ) where
  step_as : (x : Node) (d : Does) → node_of (get_or code a []) (get_or words a []) ≡ x → exec t (f / 8) x (memory s (frame_in s.frames f)) (drop used vs) ≡ d
      → exec t (f / 8) (stands_before t s (f / 8)) (memory s (frame_in s.frames f)) (drop used vs) ≡ d
  step_as x d n e = ap (λ (y : Node). exec t (f / 8) y (memory s (frame_in s.frames f)) (drop used vs)) (stands_as z ∙ n) ∙ e

  -- ---- a call

  module _ (e : byte (get_or code a []) 0 ≡ 5) where
    pub call_room : open_frames s (f / 8) < 8
    call_room = free_call z _ _ _ (is_call (get_or code a []) (get_or words a []) e)

    pub call_low : f + 1 < 32
    call_low = let d = open_frames s (f / 8) in let h : d < 8 = call_room in let l : 0 < d = depth_low z in let k : f / 8 < 4 = task_low z in let p : f ≡ 8 * (f / 8) + (d - 1) = z.top in omega arith

    abbrev entered : Frame
    entered = entering (frame_in s.frames f).vars (byte (get_or code a []) 1) (args_in (get_or code a []))

    entered_long : length entered.vars ≡ 16
    entered_long = entering_long (frame_in s.frames f).vars (byte (get_or code a []) 1) (args_in (get_or code a []))

    -- the marks with the frame put
    abbrev opened : List ℕ
    opened = set (set marks (33 + f) (byte (get_or code a []) 1)) (65 + f) 0

    opened_is : opened ≡ set (set (marks_of s) (32 + (f + 1)) (byte (get_or code a []) 1)) (64 + (f + 1)) 0
    opened_is = let p : 33 + f ≡ 32 + (f + 1) = omega arith in let n : 65 + f ≡ 64 + (f + 1) = omega arith in λ i. set (set (z.held.marked.marks_are i) (p i) (byte (get_or code a []) 1)) (n i) 0

    pub call_depth : get_or opened (f / 8) 0 ≡ open_frames s (f / 8)
    call_depth = ap (λ (l : List ℕ). get_or l (f / 8) 0) opened_is ∙ reframed_depth s (shape_of z) (f + 1) entered call_low (f / 8) (task_low z) entered_long

    called_is : called s (f / 8) entered ≡ reframed s (f + 1) entered (f / 8) (open_frames s (f / 8) + 1)
    called_is =
        let d = open_frames s (f / 8) in
        let p : place (f / 8) d ≡ f + 1 = (let l : 0 < d = depth_low z in let p : f ≡ 8 * (f / 8) + (d - 1) = z.top in omega arith) in
        λ i. reframed s (p i) entered (f / 8) (d + 1)

    step_call : step_of t (kept_in t) most s (f / 8) (drop used vs) ≡ stepped (entry_of (f / 8) (frame_in s.frames f) none) [] (called s (f / 8) entered) (drop used vs)
    unfolding exec
    step_call = step_does z most (opens entered) (step_as _ (opens entered) (is_call (get_or code a []) (get_or words a []) e) refl)

    pub call_did : (l : List ℤ) → l ≡ (entering (frame_in s.frames f).vars 0 (args_in (get_or code a []))).vars
        → Did vs s (step_of t (kept_in t) most s (f / 8) (drop used vs)) (gone_done (Ok used)) (set opened (f / 8) (get_or opened (f / 8) 0 + 1)) (set cells (f + 1) l)
    call_did l h =
        let d = open_frames s (f / 8) in
        rw step_call
        (did_by vs s (stepped (entry_of (f / 8) (frame_in s.frames f) none) [] (called s (f / 8) entered) (drop used vs))
        (gone_done (Ok (length vs - length (drop used vs)))) (called s (f / 8) entered) (gone_done (Ok used))
        (set opened (f / 8) (get_or opened (f / 8) 0 + 1)) (set cells (f + 1) l)
        (record { done = refl; state = refl })
        (ap (λ (u : ℕ). gone_done (Ok u)) (used_is z))
        ((λ i. set (opened_is i) (f / 8) (call_depth i + 1)) ∙ reframed_marks s (shape_of z) (f + 1) entered call_low (f / 8) (task_low z) entered_long (d + 1) ∙ ap marks_of (sym called_is))
        ((λ i. set (z.held.cells_are i) (f + 1) (h i)) ∙ reframed_cells s (shape_of z) (f + 1) entered call_low (f / 8) (task_low z) entered_long (d + 1) ∙ ap cells_of (sym called_is)))

  -- ---- a return: the frame below goes on, then the topmost place is emptied

  module _ (e : byte (get_or code a []) 0 ≡ 12) where
    pub return_deep : 1 < open_frames s (f / 8)
    return_deep = free_return z (is_return (get_or code a []) (get_or words a []) e)

    pub return_next : 1 ≤ f
    return_next = let d = open_frames s (f / 8) in let h : 1 < d = return_deep in let p : f ≡ 8 * (f / 8) + (d - 1) = z.top in omega arith

    -- where the frame below is
    record Below : Type 0 where
      task : (f - 1) / 8 ≡ f / 8
      level : (f - 1) % 8 ≡ open_frames s (f / 8) - 2
      place : place (f / 8) (open_frames s (f / 8) - 2) ≡ f - 1
      next : f ≡ 1 + (f - 1)

    below : Below
    below =
        let d = open_frames s (f / 8) in
        let h : 1 < d = return_deep in let l : d ≤ 8 = depth_high z in let p : f ≡ 8 * (f / 8) + (d - 1) = z.top in
        record { task = omega arith; level = omega arith; place = omega arith; next = omega arith }

    below_low : f - 1 < 32
    below_low = omega (arith, frame_low z)

    below_long : length (frame_in s.frames (f - 1)).vars ≡ 16
    below_long = (shape_of z).vars (f - 1) below_low

    abbrev back : Effect
    back = goes_to removed (pos 0) used (arc_in words marks (f - 1)) 0

    pub going_back : Going t s keep code words marks cells vs (f - 1) back
    going_back = record {
      held = z.held;
      frame = below_low;
      here = ap (λ (k : ℕ). get_or s.lost k false) below.task ∙ z.here;
      near = λ h. absurd (h refl);
      within = z.within;
    }

    -- the arc of the call
    back_arc : arc_in words marks (f - 1) ≡ arc_to (node_at t (frame_in s.frames (f - 1)).proc (frame_in s.frames (f - 1)).node)
    back_arc =
        let m = z.held.marked in
        arc_is t s keep code words marks cells z.held (f - 1) below_low ∙
        (λ i. arc_to (node_at t (proc_is t s keep code marks m (f - 1) below_low i) (node_is t s keep code marks m (f - 1) below_low i)))

    abbrev way : Walk
    way = way_of t most s vs (f - 1) back

    abbrev entry : Entry
    entry = entry_of (f / 8) (frame_in s.frames f) none

    step_back : step_of t (kept_in t) most s (f / 8) (drop used vs) ≡ settled entry (returned s (f / 8)) (f / 8) ((f - 1) % 8) (frame_in s.frames (f - 1)).proc way
    unfolding exec
    step_back =
        let g = frame_in s.frames (f - 1) in
        let arc = arc_to (node_at t g.proc g.node) in
        let at : ℕ → Step = λ j. (let g = frame_in s.frames (place (f / 8) j) in
        settled entry (returned s (f / 8)) (f / 8) j g.proc (along (λ n m ws. walk t (kept_in t) (f / 8) g.proc most n m ws) (memory s g) (choose (arc_to (node_at t g.proc g.node)) (drop used vs)))) in
        let q : place (f / 8) ((f - 1) % 8) ≡ f - 1 = ap (place (f / 8)) below.level ∙ below.place in
        step_does z most closes (step_as Return closes (is_return (get_or code a []) (get_or words a []) e) refl) ∙
        ap at (sym below.level) ∙
        ap (λ (i : ℕ). (let g = frame_in s.frames i in
        settled entry (returned s (f / 8)) (f / 8) ((f - 1) % 8) g.proc (along (λ n m ws. walk t (kept_in t) (f / 8) g.proc most n m ws) (memory s g) (choose (arc_to (node_at t g.proc g.node)) (drop used vs))))) q ∙
        (λ i. settled entry (returned s (f / 8)) (f / 8) ((f - 1) % 8) g.proc
        (along (λ n m ws. walk t (kept_in t) (sym below.task i) g.proc most n m ws)
        (record { vars = sym (set_out g.vars 255 (pos 0) (omega (arith, below_long))) i; sems = s.sems; queues = s.queues }) (choose (sym back_arc i) (drop used vs))))

    -- the state with the topmost place emptied
    abbrev emptied : State → State
    emptied s₁ = reframed s₁ f no_frame (f / 8) (open_frames s (f / 8) - 1)

    frames_back : (fr : Frame) → set (set s.frames (place (f / 8) (open_frames s (f / 8) - 1)) no_frame) (place (f / 8) ((f - 1) % 8)) fr
        ≡ set (set s.frames (place ((f - 1) / 8) ((f - 1) % 8)) fr) f no_frame
    frames_back fr =
        let p : place (f / 8) ((f - 1) % 8) ≡ f - 1 = ap (place (f / 8)) below.level ∙ below.place in
        let q : place ((f - 1) / 8) ((f - 1) % 8) ≡ f - 1 = omega arith in
        let b = below.next in
        (λ i. set (set s.frames (sym z.top i) no_frame) (p i) fr) ∙
        set_comm s.frames f (f - 1) no_frame fr (λ e. omega (arith, e, b)) ∙
        (λ i. set (set s.frames (sym q i) fr) f no_frame)

    end_back : (w : Walk) (u : ℕ) → gone_of vs w ≡ Ok u
        → Ends vs s (settled entry (returned s (f / 8)) (f / 8) ((f - 1) % 8) (frame_in s.frames (f - 1)).proc w) (gone_done (Ok u)) (emptied (went_to s (f - 1) w))
    end_back (halts c) u h = absurd (ok_err (sym h))
    end_back (arrives (some n) m ws ns) u h = record {
      done = ap gone_done h;
      state = λ i. record {
        depth = set s.depth (f / 8) (open_frames s (f / 8) - 1);
        lost = s.lost;
        frames = frames_back (record { proc = (frame_in s.frames (f - 1)).proc; node = n; vars = m.vars }) i;
        sems = m.sems;
        queues = m.queues;
      };
    }
    end_back (arrives none m ws ns) u h = record {
      done = ap gone_done h;
      state = λ i. record {
        depth = set s.depth (f / 8) (open_frames s (f / 8) - 1);
        lost = set s.lost (sym below.task i) true;
        frames = frames_back (record { proc = (frame_in s.frames (f - 1)).proc; node = 0; vars = m.vars }) i;
        sems = m.sems;
        queues = m.queues;
      };
    }

    end_halted : (w : Walk) (c : Stop) → gone_of vs w ≡ Err c
        → Ends vs s (settled entry (returned s (f / 8)) (f / 8) ((f - 1) % 8) (frame_in s.frames (f - 1)).proc w) (Err c) (went_to s (f - 1) w)
    end_halted (halts k) c h = record { done = ap gone_done h; state = refl }
    end_halted (arrives o m ws ns) c h = absurd (ok_err h)

    went_depth : (w : Walk) → open_frames (went_to s (f - 1) w) (f / 8) ≡ open_frames s (f / 8)
    went_depth (halts c) = refl
    went_depth (arrives none m ws ns) = refl
    went_depth (arrives (some n) m ws ns) = refl

    module _ {r : Result ℕ Stop} {marks₁ : List ℕ} {cells₁ : List (List ℤ)} (g : Goes vs s (f - 1) way r marks₁ cells₁) where
      shape₁ : Shape (went_to s (f - 1) way)
      shape₁ = went_shape s (f - 1) way (shape_of z) (way_lands t most s vs (f - 1) back below_long)

      -- the marks with the place emptied
      abbrev shut : List ℕ
      shut = set (set marks₁ (32 + f) 0) (64 + f) 0

      shut_is : shut ≡ set (set (marks_of (went_to s (f - 1) way)) (32 + f) 0) (64 + f) 0
      shut_is = ap (λ (l : List ℕ). set (set l (32 + f) 0) (64 + f) 0) g.marks_are

      pub return_depth : get_or shut (f / 8) 0 ≡ open_frames s (f / 8)
      return_depth = ap (λ (l : List ℕ). get_or l (f / 8) 0) shut_is ∙ reframed_depth (went_to s (f - 1) way) shape₁ f no_frame (frame_low z) (f / 8) (task_low z) refl ∙ went_depth way

      pub return_did : (u : ℕ) → r ≡ Ok u → Did vs s (step_of t (kept_in t) most s (f / 8) (drop used vs)) (gone_done (Ok u)) (set shut (f / 8) (get_or shut (f / 8) 0 - 1)) (set cells₁ f no_vars)
      return_did u n =
          let d = open_frames s (f / 8) in let s₁ = went_to s (f - 1) way in
          rw step_back
          (did_by vs s (settled entry (returned s (f / 8)) (f / 8) ((f - 1) % 8) (frame_in s.frames (f - 1)).proc way) (gone_done (Ok u)) (emptied s₁) (gone_done (Ok u))
          (set shut (f / 8) (get_or shut (f / 8) 0 - 1)) (set cells₁ f no_vars)
          (end_back way u (sym g.answer ∙ n))
          refl
          ((λ i. set (shut_is i) (f / 8) (return_depth i - 1)) ∙ reframed_marks s₁ shape₁ f no_frame (frame_low z) (f / 8) (task_low z) refl (d - 1))
          (ap (λ (l : List (List ℤ)). set l f no_vars) g.cells_are ∙ reframed_cells s₁ shape₁ f no_frame (frame_low z) (f / 8) (task_low z) refl (d - 1)))

      pub return_stop : (c : Stop) → r ≡ Err c → Did vs s (step_of t (kept_in t) most s (f / 8) (drop used vs)) (Err c) marks₁ cells₁
      return_stop c n =
          rw step_back
          (did_by vs s (settled entry (returned s (f / 8)) (f / 8) ((f - 1) % 8) (frame_in s.frames (f - 1)).proc way) (Err c) (went_to s (f - 1) way) (Err c) marks₁ cells₁
          (end_halted way c (sym g.answer ∙ n))
          refl g.marks_are g.cells_are)
