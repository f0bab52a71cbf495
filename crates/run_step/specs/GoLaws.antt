-- An arc taken: what the code stores is the state that the machine's walk leads to.
use Rattle.std.specs.Prelude.{ℕ, ◌+◌, ◌-◌, ◌*◌, ◌/◌, ◌%◌, ◌<◌, ◌≤◌, ◌≡◌, refl, Bool, true, false, List, [], ◌∷◌, length, get_or, set, drop, ℤ, pos}
use Rattle.std.proofs.Common.{arith, sym, ap, ◌∙◌, length-drop, length-set, get_or-set_other}
use Rattle.std.specs.Prelude.{Option, Some, None, Result, Ok, Err}
use Rattle.std.proofs.lemmas.List.{set-get_or}
use Rattle.std.proofs.Math.Seq.{set_out}
use Rattle.table.specs.Mask.{pick, bit, members}
use Rattle.table.specs.Table.{node_at, arc_to, removed}
use Rattle.table.specs.declared.Node.{Node}
use Rattle.table.specs.declared.Table.{Table}
use Rattle.machine.specs.declared.Frame.{Frame}
use Rattle.machine.specs.declared.State.{State}
use Rattle.machine.specs.State.{is_lost, place, with_frames, with_lost}
use Rattle.machine.specs.Step.{assign, Walk, halts, arrives, landed, memory}
use Rattle.tosses.specs.declared.Stop.{Stop}
use Rattle.tosses.specs.declared.Target.{Target}
use Rattle.tosses.specs.declared.Target.TheVariants.{Kept, Dropped}
use Rattle.tosses.specs.Tosses.{arrived_among, arrived_of, straight_of}
use Rattle.tosses.specs.TossLaws.{Sound, Arrived, arrived}
use Rattle.run_code.specs.Ready.{Placed}
use Rattle.run_code.specs.Code.{byte, bytes_of, node_of, caps_of}
use Rattle.run_code.specs.CodeLaws.{node_of_lem, straight_to, straight_near}
use Rattle.run_state.specs.Good.{frame_in, Shape}
use Rattle.run_state.specs.Arrays.{lost_mark, marks_of, cells_of}
use Rattle.run_state.specs.ArrayLaws.{proc_at_lem, node_at_lem, lost_at, vars_at, node_marks, frame_cells, lost_set, shape_frames, cells_lost}
use Rattle.run_step.specs.declared.Effect.{Effect}
use Rattle.run_step.specs.Effects.{goes_to}
use Rattle.run_step.specs.Steps.{Marked, Held, row_in, arc_in, Going, way_of, gone_of, went_to, stood, Goes}
use Rattle.run_step.specs.Walks.{Met, halted, arrived as came, met, met_of, with_vars, node_in, ending, Within, Rows, walking, arc_halts, arc_over, arc_on, Walks, Walked}

-- ---- where a walk ends says all that is answered and stored

abbrev gone_met : List ℤ → Met → Result ℕ Stop
gone_met vs (halted c) = Err c
gone_met vs (came w m ws) = Ok (length vs - length ws)

abbrev went_met : State → ℕ → Met → State
went_met s g (halted n) = s
went_met s g (came w m ws) = landed s (g / 8) (g % 8) (frame_in s.frames g).proc w m

gone_met_lem : (vs : List ℤ) (w : Walk) → gone_met vs (met w) ≡ gone_of vs w
gone_met_lem vs (halts c) = refl
gone_met_lem vs (arrives w m ws ns) = refl

went_met_lem : (s : State) (g : ℕ) (w : Walk) → went_met s g (met w) ≡ went_to s g w
went_met_lem s g (halts c) = refl
went_met_lem s g (arrives w m ws ns) = refl

module _ (s : State) (h : Shape s) (g : ℕ) (inside : g < 32) (here : is_lost s (g / 8) ≡ false) where
  abbrev own : Frame
  own = frame_in s.frames g

  -- the frame at place g before node n, with the variables l
  abbrev set_to : ℕ → List ℤ → State
  set_to n l = with_frames s (set s.frames g (record { proc = own.proc; node = n; vars = l }))

  -- stored as the code does it: the node, then whether the task is lost
  abbrev marks_to : Bool → ℕ → List ℕ
  marks_to b n = set (set (marks_of s) (64 + g) n) (4 + g / 8) (lost_mark b)

  module _ (l : List ℤ) (long : length l ≡ 16) where
    marks_set : (b : Bool) (n : ℕ) → marks_to b n ≡ marks_of (with_lost (set_to n l) (set s.lost (g / 8) b))
    marks_set b n =
        let fr : Frame = record { proc = own.proc; node = n; vars = l } in
        ap (λ (m : List ℕ). set m (4 + g / 8) (lost_mark b)) (node_marks s h g fr inside refl)
        ∙ lost_set (set_to n l) (shape_frames s h g fr long) (g / 8) b (omega arith)

    abbrev lands_at : Option ℕ → State
    lands_at at = landed s (g / 8) (g % 8) own.proc (node_in at) (with_vars (memory s own) l)

    at_place : place (g / 8) (g % 8) ≡ g
    at_place = omega arith

    pub landed_marks : (at : Option ℕ) → stood (marks_of s) g at ≡ marks_of (lands_at at)
    landed_marks None =
        marks_set true 0
        ∙ ap (λ (x : ℕ). marks_of (with_lost (with_frames s (set s.frames x (record { proc = own.proc; node = 0; vars = l }))) (set s.lost (g / 8) true))) (sym at_place)
    landed_marks (Some n) =
        marks_set false n
        ∙ ap (λ (x : List Bool). marks_of (with_lost (set_to n l) x)) (ap (λ (x : Bool). set s.lost (g / 8) x) (sym here) ∙ set-get_or s.lost (g / 8) false)
        ∙ ap (λ (x : ℕ). marks_of (with_frames s (set s.frames x (record { proc = own.proc; node = n; vars = l })))) (sym at_place)

    pub landed_cells : (at : Option ℕ) → set (cells_of s) g l ≡ cells_of (lands_at at)
    landed_cells None =
        frame_cells s h g (record { proc = own.proc; node = 0; vars = l }) inside
        ∙ ap (λ (x : ℕ). cells_of (with_frames s (set s.frames x (record { proc = own.proc; node = 0; vars = l })))) (sym at_place)
        ∙ sym (cells_lost (with_frames s (set s.frames (place (g / 8) (g % 8)) (record { proc = own.proc; node = 0; vars = l }))) (set s.lost (g / 8) true))
    landed_cells (Some n) =
        frame_cells s h g (record { proc = own.proc; node = n; vars = l }) inside
        ∙ ap (λ (x : ℕ). cells_of (with_frames s (set s.frames x (record { proc = own.proc; node = n; vars = l })))) (sym at_place)

  module _ (vs : List ℤ) (w : Walk) where
    pub stays : (c : Stop) → met w ≡ halted c → Goes vs s g w (Err c) (marks_of s) (cells_of s)
    stays c i =
        let j : went_to s g w ≡ s = sym (went_met_lem s g w) ∙ ap (went_met s g) i in
        record {
          answer = sym (sym (gone_met_lem vs w) ∙ ap (gone_met vs) i);
          marks_are = ap marks_of (sym j);
          cells_are = ap cells_of (sym j);
        }

    pub lands : (l : List ℤ) → length l ≡ 16 → (at : Option ℕ) (u : ℕ) → u ≤ length vs → met w ≡ came (node_in at) (with_vars (memory s own) l) (drop u vs)
        → Goes vs s g w (Ok u) (stood (marks_of s) g at) (set (cells_of s) g l)
    lands l long at u k i =
        let j : went_to s g w ≡ lands_at l long at = sym (went_met_lem s g w) ∙ ap (went_met s g) i in
        let e : u ≡ length vs - length (drop u vs) = omega (arith, length-drop u vs, k) in
        record {
          answer = ap (λ (x : ℕ). Ok x) e ∙ sym (sym (gone_met_lem vs w) ∙ ap (gone_met vs) i);
          marks_are = landed_marks l long at ∙ ap marks_of (sym j);
          cells_are = landed_cells l long at ∙ ap cells_of (sym j);
        }

-- ---- what the arrays hold of the frame at place g

module _ (t : Table) (s : State) (keep : List ℕ) (code : List (List ℕ)) (marks : List ℕ) (marked : Marked t s keep code marks) (g : ℕ) (i : g < 32) where
  pub proc_is : byte marks (32 + g) ≡ (frame_in s.frames g).proc
  proc_is = ap (λ (m : List ℕ). byte m (32 + g)) marked.marks_are ∙ proc_at_lem s marked.good.shape g i

  pub node_is : byte marks (64 + g) ≡ (frame_in s.frames g).node
  node_is = ap (λ (m : List ℕ). byte m (64 + g)) marked.marks_are ∙ node_at_lem s marked.good.shape g i

  pub proc_low : byte marks (32 + g) < 8
  proc_low = rw proc_is (marked.good.procs g)

  pub node_low : byte marks (64 + g) < 32
  node_low = rw node_is (marked.good.nodes g)

  -- what `row_at` asks for
  pub frame_asks : (g < 32) × ((byte marks (32 + g) < 8) × (byte marks (64 + g) < 32))
  frame_asks = (i, (proc_low, node_low))

  pub row_low : row_in marks g < 256
  row_low = omega (arith, proc_low, node_low)

  -- the node before which it stands, and its bytes
  abbrev pub standing : Node
  standing = node_at t (byte marks (32 + g)) (byte marks (64 + g))

  pub bytes_are : get_or code (row_in marks g) [] ≡ bytes_of (caps_of t) (get_or keep (byte marks (32 + g)) 0) standing
  bytes_are = marked.coded (byte marks (32 + g)) (byte marks (64 + g)) proc_low node_low

  pub placed : Placed standing
  placed = marked.ready.nodes (byte marks (32 + g)) (byte marks (64 + g))

module _ (t : Table) (s : State) (keep : List ℕ) (code words : List (List ℕ)) (marks : List ℕ) (cells : List (List ℤ)) (held : Held t s keep code words marks cells) where
  shape : Shape s
  shape = held.marked.good.shape

  pub rows_of : (p : ℕ) → p < 8 → Rows t p code words (32 * p) (get_or keep p 0)
  rows_of p i = record {
    inside = i;
    from = refl;
    nodes = λ n j.
        (λ ι. node_of (held.marked.coded p n i j ι) (held.worded p n i j ι))
        ∙ node_of_lem (caps_of t) (get_or keep p 0) (node_at t p n) (held.marked.ready.nodes p n);
    arcs = λ n j. ap (λ (w : List ℕ). byte w 2) (held.worded p n i j);
    keeps = λ n j. held.marked.ready.keeps p n i j;
  }

  module _ (g : ℕ) (i : g < 32) where
    pub vars_are : get_or cells g [] ≡ (frame_in s.frames g).vars
    vars_are = ap (λ (x : List (List ℤ)). get_or x g []) held.cells_are ∙ vars_at s shape g i

    pub vars_long : length (get_or cells g []) ≡ 16
    vars_long = ap length vars_are ∙ shape.vars g i

    pub arc_is : arc_in words marks g ≡ arc_to (standing t s keep code marks held.marked g i)
    arc_is =
        let m = held.marked in
        ap (λ (w : List ℕ). byte w 2) (held.worded (byte marks (32 + g)) (byte marks (64 + g)) (proc_low t s keep code marks m g i) (node_low t s keep code marks m g i))

    -- the kept node that the arc leads straight to
    pub straight_is : byte (get_or code (row_in marks g) []) 7 ≡ straight_of (arc_in words marks g) (get_or keep (byte marks (32 + g)) 0)
    straight_is =
        let k = get_or keep (byte marks (32 + g)) 0 in
        ap (λ (b : List ℕ). byte b 7) (bytes_are t s keep code marks held.marked g i)
        ∙ straight_to (caps_of t) k (standing t s keep code marks held.marked g i)
        ∙ ap (λ (x : ℕ). straight_of x k) (sym arc_is)

-- ---- an arc taken by the code

-- the procedure of the frame at place g, and the mask of its kept nodes
abbrev pub proc_of : List ℕ → ℕ → ℕ
proc_of marks g = byte marks (32 + g)

-- the variables of the frame at place g, after one is set
abbrev pub vars_of : List (List ℤ) → ℕ → Effect → List ℤ
vars_of cells g o = set (get_or cells g []) o.var o.value

module _ (keep : List ℕ) (code words : List (List ℕ)) (marks : List ℕ) (cells : List (List ℤ)) (vs : List ℤ) (g : ℕ) (o : Effect) (most : ℕ) (y : Result (Target × ℕ) Stop)
    (e : y ≡ arrived_of o.arc (get_or keep (proc_of marks g) 0) vs o.used) (t : Table) (s : State) (going : Going t s keep code words marks cells vs g o) where
  abbrev held : Held t s keep code words marks cells
  held = going.held

  abbrev frame : Frame
  frame = frame_in s.frames g

  abbrev mask : ℕ
  mask = get_or keep frame.proc 0

  in_table : frame.proc < 8
  in_table = held.marked.good.procs g

  is_proc : proc_of marks g ≡ frame.proc
  is_proc = proc_is t s keep code marks held.marked g going.frame

  taken : Arrived o.arc mask vs o.used y
  taken = arrived o.arc mask vs o.used going.within (e ∙ ap (λ (q : ℕ). arrived_of o.arc (get_or keep q 0) vs o.used) is_proc)

  abbrev way : Walk
  way = way_of t most s vs g o

  -- the arc stops the step
  pub arc_stays : (c : Stop) → y ≡ Err c → Goes vs s g way (Err c) marks cells
  arc_stays c n =
      let i = arc_halts t (g / 8) vs frame.proc mask (λ n i. held.marked.ready.keeps frame.proc n in_table i) most (assign o.var o.value (memory s frame)) o.arc o.used y taken c n in
      rw (held.marked.marks_are, held.cells_are) (stays s held.marked.good.shape g going.frame going.here vs way c i)

  module _ (l₀ : List ℤ) (j : l₀ ≡ vars_of cells g o) where
    long : length l₀ ≡ 16
    long = ap length j ∙ length-set (get_or cells g []) o.var o.value ∙ vars_long t s keep code words marks cells held g going.frame

    new_vars : l₀ ≡ set frame.vars o.var o.value
    new_vars = j ∙ ap (λ (l : List ℤ). set l o.var o.value) (vars_are t s keep code words marks cells held g going.frame)

    -- it leads to a kept node, or nowhere
    pub over_lands : (at : Option ℕ) (u : ℕ) → y ≡ Ok (ending at, u) → Goes vs s g way (Ok u) (stood marks g at) (set cells g l₀)
    over_lands at u n =
        let r : Sound mask vs (Ok (ending at, u)) = rw n at taken.sound in
        let i = arc_over t (g / 8) vs frame.proc mask (λ n i. held.marked.ready.keeps frame.proc n in_table i) most (with_vars (memory s frame) (set frame.vars o.var o.value)) o.arc o.used y taken at u n
        ∙ ap (λ (l : List ℤ). came (node_in at) (with_vars (memory s frame) l) (drop u vs)) (sym new_vars) in
        rw (held.marked.marks_are, held.cells_are) (lands s held.marked.good.shape g going.frame going.here vs way l₀ long at u r.1 i)

    here_rows : Rows t (proc_of marks g) code words (32 * proc_of marks g) (get_or keep (proc_of marks g) 0)
    here_rows = rows_of t s keep code words marks cells held (proc_of marks g) (rw is_proc in_table)

    -- it leads to a dropped node
    module _ (n u : ℕ) (b : y ≡ Ok (Dropped n, u)) where
      sound : Sound mask vs (Ok (Dropped n, u))
      sound = rw b at taken.sound

      pub walks : Walks code words (32 * proc_of marks g) (get_or keep (proc_of marks g) 0) n l₀ vs u
      walks = record {
        t = t;
        p = proc_of marks g;
        rows = here_rows;
        place = sound.0.0;
        unkept = ap (λ (q : ℕ). bit n (get_or keep q 0)) is_proc ∙ sound.0.1;
        long = long;
        within = sound.1;
      }

      module _ (z : Result (Option ℕ × ℕ) Stop) (l : List ℤ) (w : Walked code words (32 * proc_of marks g) (get_or keep (proc_of marks g) 0) n l₀ vs u most z l) where
        is_walked : met way ≡ met_of vs (with_vars (memory s frame) l) z
        is_walked =
            arc_on t (g / 8) vs frame.proc mask (λ n i. held.marked.ready.keeps frame.proc n in_table i) most (with_vars (memory s frame) (set frame.vars o.var o.value)) o.arc o.used y taken n u b
            ∙ (λ ι. met (walking t (g / 8) vs (sym is_proc ι) most n (with_vars (memory s frame) (sym new_vars ι)) u))
            ∙ w.ends t (proc_of marks g) (g / 8) (memory s frame) here_rows

        pub walk_stays : (c : Stop) → z ≡ Err c → Goes vs s g way (Err c) marks cells
        walk_stays c k =
            rw (held.marked.marks_are, held.cells_are) (stays s held.marked.good.shape g going.frame going.here vs way c (is_walked ∙ ap (met_of vs (with_vars (memory s frame) l)) k))

        pub walk_lands : (at : Option ℕ) (v : ℕ) → z ≡ Ok (at, v) → Goes vs s g way (Ok v) (stood marks g at) (set cells g l)
        walk_lands at v k =
            let r : Within vs (Ok (at, v)) = rw k at w.within in
            rw (held.marked.marks_are, held.cells_are) (lands s held.marked.good.shape g going.frame going.here vs way l w.long at v r (is_walked ∙ ap (met_of vs (with_vars (memory s frame) l)) k))

-- ---- an arc that leads straight to a kept node

module _ (keep : List ℕ) (code words : List (List ℕ)) (marks : List ℕ) (cells : List (List ℤ)) (vs : List ℤ) (g : ℕ) (o : Effect) (most : ℕ) (t : Table) (s : State)
    (going : Going t s keep code words marks cells vs g o) where
  -- that the task is not lost is stored already
  lost_stored : (n : ℕ) → byte (set marks (64 + g) n) (4 + g / 8) ≡ 0
  lost_stored n =
      let m = going.held.marked in
      get_or-set_other marks (64 + g) (4 + g / 8) n 0 (λ e. omega (arith, e, going.frame))
      ∙ ap (λ (l : List ℕ). byte l (4 + g / 8)) m.marks_are
      ∙ lost_at s m.good.shape (g / 8) (omega (arith, going.frame))
      ∙ ap lost_mark going.here

  not_lost : (n : ℕ) → set (set marks (64 + g) n) (4 + g / 8) 0 ≡ set marks (64 + g) n
  not_lost n = ap (λ (b : ℕ). set (set marks (64 + g) n) (4 + g / 8) b) (sym (lost_stored n)) ∙ set-get_or (set marks (64 + g) n) (4 + g / 8) 0

  pub near_lands : (j : ℕ) → members o.arc ≡ j ∷ [] → bit j (get_or keep (proc_of marks g) 0) ≡ true → (l : List ℤ) → l ≡ vars_of cells g o
      → Goes vs s g (way_of t most s vs g o) (Ok o.used) (set marks (64 + g) j) (set cells g l)
  near_lands j one k l e =
      let mask = get_or keep (proc_of marks g) 0 in
      let y : Result (Target × ℕ) Stop = Ok (Kept j, o.used) in
      let a : y ≡ arrived_of o.arc mask vs o.used = ap (λ (b : Bool). Ok (pick b (Kept j) (Dropped j), o.used)) (sym k) ∙ ap (λ (ms : List ℕ). arrived_among ms mask vs o.used) (sym one) in
      let r = over_lands keep code words marks cells vs g o most y a t s going l e (Some j) o.used refl in
      record { answer = r.answer; marks_are = sym (not_lost j) ∙ r.marks_are; cells_are = r.cells_are }

  pub near_goes : (o.near ≡ 0 → ⊥) → (l : List ℤ) → l ≡ vars_of cells g o → Goes vs s g (way_of t most s vs g o) (Ok o.used) (set marks (64 + g) o.near) (set cells g l)
  near_goes h =
      let n = going.near h in
      near_lands o.near n.0 (ap (λ (q : ℕ). bit o.near (get_or keep q 0)) (proc_is t s keep code marks going.held.marked g going.frame) ∙ n.1)

  -- the same arc, taken by `go_far`
  module _ (far : Effect) (e : far ≡ goes_to o.var o.value o.used o.arc 0) where
    pub far_going : Going t s keep code words marks cells vs g far
    far_going = rw e (record { held = going.held; frame = going.frame; here = going.here; near = λ h. absurd (h refl); within = going.within })

    pub far_goes : (r : Result ℕ Stop) (m : List ℕ) (x : List (List ℤ)) → Goes vs s g (way_of t most s vs g far) r m x → Goes vs s g (way_of t most s vs g o) r m x
    far_goes r m x h = rw e at h

-- ---- the arc of a frame's call

module _ (keep : List ℕ) (code words : List (List ℕ)) (marks : List ℕ) (cells : List (List ℤ)) (vs : List ℤ) (g used most : ℕ) (a : ℕ) (row : a ≡ row_in marks g)
    (o : Effect) (eo : o ≡ goes_to removed (pos 0) used (byte (get_or words a []) 2) (byte (get_or code a []) 7)) where
  abbrev back_of : Effect
  back_of = goes_to removed (pos 0) used (arc_in words marks g) 0

  pub back_effect : (far : Effect) → far ≡ goes_to removed (pos 0) used o.arc 0 → far ≡ back_of
  back_effect far e = e ∙ ap (λ (y : Effect). goes_to removed (pos 0) used y.arc 0) eo ∙ ap (λ (x : ℕ). goes_to removed (pos 0) used (byte (get_or words x []) 2) 0) row

  pub back_lands : (o.near ≡ 0 → ⊥) → (t : Table) (s : State) → Going t s keep code words marks cells vs g back_of
      → Goes vs s g (way_of t most s vs g back_of) (Ok used) (set marks (64 + g) o.near) cells
  back_lands h t s going =
      let mask = get_or keep (proc_of marks g) 0 in
      let e : o.near ≡ straight_of (arc_in words marks g) mask = ap (λ (y : Effect). y.near) eo ∙ ap (λ (x : ℕ). byte (get_or code x []) 7) row ∙ straight_is t s keep code words marks cells going.held g going.frame in
      let n = straight_near (arc_in words marks g) mask (λ z. h (e ∙ z)) in
      let l = get_or cells g [] in
      let u : l ≡ vars_of cells g back_of = sym (set_out l removed (pos 0) (omega (arith, vars_long t s keep code words marks cells going.held g going.frame))) in
      let r = near_lands keep code words marks cells vs g back_of most t s going (straight_of (arc_in words marks g) mask) n.0 n.1 l u in
      record {
        answer = r.answer;
        marks_are = ap (λ (x : ℕ). set marks (64 + g) x) e ∙ r.marks_are;
        cells_are = sym (set-get_or cells g []) ∙ r.cells_are;
      }
