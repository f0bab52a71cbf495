-- Where a task stands, by the arrays: its frame, the node's rows, and what the node's not being blocked says.
use Rattle.std.specs.Prelude.{ℕ, ◌+◌, ◌-◌, ◌*◌, ◌/◌, ◌%◌, ◌<◌, ◌≤◌, ◌≡◌, false, List, [], length, get_or, drop, ℤ, Result}
use Rattle.std.proofs.Common.{arith, sym, ◌∙◌, subst, length-drop}
use Rattle.std.proofs.Math.Path.{ap}
use borrow.Author.Tests.{leb-false, eqb-false}
use Rattle.table.specs.Table.{node_at, queue_at, arc_to, arc_no, act, parts}
use Rattle.table.specs.declared.Args.{Args}
use Rattle.table.specs.declared.Node.{Node}
use Rattle.table.specs.declared.Node.TheVariants.{Absent, Call, Wait, Signal, Send, Recv, Return}
use Rattle.table.specs.declared.Table.{Table}
use Rattle.machine.specs.declared.Frame.{Frame}
use Rattle.machine.specs.declared.State.{State}
use Rattle.machine.specs.State.{open_frames, place, topmost, sem_count, entries_at, stands_before, blocked_at}
use Rattle.tosses.specs.declared.Stop.{Stop}
use Rattle.tosses.specs.Tosses.{straight_of}
use Rattle.run_code.specs.Ready.{Placed, Ready}
use Rattle.run_code.specs.Code.{byte, bytes_of, words_of, node_of, caps_of}
use Rattle.run_code.specs.CodeLaws.{node_of_lem, bytes_long, words_long, name_low, args_few, straight_to, straight_no, straight_near}
use Rattle.run_state.specs.Good.{frame_in, Shape}
use Rattle.run_step.specs.declared.Effect.{Effect}
use Rattle.run_step.specs.Effects.{goes_to}
use Rattle.run_step.specs.Steps.{row_in, Near, Going, Goings, way_of, Goes, Stands, Standing}
use Rattle.run_step.specs.GoLaws.{proc_is, node_is, vars_are, vars_long}

-- the kept node that an arc leads straight to
near_straight : (arc k : ℕ) → Near arc k (straight_of arc k)
near_straight arc k h = straight_near arc k h

-- for every table and state that the arrays hold: what `go_on` leaves
abbrev pub GoesOn : List ℕ → List (List ℕ) → List (List ℕ) → List ℕ → List (List ℤ) → List ℤ → ℕ → ℕ → Effect → Result ℕ Stop → List ℕ → List (List ℤ) → Type 0
GoesOn keep code words marks cells vs most f o r marks₁ cells₁ = (t : Table) (s : State) → Going t s keep code words marks cells vs f o → Goes vs s f (way_of t most s vs f o) r marks₁ cells₁

module _ {t : Table} {s : State} {keep : List ℕ} {code words : List (List ℕ)} {marks : List ℕ} {cells : List (List ℤ)} {vs : List ℤ} {used f a : ℕ}
    (z : Stands t s keep code words marks cells vs used f a) where
  pub shape_of : Shape s
  shape_of = z.held.marked.good.shape

  ready_of : Ready t keep
  ready_of = z.held.marked.ready

  -- ---- its frame

  pub task_low : f / 8 < 4
  task_low = omega (arith, z.task, ready_of.tasks)

  pub depth_low : 0 < open_frames s (f / 8)
  depth_low = z.held.marked.good.opened (f / 8) z.task

  pub depth_high : open_frames s (f / 8) ≤ 8
  depth_high = z.held.marked.good.bounded (f / 8)

  pub level_is : f % 8 ≡ open_frames s (f / 8) - 1
  level_is = let d = open_frames s (f / 8) in let l : 0 < d = depth_low in let h : d ≤ 8 = depth_high in let e : f ≡ 8 * (f / 8) + (d - 1) = z.top in omega arith

  pub place_is : place (f / 8) (f % 8) ≡ f
  place_is = let e : f ≡ 8 * (f / 8) + f % 8 = omega arith in omega arith

  pub frame_low : f < 32
  frame_low = let h : f / 8 < 4 = task_low in omega arith

  pub frame_is : frame_in s.frames f ≡ topmost s (f / 8)
  frame_is = ap (λ (j : ℕ). frame_in s.frames j) z.top

  pub frame_long : length (frame_in s.frames f).vars ≡ 16
  frame_long = shape_of.vars f frame_low

  pub vars_here : get_or cells f [] ≡ (frame_in s.frames f).vars
  vars_here = vars_are t s keep code words marks cells z.held f frame_low

  pub row_wide : length (get_or cells f []) ≡ 16
  row_wide = vars_long t s keep code words marks cells z.held f frame_low

  -- ---- its node's rows

  proc_few : (frame_in s.frames f).proc < 8
  proc_few = z.held.marked.good.procs f

  node_few : (frame_in s.frames f).node < 32
  node_few = z.held.marked.good.nodes f

  pub row_low : a < 256
  row_low = let p = (frame_in s.frames f).proc in let n = (frame_in s.frames f).node in let h : p < 8 = proc_few in let g : n < 32 = node_few in let e : a ≡ 32 * p + n = z.row in omega arith

  -- the row, by the marks
  pub row_is : a ≡ row_in marks f
  row_is =
      let m = z.held.marked in
      z.row ∙ sym (λ i. 32 * proc_is t s keep code marks m f frame_low i + node_is t s keep code marks m f frame_low i)

  pub by_row : (P : ℕ → Type 0) → P a → P (row_in marks f)
  by_row P h = subst P row_is h

  -- what `computed_at` and `shown_at` ask for
  pub rows_here : (a < 256) × ((f < 40) × (length (get_or cells f []) ≡ 16))
  rows_here = (row_low, (omega (arith, frame_low), row_wide))

  -- the node before which it stands
  abbrev node_here : Node
  node_here = node_at t (frame_in s.frames f).proc (frame_in s.frames f).node

  placed : Placed node_here
  placed = ready_of.nodes (frame_in s.frames f).proc (frame_in s.frames f).node

  code_row : get_or code a [] ≡ bytes_of (caps_of t) (get_or keep (frame_in s.frames f).proc 0) node_here
  code_row = ap (λ (i : ℕ). get_or code i []) z.row ∙ z.held.marked.coded (frame_in s.frames f).proc (frame_in s.frames f).node proc_few node_few

  words_row : get_or words a [] ≡ words_of node_here
  words_row = ap (λ (i : ℕ). get_or words i []) z.row ∙ z.held.worded (frame_in s.frames f).proc (frame_in s.frames f).node proc_few node_few

  pub code_long : length (get_or code a []) ≡ 8
  code_long = ap length code_row ∙ bytes_long (caps_of t) (get_or keep (frame_in s.frames f).proc 0) node_here

  pub words_long_here : length (get_or words a []) ≡ 4
  words_long_here = ap length words_row ∙ words_long (caps_of t) 0 node_here

  pub name_here : byte (get_or code a []) 1 < 8
  name_here = rw code_row (name_low (caps_of t) (get_or keep (frame_in s.frames f).proc 0) node_here placed)

  pub args_here : byte (get_or code a []) 0 ≡ 5 → byte (get_or code a []) 2 ≤ 4
  args_here e = subst (λ (b : List ℕ). byte b 0 ≡ 5 → byte b 2 ≤ 4) (sym code_row) (args_few (caps_of t) (get_or keep (frame_in s.frames f).proc 0) node_here placed) e

  pub stands_as : stands_before t s (f / 8) ≡ node_of (get_or code a []) (get_or words a [])
  stands_as =
      ap (λ (g : Frame). node_at t g.proc g.node) (sym frame_is) ∙
      sym (node_of_lem (caps_of t) (get_or keep (frame_in s.frames f).proc 0) node_here placed) ∙
      sym (λ i. node_of (code_row i) (words_row i))

  arc_is : byte (get_or words a []) 2 ≡ arc_to node_here
  arc_is = ap (λ (w : List ℕ). byte w 2) words_row

  -- of no node
  pub arc_absent : node_of (get_or code a []) (get_or words a []) ≡ Absent → byte (get_or words a []) 2 ≡ 0
  unfolding parts
  arc_absent e = arc_is ∙ ap arc_to (ap (λ (g : Frame). node_at t g.proc g.node) frame_is ∙ stands_as ∙ e)

  -- ---- it goes on

  pub going_to : (v : ℕ) (x : ℤ) (u : ℕ) → u ≤ length vs → Going t s keep code words marks cells vs f (goes_to v x u (byte (get_or words a []) 2) (byte (get_or code a []) 7))
  going_to v x u h = record {
    held = z.held;
    frame = frame_low;
    here = z.here;
    near =
        let kp = get_or keep (frame_in s.frames f).proc 0 in
        let n : byte (get_or code a []) 7 ≡ straight_of (arc_to node_here) kp = ap (λ (b : List ℕ). byte b 7) code_row ∙ straight_to (caps_of t) kp node_here in
        rw (n, arc_is) (near_straight (arc_to node_here) kp);
    within = h;
  }

  pub going_no : (v : ℕ) (x : ℤ) (u : ℕ) → u ≤ length vs → byte (get_or code a []) 0 ≡ 3
      → Going t s keep code words marks cells vs f (goes_to v x u (byte (get_or words a []) 3) (byte (get_or code a []) 6))
  going_no v x u h e = record {
    held = z.held;
    frame = frame_low;
    here = z.here;
    near =
        let kp = get_or keep (frame_in s.frames f).proc 0 in
        let k : byte (bytes_of (caps_of t) kp node_here) 0 ≡ 3 = sym (ap (λ (b : List ℕ). byte b 0) code_row) ∙ e in
        let n : byte (get_or code a []) 6 ≡ straight_of (arc_no node_here) kp = ap (λ (b : List ℕ). byte b 6) code_row ∙ straight_no (caps_of t) kp node_here k in
        let w : byte (get_or words a []) 3 ≡ arc_no node_here = ap (λ (w : List ℕ). byte w 3) words_row in
        rw (n, w) (near_straight (arc_no node_here) kp);
    within = h;
  }

  -- what `go_on` leaves, handed such an effect
  module _ (most : ℕ) {r : Result ℕ Stop} {marks₁ : List ℕ} {cells₁ : List (List ℤ)} {o : Effect} (g : GoesOn keep code words marks cells vs most f o r marks₁ cells₁) (v : ℕ) (x : ℤ) (u : ℕ) (h : u ≤ length vs) where
    pub goes_to_lem : o ≡ goes_to v x u (byte (get_or words a []) 2) (byte (get_or code a []) 7)
        → Goes vs s f (way_of t most s vs f (goes_to v x u (byte (get_or words a []) 2) (byte (get_or code a []) 7))) r marks₁ cells₁
    goes_to_lem e = subst (λ (y : Effect). GoesOn keep code words marks cells vs most f y r marks₁ cells₁) e g t s (going_to v x u h)

    pub goes_no : byte (get_or code a []) 0 ≡ 3 → o ≡ goes_to v x u (byte (get_or words a []) 3) (byte (get_or code a []) 6)
        → Goes vs s f (way_of t most s vs f (goes_to v x u (byte (get_or words a []) 3) (byte (get_or code a []) 6))) r marks₁ cells₁
    goes_no k e = subst (λ (y : Effect). GoesOn keep code words marks cells vs most f y r marks₁ cells₁) e g t s (going_no v x u h k)

  -- the values used
  pub used_is : used ≡ length vs - length (drop used vs)
  used_is = let h : used ≤ length vs = z.within in let e : length (drop used vs) ≡ length vs - used = length-drop used vs in omega arith

  -- ---- it is not blocked

  free_as : (x : Node) → node_of (get_or code a []) (get_or words a []) ≡ x → blocked_at t s (f / 8) (act x) ≡ false
  free_as x e = ap (λ (y : Node). blocked_at t s (f / 8) (act y)) (sym (stands_as ∙ e)) ∙ z.free

  pub free_call : (q : ℕ) (xs : Args) (to : ℕ) → node_of (get_or code a []) (get_or words a []) ≡ Call q xs to → open_frames s (f / 8) < 8
  unfolding blocked_at parts
  free_call q xs to e = leb-false 8 (open_frames s (f / 8)) (free_as (Call q xs to) e)

  pub free_wait : (i to : ℕ) → node_of (get_or code a []) (get_or words a []) ≡ Wait i to → sem_count s.sems i ≡ 0 → ⊥
  unfolding blocked_at parts
  free_wait i to e = eqb-false (sem_count s.sems i) 0 (free_as (Wait i to) e)

  pub free_signal : (i to : ℕ) → node_of (get_or code a []) (get_or words a []) ≡ Signal i to → sem_count s.sems i < 255
  unfolding blocked_at parts
  free_signal i to e = leb-false 255 (sem_count s.sems i) (free_as (Signal i to) e)

  pub free_send : (q v to : ℕ) → node_of (get_or code a []) (get_or words a []) ≡ Send q v to → (entries_at s.queues q).len < (queue_at t q).cap
  unfolding blocked_at parts
  free_send q v to e = leb-false (queue_at t q).cap (entries_at s.queues q).len (free_as (Send q v to) e)

  pub free_recv : (q v to : ℕ) → node_of (get_or code a []) (get_or words a []) ≡ Recv q v to → (entries_at s.queues q).len ≡ 0 → ⊥
  unfolding blocked_at parts
  free_recv q v to e = eqb-false (entries_at s.queues q).len 0 (free_as (Recv q v to) e)

  pub free_return : node_of (get_or code a []) (get_or words a []) ≡ Return → 1 < open_frames s (f / 8)
  unfolding blocked_at parts
  free_return e = leb-false (open_frames s (f / 8)) 1 (free_as Return e)

-- ---- some table and state: what `go_on` asks for

module _ {keep : List ℕ} {code words : List (List ℕ)} {marks : List ℕ} {cells : List (List ℤ)} {vs : List ℤ} {used f a : ℕ}
    (p : Standing keep code words marks cells vs used f a) (o : Effect) (v : ℕ) (x : ℤ) (u : ℕ) (h : u ≤ length vs) where
  pub goings_to : o ≡ goes_to v x u (byte (get_or words a []) 2) (byte (get_or code a []) 7) → Goings keep code words marks cells vs f o
  goings_to e = record { t = p.t; s = p.s; going = subst (λ (y : Effect). Going p.t p.s keep code words marks cells vs f y) (sym e) (going_to p.stands v x u h) }

  pub goings_no : byte (get_or code a []) 0 ≡ 3 → o ≡ goes_to v x u (byte (get_or words a []) 3) (byte (get_or code a []) 6) → Goings keep code words marks cells vs f o
  goings_no k e = record { t = p.t; s = p.s; going = subst (λ (y : Effect). Going p.t p.s keep code words marks cells vs f y) (sym e) (going_no p.stands v x u h k) }
