-- A step is what stops it before, or its node executed.
use Rattle.std.specs.Prelude.{ℕ, ◌+◌, ◌-◌, ◌*◌, ◌/◌, ◌<◌, ◌≤◌, ◌≡◌, Bool, List, length, drop, ℤ, Result, Ok, Err}
use Rattle.std.proofs.Common.{arith, sym, ◌∙◌, subst}
use Rattle.std.proofs.Math.Path.{refl, ap}
use Rattle.std.proofs.Math.Bool.{true, false}
use Rattle.std.proofs.Math.Option.{Option, none, some}
use Rattle.table.specs.Mask.{pick}
use Rattle.table.specs.Table.{node_at, arc_to}
use Rattle.table.specs.declared.Table.{Table}
use Rattle.machine.specs.declared.Frame.{Frame}
use Rattle.machine.specs.declared.State.{State}
use Rattle.machine.specs.State.{open_frames, is_lost, place, frame_at, topmost, stands_before, blocked}
use Rattle.machine.specs.Step as step
use Rattle.machine.specs.Step.{task_lost, task_blocked, Does, opens, closes, goes, stops, exec, choose, Kept, kept_in, Walk, halts, arrives, along, Step, stopped, stepped, settled, returned, memory, entry_of, dropping, step_as, step_of, before, unless, step}
use Rattle.tosses.specs.declared.Stop.{Stop}
use Rattle.run_code.specs.Code.{byte}
use Rattle.run_state.specs.Good.{frame_in}
use Rattle.run_state.specs.Arrays.{marks_of, cells_of}
use Rattle.run_step.specs.declared.Stepped.{Stepped}
use Rattle.run_step.specs.declared.Done.{Done}
use Rattle.run_step.specs.Results.{ok_err, ok_same, err_same}
use Rattle.run_step.specs.Steps.{Held, Asked, before_of, top_in, row_in, Stands, Plain, Shown, Did, Steps}
use Rattle.run_step.specs.GoLaws.{proc_is, node_is}
use Rattle.run_step.specs.BlockedLaws.{top_is, top_asks, row_asks}

-- ---- the log's entry names the node that was executed

abbrev pub Names : Frame → Step → Type 0
Names f (stopped c) = Unit {0}
Names f (stepped e ns s vs) = (e.proc ≡ f.proc) × (e.node ≡ f.node)

settled_names : (k : ℕ) (f : Frame) (o : Option ℤ) (s : State) (i j p : ℕ) (w : Walk) → Names f (settled (entry_of k f o) s i j p w)
settled_names k f o s i j p (halts c) = tt
settled_names k f o s i j p (arrives n m vs ns) = (refl, refl)

module _ (t : Table) (keep : Kept) (most : ℕ) (s : State) (k : ℕ) where
  does_names : (f : Frame) (vs : List ℤ) (d : Does) → Names f (step_as t keep most s k f vs d)
  does_names f vs (opens g) = (refl, refl)
  does_names f vs closes =
      let g = frame_at s k (open_frames s k - 2) in
      settled_names k f none (returned s k) k (open_frames s k - 2) g.proc (along (dropping t keep most s k g.proc) (memory s g) (choose (arc_to (node_at t g.proc g.node)) vs))
  does_names f vs (goes arc m ws o) = settled_names k f o s k (open_frames s k - 1) f.proc (along (dropping t keep most s k f.proc) m (choose arc ws))
  does_names f vs (stops c) = tt

  pub step_names : (vs : List ℤ) → Names (topmost s k) (step_of t keep most s k vs)
  unfolding step_of
  step_names vs = does_names (topmost s k) vs (exec t k (stands_before t s k) (memory s (topmost s k)) vs)

-- ---- from its node's arm

-- the log's entry of a node that names it
abbrev pub entry_as : Frame → Done → Stepped
entry_as fr d = record { proc = fr.proc; node = fr.node; shown = d.shown; used = d.used }

module _ (vs : List ℤ) (s : State) (fr : Frame) (marks : List ℕ) (cells : List (List ℤ)) where
  pub stops_by : (z : Step) (c : Stop) → Did vs s z (Err c) marks cells → Steps vs s z (Err c) marks cells
  stops_by (stopped k) c d = record { answer = ap (λ (x : Stop). Err x) (err_same d.answer); marks_are = d.marks_are; cells_are = d.cells_are }
  stops_by (stepped e ns s₂ rest) c d = absurd (ok_err (sym d.answer))

  pub steps_by : (z : Step) (x : Done) → Did vs s z (Ok x) marks cells → Names fr z → Steps vs s z (Ok (entry_as fr x)) marks cells
  steps_by (stopped c) x d n = absurd (ok_err d.answer)
  steps_by (stepped e ns s₂ rest) x d n = record {
    answer = λ i. Ok (record { proc = sym n.0 i; node = sym n.1 i; shown = (ok_same d.answer i).shown; used = (ok_same d.answer i).used });
    marks_are = d.marks_are;
    cells_are = d.cells_are;
  }

-- ---- before it

module _ (t : Table) (s : State) (k : ℕ) where
  -- nothing stops it
  pub record Open : Type 0 where
    pub nothing : before t s k ≡ none
    pub here : is_lost s k ≡ false
    pub free : blocked t s k ≡ false

  pub before_open : before_of (before t s k) ≡ Ok tt → Open
  unfolding before
  before_open e = go (is_lost s k) (blocked t s k) refl refl e
    where
      go : (l b : Bool) → is_lost s k ≡ l → blocked t s k ≡ b → before_of (elim l [ true ↦ some task_lost | false ↦ pick b (some task_blocked) none ]) ≡ Ok tt → Open
      go true b x y h = absurd (ok_err (sym h))
      go false true x y h = absurd (ok_err (sym h))
      go false false x y h = record { nothing = rw (before, x, y) refl; here = x; free = y }

  module _ (vs : List ℤ) (used most : ℕ) (marks : List ℕ) (cells : List (List ℤ)) where
    unless_stops : (o : Option step.Stop) (z : Step) (c : Stop) → before_of o ≡ Err c → marks ≡ marks_of s → cells ≡ cells_of s → Steps vs s (unless o z) (Err c) marks cells
    unless_stops none z c h m e = absurd (ok_err h)
    unless_stops (some x) z c h m e = record { answer = ap (λ (y : Stop). Err y) (sym (err_same h)); marks_are = m; cells_are = e }

    pub before_stops : (c : Stop) → before_of (before t s k) ≡ Err c → marks ≡ marks_of s → cells ≡ cells_of s
        → Steps vs s (step t (kept_in t) most s k (drop used vs)) (Err c) marks cells
    unfolding step
    before_stops c e m x = unless_stops (before t s k) (step_of t (kept_in t) most s k (drop used vs)) c e m x

  pub step_opens : (most : ℕ) (ws : List ℤ) → Open → step t (kept_in t) most s k ws ≡ step_of t (kept_in t) most s k ws
  unfolding step
  step_opens most ws o = ap (λ (x : Option step.Stop). unless x (step_of t (kept_in t) most s k ws)) o.nothing

-- ---- where task i stands

module _ {t : Table} {s : State} {keep : List ℕ} {code words : List (List ℕ)} {marks : List ℕ} {cells : List (List ℤ)} (h : Held t s keep code words marks cells) (i : ℕ) (task : i < t.tasks) where
  pub asked : Asked i code marks
  asked = record { t = t; s = s; keep = keep; marked = h.marked; task = task }

  module _ (f : ℕ) (top : f ≡ top_in marks i) where
    inside : f < 32
    inside = (row_asks asked f top).0

    top_task : f / 8 ≡ i
    top_task = omega (arith, top_asks asked)

    frame_top : frame_in s.frames f ≡ topmost s i
    frame_top = ap (λ (j : ℕ). frame_in s.frames j) (top ∙ top_is t s keep code marks h.marked i task)

    proc_top : byte marks (32 + f) ≡ (topmost s i).proc
    proc_top = proc_is t s keep code marks h.marked f inside ∙ ap (λ (g : Frame). g.proc) frame_top

    node_top : byte marks (64 + f) ≡ (topmost s i).node
    node_top = node_is t s keep code marks h.marked f inside ∙ ap (λ (g : Frame). g.node) frame_top

    pub row_top : (a : ℕ) → a ≡ row_in marks f → a ≡ row_in marks (top_in marks i)
    row_top a e = e ∙ ap (row_in marks) top

    -- nothing stops it
    module _ (o : Open t s i) where
      pub stands_there : (vs : List ℤ) (used a : ℕ) → used ≤ length vs → a ≡ row_in marks f → Stands t s keep code words marks cells vs used f a
      stands_there vs used a u e = record {
        held = h;
        task = rw top_task task;
        top = top ∙ top_is t s keep code marks h.marked i task ∙ λ j. place (sym top_task j) (open_frames s (sym top_task j) - 1);
        row = e ∙ λ j. 32 * proc_is t s keep code marks h.marked f inside j + node_is t s keep code marks h.marked f inside j;
        here = ap (is_lost s) top_task ∙ o.here;
        free = ap (blocked t s) top_task ∙ o.free;
        within = u;
      }

      module _ (vs : List ℤ) (used most : ℕ) (marks₁ : List ℕ) (cells₁ : List (List ℤ)) where
        did_here : (r : Result Done Stop) → Did vs s (step_of t (kept_in t) most s (f / 8) (drop used vs)) r marks₁ cells₁ → Did vs s (step_of t (kept_in t) most s i (drop used vs)) r marks₁ cells₁
        did_here r did = subst (λ (k : ℕ). Did vs s (step_of t (kept_in t) most s k (drop used vs)) r marks₁ cells₁) top_task did

        pub step_stops : (c : Stop) → Did vs s (step_of t (kept_in t) most s (f / 8) (drop used vs)) (Err c) marks₁ cells₁
            → Steps vs s (step t (kept_in t) most s i (drop used vs)) (Err c) marks₁ cells₁
        step_stops c did = rw (step_opens t s i most (drop used vs) o) (stops_by vs s (topmost s i) marks₁ cells₁ (step_of t (kept_in t) most s i (drop used vs)) c (did_here (Err c) did))

        pub step_done : (x : Done) → Did vs s (step_of t (kept_in t) most s (f / 8) (drop used vs)) (Ok x) marks₁ cells₁
            → Steps vs s (step t (kept_in t) most s i (drop used vs)) (Ok (record { proc = byte marks (32 + f); node = byte marks (64 + f); shown = x.shown; used = x.used })) marks₁ cells₁
        step_done x did =
            rw (step_opens t s i most (drop used vs) o, proc_top, node_top)
            (steps_by vs s (topmost s i) marks₁ cells₁ (step_of t (kept_in t) most s i (drop used vs)) x (did_here (Ok x) did) (step_names t (kept_in t) most s i (drop used vs)))

-- ---- the kinds, by the keys of the code's match

abbrev pub Unmatched : ℕ → Type 0
Unmatched k =
    ((((((((Unit {0} × (k ≡ 2 → ⊥)) × (k ≡ 3 → ⊥)) × (k ≡ 4 → ⊥)) × (k ≡ 5 → ⊥)) × (k ≡ 6 → ⊥)) × (k ≡ 7 → ⊥)) × (k ≡ 8 → ⊥)) × (k ≡ 9 → ⊥)) × (k ≡ 12 → ⊥)

pub shown_kind : (k : ℕ) → Unmatched k → 2 ≤ k → k < 12 → Shown k
shown_kind k r l u n =
    let a : 3 ≤ k = omega (arith, r.0.0.0.0.0.0.0.0.1, l) in
    let b : 4 ≤ k = omega (arith, r.0.0.0.0.0.0.0.1, a) in
    let c : 5 ≤ k = omega (arith, r.0.0.0.0.0.0.1, b) in
    let d : 6 ≤ k = omega (arith, r.0.0.0.0.0.1, c) in
    let e : 7 ≤ k = omega (arith, r.0.0.0.0.1, d) in
    let f : 8 ≤ k = omega (arith, r.0.0.0.1, e) in
    let g : 9 ≤ k = omega (arith, r.0.0.1, f) in
    let h : 10 ≤ k = omega (arith, r.0.1, g) in
    omega (arith, h, u, n)

pub plain_kind : (k : ℕ) → Unmatched k → (k ≡ 10 → ⊥) → (k ≡ 11 → ⊥) → Plain k
plain_kind k r a o = record {
  set = r.0.0.0.0.0.0.0.0.1;
  test = r.0.0.0.0.0.0.0.1;
  read = r.0.0.0.0.0.0.1;
  call = r.0.0.0.0.0.1;
  wait = r.0.0.0.0.1;
  signal = r.0.0.0.1;
  send = r.0.0.1;
  receive = r.0.1;
  assert = a;
  out = o;
  return = r.1;
}
