-- One step: for each completed step of the open run some tosses let the closed run take a step to a state that agrees.
use Prim.Native.Nat.{ℕ, suc, ◌-◌, ◌<◌}
use native.Mathlib.Omega.{arith}
use Rattle.std.specs.Prelude.{◌≡◌, Bool, eqb, ℤ}
use Rattle.std.proofs.Math.Path.{refl, sym, ap, ap₂, subst}
use Rattle.std.proofs.Common.{◌∙◌, inl}
use Rattle.std.proofs.Math.Bool.{true, false}
use Rattle.std.proofs.Math.Option.{Option, none, some}
use mathlib.Core.List.{List, [], ◌∷◌, ◌++◌}
use borrow.Author.Tests.{eqb-true, eqb-false, leb-false}
use Rattle.table.specs.Cases.{cases}
use Rattle.table.specs.Mask.{pick}
use Rattle.table.specs.Table.{node_at, Act, alone, waits, signals, sends, receives, calls, returns, parts, variable_set, act, arc_to, map_node}
use Rattle.table.specs.declared.Args.{Args}
use Rattle.table.specs.declared.Node.{Node}
use Rattle.table.specs.declared.Node.TheVariants.{Call, Return}
use Rattle.table.specs.declared.Table.{Table}
use Rattle.closing.proofs.ListLaws.{all_nil}
use Rattle.closing.specs.Close.{closed_node, close_table}
use Rattle.closing.proofs.CloseLaws.{kept_node}
use Rattle.machine.specs.declared.Frame.{Frame}
use Rattle.machine.specs.declared.State.{State}
use Rattle.machine.specs.State.{open_frames, is_lost, frame_at, topmost, stands_before, blocked_at, blocked}
use Rattle.machine.specs.Step.{Memory, entering, exec, choose, Walk, halts, arrives, along, Entry, Step, stopped, stepped, task_blocked, landed, settled, called, returned, memory, entry_of, dropping, step_as, step_of, before, unless, step}
use Rattle.machine.proofs.KeptLaws.{all_kept}
use Rattle.promise.specs.History.{History, executed, entered, after_act, noted_after, last_setting}
use Rattle.promise.specs.Demand3.{Toss, Tosses}
use Rattle.promise.proofs.Sim.Wf.{Wf}
use Rattle.promise.proofs.Sim.Locals.{Last, kept_at, mark, marks, marks_append, mark_other, sets_nothing, Locals, still, move, Shared}
use Rattle.promise.proofs.Sim.Exec.{Plain, SameValue, arc_of, closing, Leading, by_to, Matched, Alike, both_go, both_open, both_close, exec_sim}
use Rattle.promise.proofs.Sim.Walk.{WhenArrives, Landed, along_sim}
use Rattle.promise.proofs.Sim.Same.{IsCall, Touched, stays_touch, call_touch, return_touch, last_of, SameFrame, node_of, SameTask, Same, rebuild}
use Rattle.promise.proofs.Sim.Call.{executed_here, executed_other, entered_here, entered_other, first_kept, call_kept, call_arc, args_or, call_locals}
use Rattle.promise.proofs.Sim.Blocked.{same_state, stands_closed, same_blocked}

-- ---- what holds of a step where it completes

abbrev pub WhenStepped : (Entry → List ℕ → State → List ℤ → Type 0) → Step → Type 0
WhenStepped P (stopped c) = Unit {0}
WhenStepped P (stepped e ns s vs) = P e ns s vs

pub record SameEntry (t : Table) (e e' : Entry) : Type 0 where
  pub keeps : kept_at t e.proc e.node ≡ true
  pub task : e.task ≡ e'.task
  pub proc : e.proc ≡ e'.proc
  pub node : e.node ≡ e'.node
  pub value : SameValue e.value e'.value

-- what is noted of a node that stays in its frame
after_plain : (k d n : ℕ) (ns : List ℕ) (h : History) (a : Act) → Plain a → after_act k d n ns h a ≡ executed k (d - 1) (n ∷ ns) h
after_plain k d n ns h alone y = refl
after_plain k d n ns h (waits i) y = refl
after_plain k d n ns h (signals i) y = refl
after_plain k d n ns h (sends q v) y = refl
after_plain k d n ns h (receives q v) y = refl
after_plain k d n ns h (calls q xs) y = absurd y
after_plain k d n ns h returns y = absurd y

module _ (t : Table) (wf : Wf t) (most most' : ℕ) (h : History) (s s' : State) (q : Same t h s s') (k : ℕ) (k< : k < t.tasks) where
  abbrev t' : Table
  t' = close_table t

  -- an open step that leads to s₁, and the closed one
  pub record Done (e : Entry) (ns : List ℕ) (s₁ : State) (vs : List ℤ) : Type 0 where
    pub entry' : Entry
    pub state' : State
    pub tosses : List ℤ
    pub small : Tosses tosses
    pub closes : (ws : List ℤ) → step t' all_kept most' s' k (tosses ++ ws) ≡ stepped entry' [] state' ws
    pub entries : SameEntry t e entry'
    pub states : Same t (noted_after t s e ns h) s₁ state'

  -- ---- the topmost frames

  abbrev d : ℕ
  d = open_frames s k

  abbrev f : Frame
  f = topmost s k

  abbrev f' : Frame
  f' = topmost s' k

  abbrev x : Node
  x = stands_before t s k

  abbrev la : Last
  la = last_of t f.proc (h k (d - 1))

  task : SameTask t h s s' k
  task = q.task k k<

  k<4 : k < 4
  k<4 = omega (arith, wf.tasks)

  top : SameFrame t (h k (d - 1)) f f'
  top = rw (← task.depth) (task.frame (d - 1) (omega (arith, task.some_open)))

  x'_is : stands_before t' s' k ≡ closing t f.proc f.node x
  x'_is = stands_closed t h s s' wf (same_state t h s s' q) k k< task.some_open task.keeps

  same_entry : (o o' : Option ℤ) → SameValue o o' → SameEntry t (entry_of k f o) (entry_of k f' o')
  same_entry o o' w = record { keeps = task.keeps; task = refl; proc = top.proc; node = top.node; value = w }

  -- dropped nodes in the two runs
  abbrev goes_on : ℕ → ℕ → Memory → List ℤ → Walk
  goes_on p = dropping t (kept_at t) most s k p

  abbrev goes_on' : ℕ → ℕ → Memory → List ℤ → Walk
  goes_on' p = dropping t' all_kept most' s' k p

  -- ---- neither task is lost or blocked

  not_stopped : (u : Table) (z : State) → is_lost z k ≡ false → blocked u z k ≡ false → before u z k ≡ none
  unfolding before
  not_stopped u z l b = rw (l, b, before)

  module _ (free : blocked t s k ≡ false) where
    step_is : (us : List ℤ) → step t' all_kept most' s' k us ≡ step_of t' all_kept most' s' k us
    unfolding step
    step_is us = ap (λ o. unless o (step_of t' all_kept most' s' k us))
        (not_stopped t' s' task.closed_stands (sym (same_blocked t h s s' wf (same_state t h s s' q) k k< task.some_open task.keeps) ∙ free))

    -- ---- both go on within frame j of procedure p, by arc a, from the states s₀ and s₀', and show o and o'
    module _ (s₀ s₀' : State) (j p a : ℕ) (g : Memory) (la₀ : Last) (j< : j < 8) (j<d : j < d) (o o' : Option ℤ) (shown : SameValue o o')
        (touch : (n : ℕ) (m : Memory) → Touched s (landed s₀ k j p (some n) m) k j (record { proc = p; node = n; vars = m.vars }))
        (touch' : (n : ℕ) (m : Memory) → Touched s' (landed s₀' k j p (some n) m) k j (record { proc = p; node = n; vars = m.vars }))
        (pre : List ℕ → List ℕ)
        (hist : (ns : List ℕ) → noted_after t s (entry_of k f o) ns h ≡ executed k j (pre ns) h)
        (last : (ns : List ℕ) (v : ℕ) → last_setting t p v none (h k j ++ pre ns) ≡ marks t p la₀ ns v)
        (closes : (us : List ℤ) → step_of t' all_kept most' s' k us ≡ settled (entry_of k f' o') s₀' k j p (along (goes_on' p) g (choose (arc_of t p a) us))) where
      settle_states : (n : ℕ) (m : Memory) (ns : List ℕ) → kept_at t p n ≡ true → Locals t p n (marks t p la₀ ns) m.vars g.vars → Shared t m.sems m.queues g.sems g.queues
          → Same t (executed k j (pre ns) h) (landed s₀ k j p (some n) m) (landed s₀' k j p (some n) g)
      settle_states n m ns keeps r sh = rebuild t h (executed k j (pre ns) h) s _ s' _ k j _ _ (touch n m) (touch' n g) q k< j<
          (λ k' i c. executed_other k j k' i (pre ns) h (λ z. absurd (c z)))
          (record {
            proc = refl;
            node = refl;
            locals = rw (executed_here k j (pre ns) h) (still t p n (marks t p la₀ ns) (last_of t p (h k j ++ pre ns)) m.vars g.vars (last ns) r);
          })
          keeps
          (λ i l. rw (executed_other k j k i (pre ns) h (λ _ z. absurd (omega arith))) (task.frame i (omega arith)))
          (λ i l. task.calls i (omega arith))
          sh

      settle : (w : Walk) → WhenArrives (Landed t wf k p most' a g la₀) w → WhenStepped Done (settled (entry_of k f o) s₀ k j p w)
      settle (halts c) r = tt
      settle (arrives w m vs ns) r = subst (λ z. WhenStepped Done (settled (entry_of k f o) s₀ k j p (arrives z m vs ns))) (sym r.is) (record {
        entry' = entry_of k f' o';
        state' = landed s₀' k j p (some r.at) g;
        tosses = r.tosses;
        small = r.small;
        closes = λ ws. step_is (r.tosses ++ ws) ∙ closes (r.tosses ++ ws) ∙ ap (settled (entry_of k f' o') s₀' k j p) (r.closes ws);
        entries = same_entry o o' shown;
        states = rw (hist ns) (settle_states r.at m ns r.keeps r.locals r.shared);
      })

    -- ---- a node that stays in its frame

    abbrev Stays : List ℤ → Type 0
    Stays vs = Matched t wf k f.proc f.node la (memory s f) (memory s' f') top.locals q.shared x vs

    -- the closed run's step
    stays_closes : (vs : List ℤ) (m : Stays vs) (us : List ℤ)
        → step_of t' all_kept most' s' k us ≡ settled (entry_of k f' m.value') s' k (d - 1) f.proc (along (goes_on' f.proc) m.mem' (choose (arc_of t f.proc m.arc) us))
    unfolding step_of
    stays_closes vs m us =
        ap (λ (z : Node). step_as t' all_kept most' s' k f' us (exec t' k z (memory s' f') us)) x'_is
        ∙ ap (step_as t' all_kept most' s' k f' us) (m.closes us)
        ∙ ap₂ (λ (j p : ℕ). settled (entry_of k f' m.value') s' k j p (along (goes_on' p) m.mem' (choose (arc_of t f.proc m.arc) us))) (ap (λ (z : ℕ). z - 1) (sym task.depth)) (sym top.proc)

    stays_sim : (vs : List ℤ) → Stays vs → WhenStepped Done (step_as t (kept_at t) most s k f vs (exec t k x (memory s f) vs))
    unfolding last_setting
    stays_sim vs m =
        let p = f.proc in
        let n = f.node in
        let j< : d - 1 < 8 = omega (arith, task.some_open, task.few_open) in
        let open_is : d ≡ suc (d - 1) = omega (arith, task.some_open) in
        let on = settle s s' (d - 1) p m.arc m.mem' (mark t p n la) j< (omega (arith, task.some_open)) m.value m.value' m.values
        (λ n₁ m₁. stays_touch s k (d - 1) q.depths q.places k<4 j< p n₁ m₁ open_is)
        (λ n₁ m₁. stays_touch s' k (d - 1) q.depths' q.places' k<4 j< p n₁ m₁ (sym task.depth ∙ open_is))
        (λ ns. n ∷ ns)
        (λ ns. after_plain k d n ns h (act x) m.plain)
        (λ ns v. marks_append t p v none (h k (d - 1)) (n ∷ ns))
        (stays_closes vs m) in
        rw m.opens (on (along (goes_on p) m.mem (choose m.arc vs)) (along_sim t wf k p most most' n m.arc (mark t p n la) m.mem m.mem' vs m.leading m.locals m.shared))

    -- ---- a return

    -- the caller's frame goes on by the arc of its call
    module _ (j : ℕ) (open_is : d ≡ suc (suc j)) where
      abbrev g : Frame
      g = frame_at s k j

      abbrev g' : Frame
      g' = frame_at s' k j

      abbrev la₁ : Last
      la₁ = last_of t g.proc (h k j)

      caller : SameFrame t (h k j) g g'
      caller = task.frame j (omega arith)

      its_call : IsCall (node_of t g)
      its_call = task.calls j (omega arith)

      call_leading : Leading t g.proc g.node (arc_to (node_of t g))
      unfolding parts
      call_leading = by_to t g.proc g.node (arc_to (node_of t g)) refl (rw its_call.3 (rw its_call.3 at (wf.one g.proc g.node)))

      caller_locals : Locals t g.proc call_leading.to la₁ g.vars g'.vars
      unfolding parts
      caller_locals =
          let p = g.proc in
          let n = g.node in
          let l = call_leading in
          let no_set : variable_set (node_at t p n) ≡ none = ap variable_set its_call.3 in
          still t p l.to (mark t p n la₁) la₁ g.vars g'.vars (λ v. sym (mark_other t p n v la₁ (sets_nothing t p n v no_set))) (move t p n l.to la₁ g.vars g'.vars no_set l.into caller.locals)

      abbrev resume : List ℤ → ℕ → ℕ → Frame → ℕ → Step
      resume us j p g a = settled (entry_of k f' none) (returned s' k) k j p (along (goes_on' p) (memory s' g) (choose a us))

      -- the closed run's step
      return_closes : x ≡ Return → (us : List ℤ) → step_of t' all_kept most' s' k us ≡ resume us j g.proc g' (arc_of t g.proc (arc_to (node_of t g)))
      unfolding step_of exec closed_node map_node
      return_closes i us =
          ap (λ (z : Node). step_as t' all_kept most' s' k f' us (exec t' k z (memory s' f') us)) (x'_is ∙ ap (closing t f.proc f.node) i)
          ∙ ap (λ (i : ℕ). resume us i (frame_at s' k i).proc (frame_at s' k i) (arc_to (node_of t' (frame_at s' k i)))) (omega (arith, task.depth))
          ∙ ap₂ (λ (p a : ℕ). resume us j p g' a) (sym caller.proc) (ap₂ (λ (p n : ℕ). arc_to (node_at t' p n)) (sym caller.proc) (sym caller.node)
          ∙ ap arc_to (kept_node t g.proc g.node (call_kept t g.proc g.node its_call)) ∙ call_arc t g.proc g.node (node_of t g) its_call)

    return_sim : x ≡ Return → (vs : List ℤ) → WhenStepped Done (step_as t (kept_at t) most s k f vs (exec t k x (memory s f) vs))
    unfolding exec blocked_at parts
    return_sim i vs =
        let more : 1 < d = leb-false d 1 (sym (ap (λ (z : Node). blocked_at t s k (act z)) i) ∙ free) in
        let j = d - 2 in
        let open_is : d ≡ suc (suc j) = omega arith in
        let p = (g j open_is).proc in
        let a = arc_to (node_of t (g j open_is)) in
        let j< : suc j < 8 = omega (arith, task.few_open) in
        let on = settle (returned s k) (returned s' k) j p a (memory s' (g' j open_is)) (la₁ j open_is) (omega arith) (omega arith) none none (inl refl)
        (λ n₁ m₁. return_touch s k j q.depths q.places k<4 (omega arith) p n₁ m₁ open_is j<)
        (λ n₁ m₁. return_touch s' k j q.depths' q.places' k<4 (omega arith) p n₁ m₁ (sym task.depth ∙ open_is) j<)
        (λ ns. ns)
        (λ ns. ap (λ (z : Node). after_act k d f.node ns h (act z)) i)
        (λ ns v. marks_append t p v none (h k j) ns)
        (return_closes j open_is i) in
        subst (λ (z : Node). WhenStepped Done (step_as t (kept_at t) most s k f vs (exec t k z (memory s f) vs))) (sym i)
        (on (along (goes_on p) (memory s (g j open_is)) (choose a vs))
        (along_sim t wf k p most most' (g j open_is).node a (la₁ j open_is) (memory s (g j open_is)) (memory s' (g' j open_is)) vs (call_leading j open_is) (caller_locals j open_is) q.shared))

    -- ---- a call
    call_below : (i : ℕ) → variable_set x ≡ none → i < d → SameFrame t (entered k d (executed k (d - 1) (f.node ∷ []) h) k i) (frame_at s k i) (frame_at s' k i)
    unfolding last_setting
    call_below i none_set l = rw (entered_other k d k i (executed k (d - 1) (f.node ∷ []) h) (λ _ z. absurd (omega arith))) (cases (eqb i (d - 1))
        (λ b. rw (eqb-true i (d - 1) b) (rw (executed_here k (d - 1) (f.node ∷ []) h) (let r = task.frame (d - 1) (omega arith) in record {
          proc = r.proc;
          node = r.node;
          locals = still t f.proc f.node la (last_of t f.proc (h k (d - 1) ++ (f.node ∷ []))) f.vars (frame_at s' k (d - 1)).vars
              (λ v. marks_append t f.proc v none (h k (d - 1)) (f.node ∷ []) ∙ mark_other t f.proc f.node v la (sets_nothing t f.proc f.node v none_set)) r.locals;
        })))
        (λ b. rw (executed_other k (d - 1) k i (f.node ∷ []) h (λ _. eqb-false i (d - 1) b)) (task.frame i l)))

    call_sim : (c to : ℕ) (xs : Args) → x ≡ Call c xs to → (vs : List ℤ) → WhenStepped Done (step_as t (kept_at t) most s k f vs (exec t k x (memory s f) vs))
    unfolding step_of exec closed_node map_node blocked_at parts
    call_sim c to xs i vs =
        let less : d < 8 = leb-false 8 d (sym (ap (λ (z : Node). blocked_at t s k (act z)) i) ∙ free) in
        let xs' = args_or t c xs in
        subst (λ (z : Node). WhenStepped Done (step_as t (kept_at t) most s k f vs (exec t k z (memory s f) vs))) (sym i) (record {
          entry' = entry_of k f' none;
          state' = called s' k (entering f'.vars c xs');
          tosses = [];
          small = all_nil Toss;
          closes = λ ws. step_is ws ∙ ap (λ (z : Node). step_as t' all_kept most' s' k f' ws (exec t' k z (memory s' f') ws)) (x'_is ∙ ap (closing t f.proc f.node) i);
          entries = same_entry none none (inl refl);
          states = subst (λ (h₁ : History). Same t h₁ (called s k (entering f.vars c xs)) (called s' k (entering f'.vars c xs')))
              (sym (ap (λ (z : Node). after_act k d f.node [] h (act z)) i))
              (rebuild t h (entered k d (executed k (d - 1) (f.node ∷ []) h)) s _ s' _ k d _ _
              (call_touch s k d q.depths q.places k<4 less (entering f.vars c xs) refl)
              (call_touch s' k d q.depths' q.places' k<4 less (entering f'.vars c xs') (sym task.depth))
              q k< less
              (λ k' j b. entered_other k d k' j (executed k (d - 1) (f.node ∷ []) h) (λ z. absurd (b z)) ∙ executed_other k (d - 1) k' j (f.node ∷ []) h (λ z. absurd (b z)))
              (record {
                proc = refl;
                node = refl;
                locals = rw (entered_here k d (executed k (d - 1) (f.node ∷ []) h)) (call_locals t wf f.proc f.node c to xs la f.vars f'.vars i top.locals);
              })
              (first_kept t c (rw i at (wf.declared f.proc f.node)).1)
              (λ j l. call_below j (ap variable_set i) l)
              (λ j l. cases (eqb j (d - 1))
              (λ b. rw (eqb-true j (d - 1) b) (c, xs, to, i))
              (λ b. task.calls j (omega (arith, eqb-false j (d - 1) b))))
              q.shared);
        })

    -- ---- any node
    free_sim : (vs : List ℤ) → WhenStepped Done (step_of t (kept_at t) most s k vs)
    unfolding step_of
    free_sim vs = go (exec_sim t wf k f.proc f.node la (memory s f) (memory s' f') top.locals q.shared x refl task.keeps vs)
      where
        go : Alike t wf k f.proc f.node la (memory s f) (memory s' f') top.locals q.shared x vs → WhenStepped Done (step_as t (kept_at t) most s k f vs (exec t k x (memory s f) vs))
        go (both_go m) = stays_sim vs m
        go (both_open c xs to i) = call_sim c to xs i vs
        go (both_close i) = return_sim i vs

  -- a blocked task stops
  stopped_at : (b : Bool) → blocked t s k ≡ b → before t s k ≡ pick b (some task_blocked) none
  unfolding before
  stopped_at b e = rw (task.open_stands, e, before)

  pub step_sim : (vs : List ℤ) → WhenStepped Done (step t (kept_at t) most s k vs)
  unfolding step
  step_sim vs = cases (blocked t s k)
      (λ b. rw (stopped_at true b) tt)
      (λ b. rw (stopped_at false b) (free_sim b vs))
