-- The closed table of an open table without a fault has no fault.
use Prim.Native.Nat.{ℕ, zero, suc, ◌<◌, ◌≤◌}
use native.Mathlib.Omega.{arith}
use Rattle.std.specs.Prelude.{◌≡◌, Bool, ◌&&◌, [], ◌∷◌, ◌++◌, ◌⊎◌, drop, eqb, ltb}
use Rattle.std.proofs.Math.Path.{refl, ap}
use Rattle.std.proofs.Common.{sym, ◌∙◌, subst, true≢false, inl, inr}
use Rattle.std.proofs.Math.Bool.{true, false}
use Rattle.std.proofs.lemmas.Bool.{false≢true}
use Rattle.std.proofs.Math.ListN.{get_or-eq_default}
use borrow.Author.Tests.{eqb-true, ne_eqb, lt-ltb}
use Rattle.table.specs.Cases.{cases}
use Rattle.table.specs.Mask.{pick, bit, members_from, members, mask_of}
use Rattle.table.specs.MaskLaws.{bit_mask_of_above, members_is}
use Rattle.table.specs.Table.{no_slot, no_queue, outside, task_at, queue_at, proc_at, node_at, removed, arg_places, arg_at, Keeping, always, if_clean, never, absent, calls, uses, keeping, act, no_node, is_absent, arcs, parts, map_args, map_node}
use Rattle.table.specs.NodeLaws.{mapped}
use Rattle.table.specs.declared.Args.{Args}
use Rattle.table.specs.declared.Node.{Node}
use Rattle.table.specs.declared.Node.TheVariants.{Absent, Start, Set, Test, Read, Call, Wait, Signal, Send, Recv, Assert, Out, Return}
use Rattle.table.specs.declared.Queue.{Queue}
use Rattle.table.specs.declared.Proc.{Proc}
use Rattle.table.specs.declared.Table.{Table}
use Rattle.text.proofs.NumberLaws.{by_order, and_left, and_right}
use Rattle.text.specs.Format.{Scope}
use Rattle.text.specs.Reader.{all_below, is_removed, iff, count_right, removed_right}
use Rattle.text.specs.Writer.{scope, every, is_zero, slot_empty, queue_empty, proc_empty, args_empty, proc_tidy, tidy, fault}
use Rattle.text.specs.Right.{Within}
use Rattle.text.specs.Valid.{Named, Arc, NodeValid, ProcValid, Lined, Valid}
use Rattle.text.proofs.PartsLaws.{parts_of}
use Rattle.text.proofs.LinedLaws.{arcs_within}
use Rattle.text.proofs.ValidLaws.{below_all, all_below_lem, all_behind, behind_all, tidy_parts, far_empty, valid_of, of_valid, absent_is, outside_absent, inside_of, start_at, named_open}
use Rattle.closing.specs.Dirty.{Fact, dirty_before, dropped, blank, Dirty, top, sent, Leads, target, through}
use Rattle.closing.specs.Closing.{dirty, is_dirty, kept_by, kept}
use Rattle.closing.specs.Close.{unkept_arcs, new_arc, var_or, closed_node, closed_proc, closed_queue, closed_with, close_table}
use Rattle.closing.proofs.ListLaws.{All, all_nil, all_append}
use Rattle.closing.proofs.DirtyLaws.{dirty_is}
use Rattle.closing.proofs.KeptLaws.{kept_is}
use Rattle.closing.proofs.ArcLaws.{arc_is}
use Rattle.closing.proofs.CloseLaws.{map_at, close_proc, close_params, close_vars, close_nodes, close_drop, kept_node, unkept_node}

-- ---- a variable x that gives way to `-` exactly if b

mark_right : (b : Bool) (x : ℕ) → x < removed → iff (is_removed (pick b removed x)) b ≡ true
mark_right true x l = refl
mark_right false x l = rw (ne_eqb x removed (λ e. omega arith))

mark_named : (c : Scope) (b : Bool) (x : ℕ) → c.closed ≡ true → x < c.vars → Named c (pick b removed x)
mark_named c true x o l = (λ e. o, λ f. absurd (f refl))
mark_named c false x o l = (λ e. o, λ f. l)

-- arguments: each place by itself, and those behind them as before
pub arg_at_lem : (f : ℕ → ℕ → ℕ) (xs : Args) (i : ℕ) → i < 4 → arg_at (map_args f xs) i ≡ f i (arg_at xs i)
arg_at_lem f xs zero l = refl
arg_at_lem f xs (suc zero) l = refl
arg_at_lem f xs (suc (suc zero)) l = refl
arg_at_lem f xs (suc (suc (suc zero))) l = refl
arg_at_lem f xs (suc (suc (suc (suc i)))) l = absurd (omega arith)

args_behind : (f : ℕ → Bool) (len a0 a1 a2 a3 : ℕ) → drop len (arg_places (map_args (λ i v. pick (ltb i len && f i) removed v) (record { len = len; a0 = a0; a1 = a1; a2 = a2; a3 = a3 }))) ≡ drop len (a0 ∷ a1 ∷ a2 ∷ a3 ∷ [])
args_behind f zero a0 a1 a2 a3 = refl
args_behind f (suc zero) a0 a1 a2 a3 = refl
args_behind f (suc (suc zero)) a0 a1 a2 a3 = refl
args_behind f (suc (suc (suc zero))) a0 a1 a2 a3 = refl
args_behind f (suc (suc (suc (suc len)))) a0 a1 a2 a3 = refl

module _ (t : Table) (z : fault t ≡ 0) (o : t.closed ≡ false) where
  v : Valid t
  v = valid_of t z

  abbrev c : Table
  c = close_table t

  node_valid : (p n : ℕ) → is_absent (node_at t p n) ≡ false → NodeValid (scope t (proc_at t p)) n (node_at t p n)
  node_valid p n e = let i = inside_of t z p n e in (v.lines.proc p i.0).node n i.1

  -- ---- queues: a declared one has its place in the list, and only a declared one is sent to

  blank_in : (q : ℕ) → Dirty t (blank q) → q < t.queues
  blank_in q (sent p n x e d) = (rw e at (parts_of t z p n).act).0

  not_blank : (q : ℕ) → t.queues ≤ q → is_dirty (dirty t) (blank q) ≡ false
  not_blank q l = cases (is_dirty (dirty t) (blank q)) (λ e. absurd (omega (arith, blank_in q ((dirty_is t (blank q)).0 e)))) (λ e. e)

  queue_at_lem : (q : ℕ) → queue_at c q ≡ closed_queue t (dirty t) q (queue_at t q)
  unfolding close_table closed_with
  queue_at_lem q = map_at (closed_queue t (dirty t)) q t.queue no_queue no_queue (λ l. by_order q t.queues
      (λ u. absurd (omega (arith, (v.lines.cap q u).0, ap (λ (x : Queue). x.cap) (get_or-eq_default t.queue no_queue l))))
      (λ u. rw (not_blank q u)))

  -- ---- arcs: the targets of every node, and so all that an arc leads to, lie within the procedure

  -- node n of procedure p is kept
  abbrev Stays : ℕ → ℕ → Type 0
  Stays p n = kept (dirty t) p n (node_at t p n) ≡ true

  abbrev arc : ℕ → ℕ → ℕ
  arc p = new_arc t (dirty t) p (unkept_arcs t (dirty t) p)

  none : (P : ℕ → Type 0) → All P (members 0)
  unfolding members_from bit
  none P = all_nil P

  targets : (p n : ℕ) → Within 1 (proc_at t p).nodes (arcs (node_at t p n))
  unfolding parts
  targets p n = cases (is_absent (node_at t p n))
      (λ e. rw (absent_is (node_at t p n) e) (all_append _ (members 0) (members 0) (none _) (none _)))
      (λ e. arcs_within (scope t (proc_at t p)) n (node_at t p n) (node_valid p n e))

  leads_in : (p m k : ℕ) → Within 1 (proc_at t p).nodes (members m) → Leads t p (members m) k → (1 ≤ k) × (k < (proc_at t p).nodes)
  leads_in p m k w (target e) = w k e
  leads_in p m k w (through n u e l) = targets p n k e

  -- a new arc's targets do too, and are kept
  arc_in : (p m : ℕ) → Within 1 (proc_at t p).nodes (members m) → All (λ k. ((1 ≤ k) × (k < (proc_at t p).nodes)) × Stays p k) (members (arc p m))
  arc_in p m w k e = let h = (arc_is t p m k).0 ((members_is k (arc p m)).0 e).0 in (leads_in p m k w h.0, (kept_is t p k).1 h.1)

  -- ---- nodes

  -- where the closed nodes of procedure p stand
  abbrev shut : ℕ → Scope
  shut p = record { closed = true; procs = t.procs; sems = t.sems; queues = t.queues; vars = (proc_at t p).vars; nodes = (proc_at t p).nodes }

  arc_valid : (p m : ℕ) → Arc (scope t (proc_at t p)) m → Arc (shut p) (arc p m)
  arc_valid p m a = (λ k e. (arc_in p m a.0 k e).0, λ f. absurd (true≢false f))

  stays : (p m : ℕ) → Arc (scope t (proc_at t p)) m → All (Stays p) (members (arc p m))
  stays p m a k e = (arc_in p m a.0 k e).1

  one : (p m : ℕ) → Arc (scope t (proc_at t p)) m → All (Stays p) (members (arc p m) ++ members 0)
  one p m a = all_append (Stays p) (members (arc p m)) (members 0) (stays p m a) (none (Stays p))

  -- what is right of a closed node
  record Right (p n : ℕ) (y : Node) : Type 0 where
    valid : NodeValid (shut p) n y
    counts : count_right c y ≡ true
    leads : All (Stays p) (arcs y)
    removals : removed_right c y ≡ true
    behind : args_empty y ≡ true

  absent_right : (p n : ℕ) → 0 < n → Right p n Absent
  unfolding parts
  absent_right p n l = record { valid = (l, refl); counts = refl; leads = all_append (Stays p) (members 0) (members 0) (none (Stays p)) (none (Stays p)); removals = refl; behind = refl }

  module _ (p n : ℕ) (inside : p < t.procs) where
    abbrev s : Scope
    s = scope t (proc_at t p)

    named : (x : ℕ) → Named s x → x < (proc_at t p).vars
    named x h = named_open s x o h

    low : (x : ℕ) → Named s x → x < removed
    low x h = omega (arith, named x h, (v.lines.proc p inside).vars)

    mark_at : (f : Fact) (x : ℕ) → Named s x → Named (shut p) (pick (is_dirty (dirty t) f) removed x)
    mark_at f x h = mark_named (shut p) (is_dirty (dirty t) f) x refl (named x h)

    queue_right : (q x : ℕ) → Named s x → iff (is_removed (pick (is_dirty (dirty t) (blank q)) removed x)) (queue_at c q).blank ≡ true
    queue_right q x h = rw (ap (λ (y : Queue). y.blank) (queue_at_lem q)) (mark_right (is_dirty (dirty t) (blank q)) x (low x h))

    -- the arguments of a call to q
    abbrev passes : ℕ → Args → ℕ → ℕ → ℕ
    passes q xs = var_or t (dirty t) p n (calls q xs)

    call_right : (q : ℕ) (xs : Args) (to : ℕ) → NodeValid s n (Call q xs to) → eqb xs.len (proc_at t q).params ≡ true → args_empty (Call q xs to) ≡ true → Right p n (Call q (map_args (passes q xs) xs) (arc p to))
    unfolding parts
    call_right q xs to h k e =
        let len : xs.len ≡ (proc_at t q).params = eqb-true xs.len (proc_at t q).params k in
        let arg : (i : ℕ) → i < xs.len → arg_at (map_args (passes q xs) xs) i ≡ pick (is_dirty (dirty t) (dropped q i)) removed (arg_at xs i) =
        λ i l. arg_at_lem (passes q xs) xs i (omega (arith, (v.lines.proc q h.1).params)) ∙ rw (lt-ltb i xs.len l)
        in
        record {
          valid = (h.0, h.1, λ i l u. rw (arg i l) (mark_at (dropped q i) (arg_at xs i) (h.2 i l u)), arc_valid p to h.3);
          counts = rw (close_params t q) k;
          leads = one p to h.3;
          removals = all_below_lem xs.len _ (λ i l. rw (arg i l, close_drop t q i (omega arith)) (mark_right (is_dirty (dirty t) (dropped q i)) (arg_at xs i) (low (arg_at xs i) (h.2 i l (omega (arith, (v.lines.proc q h.1).params))))));
          behind = rw (args_behind (λ i. is_dirty (dirty t) (dropped q i)) xs.len xs.a0 xs.a1 xs.a2 xs.a3) e;
        }

    node_right : (x : Node) → kept (dirty t) p n x ≡ true → NodeValid s n x → count_right t x ≡ true → args_empty x ≡ true → Right p n (closed_node t (dirty t) p n (arc p) x)
    unfolding parts closed_node map_node kept
    node_right Absent y h k e = absurd (false≢true y)
    node_right (Start to) y h k e = record { valid = (h.0, arc_valid p to h.1); counts = refl; leads = one p to h.1; removals = refl; behind = refl }
    node_right (Set x i a b to) y h k e = record { valid = (h.0, h.1, h.2, h.3, arc_valid p to h.4); counts = refl; leads = one p to h.4; removals = refl; behind = refl }
    node_right (Test i a b r m) y h k e = record { valid = (h.0, h.1, h.2, h.3, arc_valid p r h.4, arc_valid p m h.5); counts = refl; leads = all_append (Stays p) (members (arc p r)) (members (arc p m)) (stays p r h.4) (stays p m h.5); removals = refl; behind = refl }
    node_right (Read x to) y h k e = absurd (false≢true y)
    node_right (Call q xs to) y h k e = call_right q xs to h k e
    node_right (Wait i to) y h k e = record { valid = (h.0, h.1, arc_valid p to h.2); counts = refl; leads = one p to h.2; removals = refl; behind = refl }
    node_right (Signal i to) y h k e = record { valid = (h.0, h.1, arc_valid p to h.2); counts = refl; leads = one p to h.2; removals = refl; behind = refl }
    node_right (Send q x to) y h k e = record { valid = (h.0, h.1, mark_at (blank q) x h.2, arc_valid p to h.3); counts = refl; leads = one p to h.3; removals = queue_right q x h.2; behind = refl }
    node_right (Recv q x to) y h k e = record { valid = (h.0, h.1, mark_at (blank q) x h.2, arc_valid p to h.3); counts = refl; leads = one p to h.3; removals = queue_right q x h.2; behind = refl }
    node_right (Assert x to) y h k e = record { valid = (h.0, mark_at (dirty_before p n x) x h.1, arc_valid p to h.2); counts = refl; leads = one p to h.2; removals = refl; behind = refl }
    node_right (Out x to) y h k e = record { valid = (h.0, mark_at (dirty_before p n x) x h.1, arc_valid p to h.2); counts = refl; leads = one p to h.2; removals = refl; behind = refl }
    node_right Return y h k e = record { valid = h; counts = refl; leads = all_append (Stays p) (members 0) (members 0) (none (Stays p)) (none (Stays p)); removals = refl; behind = refl }

  -- node 0 is a start, and so kept
  unkept_later : (p n : ℕ) → p < t.procs → kept (dirty t) p n (node_at t p n) ≡ false → 0 < n
  unfolding kept parts
  unkept_later p zero l e = absurd (false≢true (sym e ∙ rw (start_at t v p l).1))
  unkept_later p (suc n) l e = omega arith

  args_empty_lem : (p n : ℕ) → p < t.procs → n < (proc_at t p).nodes → args_empty (node_at t p n) ≡ true
  args_empty_lem p n l m =
      let q = proc_at t p in
      let f : ℕ → Bool = λ j. args_empty (node_at t p j) in
      let h = and_right (every slot_empty (drop q.nodes q.slots)) _ ((tidy_parts t v.unused).5 p l) in
      below_all q.nodes f (and_left (all_below q.nodes f) _ h) n m

  right_at : (p n : ℕ) → p < t.procs → n < (proc_at c p).nodes → Right p n (node_at c p n)
  right_at p n l j =
      let m : n < (proc_at t p).nodes = rw (close_nodes t p) at j in
      cases (kept (dirty t) p n (node_at t p n))
      (λ k. rw (kept_node t p n k) (node_right p n l (node_at t p n) k ((v.lines.proc p l).node n m) (v.counts p n l m) (args_empty_lem p n l m)))
      (λ k. rw (unkept_node t p n k) (absent_right p n (unkept_later p n l k)))

  -- a kept node stands in the closed table
  present : (p n : ℕ) → Stays p n → is_absent (node_at c p n) ≡ false
  unfolding kept closed_node
  present p n k = rw (kept_node t p n k, (mapped (arc p) (var_or t (dirty t) p n (act (node_at t p n))) (node_at t p n)).keeping) (go (keeping (node_at t p n)) k)
    where
      go : (b : Keeping) → kept_by (dirty t) b p n (uses (node_at t p n)) ≡ true → no_node b ≡ false
      go always e = refl
      go if_clean e = refl
      go never e = refl
      go absent e = absurd (false≢true e)

  -- ---- lines

  scope_is : (p : ℕ) → scope c (proc_at c p) ≡ shut p
  unfolding close_table closed_with closed_proc
  scope_is p = ap (scope c) (close_proc t p)

  drop_in : (p : ℕ) → Within 0 (proc_at c p).params (members (proc_at c p).drop)
  unfolding closed_proc
  drop_in p k e = rw (close_params t p) (
    omega arith,
    by_order k (proc_at t p).params (λ l. l)
        (λ l. absurd (true≢false (sym ((members_is k (proc_at c p).drop).0 e).0 ∙ ap (λ (q : Proc). bit k q.drop) (close_proc t p) ∙ bit_mask_of_above (proc_at t p).params k _ l))),
  )

  proc_valid : (p : ℕ) → p < t.procs → ProcValid c p
  proc_valid p l = let h = v.lines.proc p l in record {
    params = rw (close_params t p) h.params;
    vars_low = rw (close_params t p, close_vars t p) h.vars_low;
    vars = rw (close_vars t p) h.vars;
    nodes_low = rw (close_nodes t p) h.nodes_low;
    nodes = rw (close_nodes t p) h.nodes;
    drop = λ _. drop_in p;
    node = λ n m. subst (λ (s : Scope). NodeValid s n (node_at c p n)) (sym (scope_is p)) (right_at p n l m).valid;
  }

  lined : Lined c
  unfolding close_table closed_with
  lined = let h = v.lines in record {
    trap = h.trap;
    tasks_low = h.tasks_low;
    tasks = h.tasks;
    procs_low = h.procs_low;
    procs = h.procs;
    sems = h.sems;
    queues = h.queues;
    top = h.top;
    count = h.count;
    cap = λ i l. rw (queue_at_lem i) (h.cap i l);
    proc = proc_valid;
  }

  -- ---- unused places

  absent_at : (p n : ℕ) → (t.procs ≤ p) ⊎ ((proc_at t p).nodes ≤ n) → is_absent (node_at c p n) ≡ true
  unfolding kept parts
  absent_at p n h = rw (unkept_node t p n (rw (outside_absent t z p n h)))

  queues_empty : every queue_empty (drop t.queues c.queue) ≡ true
  queues_empty = behind_all queue_empty c.queue no_queue t.queues (λ i l.
      let h = all_behind queue_empty t.queue no_queue t.queues i (tidy_parts t v.unused).2 refl l in
      rw (queue_at_lem i, and_left (is_zero (queue_at t i).cap) _ h, not_blank i l))

  procs_empty : every proc_empty (drop t.procs c.proc) ≡ true
  unfolding closed_proc mask_of
  procs_empty = behind_all proc_empty c.proc outside t.procs (λ p l.
      let h = far_empty t v.unused p l in
      let d : (proc_at c p).drop ≡ 0 = ap (λ (q : Proc). q.drop) (close_proc t p) ∙ ap (λ (n : ℕ). mask_of n (λ i. is_dirty (dirty t) (dropped p i))) h.0 in
      rw (close_params t p, h.0, close_vars t p, h.1, close_nodes t p, h.2, d) (behind_all slot_empty (proc_at c p).slots no_slot 0 (λ n _. absent_at p n (inl l))))

  proc_tidy_lem : (p : ℕ) → p < t.procs → proc_tidy true (proc_at c p) ≡ true
  proc_tidy_lem p l = let q = proc_at c p in rw (
    behind_all slot_empty q.slots no_slot q.nodes (λ n m. absent_at p n (inr (rw (close_nodes t p) at m))),
    all_below_lem q.nodes (λ j. args_empty (node_at c p j)) (λ n m. (right_at p n l m).behind),
  )

  tidied : tidy c ≡ true
  unfolding tidy close_table closed_with
  tidied = let h = tidy_parts t v.unused in
      rw (h.0, h.1, queues_empty, procs_empty, all_below_lem t.queues (λ i. true) (λ i l. refl)) (all_below_lem t.procs (λ p. proc_tidy true (proc_at c p)) proc_tidy_lem)

  -- ---- the closed table

  pub closed_valid : Valid (close_table t)
  unfolding close_table closed_with
  closed_valid = record {
    lines = lined;
    dropped = λ _ i l j m. let p = (task_at t i).top in let u : j < (proc_at t p).params = rw (close_params t p) at m in close_drop t p j u ∙ (dirty_is t (dropped p j)).1 (top i u l refl);
    counts = λ p n l m. (right_at p n l m).counts;
    present = λ _ p n l m k d. present p k ((right_at p n l m).leads k d);
    removals = λ _ p n l m. (right_at p n l m).removals;
    unused = tidied;
  }

  pub closed_fault : fault (close_table t) ≡ 0
  closed_fault = of_valid c closed_valid
