-- The computed set of dirty facts is the least solution: it holds a fact if and only if the fact is `Dirty`. So for every table, valid or not.
use Prim.Native.Nat.{ℕ, zero, suc, ◌+◌, ◌<◌}
use Rattle.std.proofs.Common.{arith}
use Rattle.std.proofs.Math.Nat.{add-zero, zero-add, add-suc, suc-add}
use Rattle.std.proofs.Math.Decide.{ℕ_discrete}
use Rattle.std.proofs.Math.Path.{◌≡◌, refl, ap}
use Rattle.std.specs.Prelude.{◌≢◌, ◌↔◌, true, false, length, get_or, ltb}
use Rattle.std.proofs.lemmas.Bool.{false≢true}
use Rattle.std.proofs.Math.Option.{Option, none, some}
use mathlib.Core.List.Memᴰ
use mathlib.Core.List.{List, [], ◌∷◌, ◌++◌, map, Memᴰ}
use Rattle.std.proofs.Math.ListN.{get_elem?, get_or-eq_default}
use borrow.Author.Tests.{eqb-false, ne_eqb, ltb-true, ltb-false, lt-ltb}
use Rattle.table.specs.Cases.{cases}
use Rattle.table.specs.Mask.{pick, bit, members_from}
use Rattle.table.specs.Table.{node_at, proc_at, arg_list, uses, variable_set, arcs, no_slot, outside, Keeping, always, if_clean, never, absent, keeping, Act, alone, waits, signals, sends, receives, calls, returns, act, parts}
use Rattle.table.specs.declared.Args.{Args}
use Rattle.table.specs.declared.Node.{Node}
use Rattle.table.specs.declared.Node.TheVariants.{Absent}
use Rattle.table.specs.declared.Slot.{Slot}
use Rattle.table.specs.declared.Proc.{Proc}
use Rattle.table.specs.declared.Table.{Table}
use Rattle.table.specs.Reach.{Reach, source, edge, mem}
use Rattle.table.specs.ReachLaws.{closure_sound, closure_complete}
use Rattle.closing.specs.Dirty.{Fact, setting_at, entry_at, dirty_before, dropped, blank, Fact-discrete, Clear, here, on, Dirty, by_read, by_set, by_recv, by_entry, from_node, from_entry, top, passed, sent}
use Rattle.closing.specs.Closing.{Edge, decided, same, for_each, up_to, over_nodes, sets_var, passed_to, set_edges, act_edges, node_edges, after_edges, along_edges, path_edges, entry_edges, edges, read_source, top_source, sources, dirty, is_dirty}
use Rattle.closing.proofs.ListLaws.{All, all_nil, all_cons, all_append, all_map, all_each, up_to_lt, in_each, in_up_to}

-- ---- the test of equality

pub same_eq : (f g : Fact) → same f g ≡ true → f ≡ g
unfolding same
same_eq f g = go (Fact-discrete ℕ_discrete f g)
  where
    go : (d : Dec (f ≡ g)) → decided d ≡ true → f ≡ g
    go (yes p) e = p
    go (no q) e = absurd (false≢true e)

pub same_refl : (f : Fact) → same f f ≡ true
unfolding same
same_refl f = go (Fact-discrete ℕ_discrete f f)
  where
    go : (d : Dec (f ≡ f)) → decided d ≡ true
    go (yes p) = refl
    go (no q) = absurd (q refl)

-- ---- the test of a setting

sets_var_false : (s : Option ℕ) (v : ℕ) → sets_var s v ≡ false → s ≢ some v
sets_var_false none v e h = let z : ◌≡◌ {A = ℕ} 0 1 = cc in absurd (omega arith)
sets_var_false (some w) v e h = eqb-false w v e cc

pub sets_var_other : (s : Option ℕ) (v : ℕ) → s ≢ some v → sets_var s v ≡ false
sets_var_other none v h = refl
sets_var_other (some w) v h = ne_eqb w v (λ e. h (ap some e))

module _ (t : Table) where
  -- ---- every edge is a rule

  -- an edge takes what is dirty to what is dirty
  abbrev Keeps : Edge → Type 0
  Keeps e = Dirty t e.0 → Dirty t e.1

  -- a clear path, longer by one arc at its end
  clear_on : {p v n m k : ℕ} → Clear t p v m n → variable_set (node_at t p n) ≢ some v → Memᴰ k (arcs (node_at t p n)) → Clear t p v m k
  clear_on {k = k} here s a = on k s a here
  clear_on (on j s' a' c) s a = on j s' a' (clear_on c s a)

  -- a dirty variable goes along an arc of a node that does not set it
  pub use_on : {p n v k : ℕ} → variable_set (node_at t p n) ≢ some v → Memᴰ k (arcs (node_at t p n)) → Dirty t (dirty_before p n v) → Dirty t (dirty_before p k v)
  use_on s a (from_node m j l e b c d) = from_node m j l e b (clear_on c s a) d
  use_on s a (from_entry l c d) = from_entry l (clear_on c s a) d

  -- the arguments us of a call, which begin at parameter k
  passed_sound : (p n q k : ℕ) (xs : Args) (us : List ℕ) → act (node_at t p n) ≡ calls q xs → ((i : ℕ) → get_elem? (arg_list xs) (k + i) ≡ get_elem? us i) → All Keeps (passed_to t p n q k us)
  unfolding passed_to
  passed_sound p n q k xs [] e h = all_nil Keeps
  passed_sound p n q k xs (u ∷ us) e h = all_append Keeps (pick (ltb k (proc_at t q).params) ((dirty_before p n u, dropped q k) ∷ []) []) (passed_to t p n q (suc k) us) first
      (passed_sound p n q (suc k) xs us e (λ i. rw suc-add (rw (← add-suc k i) (h (suc i)))))
    where
      first : All Keeps (pick (ltb k (proc_at t q).params) ((dirty_before p n u, dropped q k) ∷ []) [])
      first = cases (ltb k (proc_at t q).params)
          (λ l. rw l (all_cons Keeps (dirty_before p n u, dropped q k) [] (λ d. passed p n u xs (ltb-true k _ l) e (rw add-zero at (h zero)) d) (all_nil Keeps)))
          (λ l. rw l (all_nil Keeps))

  set_sound : (p n : ℕ) (s : Option ℕ) → variable_set (node_at t p n) ≡ s → All Keeps (set_edges p n s (uses (node_at t p n)))
  unfolding set_edges
  set_sound p n none e = all_nil Keeps
  set_sound p n (some v) e = all_map Keeps (λ u. (dirty_before p n u, setting_at p n)) (uses (node_at t p n)) (λ u m d. by_set v u e m d)

  act_sound : (p n : ℕ) (a : Act) → act (node_at t p n) ≡ a → All Keeps (act_edges t p n a)
  unfolding act_edges
  act_sound p n alone e = all_nil Keeps
  act_sound p n (waits s) e = all_nil Keeps
  act_sound p n (signals s) e = all_nil Keeps
  act_sound p n (sends q v) e = all_cons Keeps (dirty_before p n v, blank q) [] (λ d. sent p n v e d) (all_nil Keeps)
  act_sound p n (receives q v) e = all_cons Keeps (blank q, setting_at p n) [] (λ d. by_recv q v e d) (all_nil Keeps)
  act_sound p n (calls q xs) e = passed_sound p n q zero xs (arg_list xs) e (λ i. rw zero-add)
  act_sound p n returns e = all_nil Keeps

  node_sound : (p n : ℕ) → All Keeps (node_edges t p n (node_at t p n))
  unfolding node_edges
  node_sound p n = all_append Keeps _ _ (set_sound p n (variable_set (node_at t p n)) refl) (act_sound p n (act (node_at t p n)) refl)

  after_sound : (p n : ℕ) (s : Option ℕ) → variable_set (node_at t p n) ≡ s → All Keeps (after_edges (proc_at t p).vars p n s (arcs (node_at t p n)))
  unfolding after_edges
  after_sound p n none e = all_nil Keeps
  after_sound p n (some v) e = cases (ltb v (proc_at t p).vars)
      (λ l. rw l (all_map Keeps (λ m. (setting_at p n, dirty_before p m v)) (arcs (node_at t p n)) (λ m k d. from_node n m (ltb-true v _ l) e k here d)))
      (λ l. rw l (all_nil Keeps))

  along_sound : (p n v : ℕ) → All Keeps (along_edges p n (variable_set (node_at t p n)) (arcs (node_at t p n)) v)
  unfolding along_edges
  along_sound p n v = cases (sets_var (variable_set (node_at t p n)) v)
      (λ k. rw (k, along_edges) (all_nil Keeps))
      (λ k. rw (k, along_edges) (all_map Keeps (λ m. (dirty_before p n v, dirty_before p m v)) (arcs (node_at t p n)) (λ m j d. use_on (sets_var_false (variable_set (node_at t p n)) v k) j d)))

  path_sound : (p n : ℕ) → All Keeps (path_edges t p n)
  unfolding path_edges
  path_sound p n = all_append Keeps _ _ (after_sound p n (variable_set (node_at t p n)) refl) (all_each Keeps _ _ (λ v _. along_sound p n v))

  entry_sound : (p : ℕ) → All Keeps (entry_edges t p)
  unfolding entry_edges
  entry_sound p = all_append Keeps _ _
      (all_map Keeps (λ i. (dropped p i, entry_at p i)) (up_to (proc_at t p).params) (λ i m d. by_entry d))
      (all_map Keeps (λ v. (entry_at p v, dirty_before p zero v)) (up_to (proc_at t p).vars) (λ v m d. from_entry (up_to_lt (proc_at t p).vars v m) here d))

  edges_sound : All Keeps (edges t)
  unfolding edges over_nodes
  edges_sound = all_append Keeps _ _
      (all_each Keeps _ _ (λ p _. all_each Keeps _ _ (λ n _. all_append Keeps _ _ (node_sound p n) (path_sound p n))))
      (all_each Keeps _ _ (λ p _. entry_sound p))

  read_sound : (p n : ℕ) (k : Keeping) → keeping (node_at t p n) ≡ k → All (Dirty t) (read_source p n k)
  unfolding read_source
  read_sound p n always e = all_nil (Dirty t)
  read_sound p n if_clean e = all_nil (Dirty t)
  read_sound p n never e = all_cons (Dirty t) (setting_at p n) [] (by_read e) (all_nil (Dirty t))
  read_sound p n absent e = all_nil (Dirty t)

  sources_sound : All (Dirty t) (sources t)
  unfolding sources over_nodes top_source
  sources_sound = all_append (Dirty t) _ _
      (all_each (Dirty t) _ _ (λ k m. all_map (Dirty t) _ _ (λ i j. top k (up_to_lt _ i j) (up_to_lt _ k m) refl)))
      (all_each (Dirty t) _ _ (λ p _. all_each (Dirty t) _ _ (λ n _. read_sound p n (keeping (node_at t p n)) refl)))

  -- what is reached is dirty
  reach_dirty : (f : Fact) → Reach (sources t) (edges t) f → Dirty t f
  reach_dirty f (source m) = sources_sound f m
  reach_dirty f (edge {a = g} m r) = edges_sound (g, f) m (reach_dirty g r)

  -- what the computed set holds is dirty
  pub dirty_sound : (f : Fact) → mem same f (dirty t) ≡ true → Dirty t f
  unfolding dirty
  dirty_sound f h = reach_dirty f (closure_sound same same_eq same_refl (sources t) (edges t) f h)

  -- ---- every rule is an edge

  -- what a function of the nodes gives at a node that is present, it gives over the table
  in_over : {B : Type 0} (f : ℕ → ℕ → List B) (p n : ℕ) (y : B) → (node_at t p n ≡ Absent → f p n ≡ []) → Memᴰ y (f p n) → Memᴰ y (over_nodes t f)
  unfolding over_nodes
  in_over f p n y empty m = cases (ltb p (length t.proc))
      (λ k. node (ltb-true p _ k))
      (λ k. gone (ap (λ (r : Proc). (get_or r.slots n no_slot).node) (get_or-eq_default t.proc outside (ltb-false p _ k))))
    where
      gone : {C : Type 0} → node_at t p n ≡ Absent → C
      gone e = absurd (Memᴰ.not-nil (rw (empty e) at m))

      node : p < length t.proc → Memᴰ y (over_nodes t f)
      node l = cases (ltb n (length (proc_at t p).slots))
          (λ k. in_each _ p y (up_to (length t.proc)) (in_up_to p _ l) (in_each (f p) n y (up_to (length (proc_at t p).slots)) (in_up_to n _ (ltb-true n _ k)) m))
          (λ k. gone (ap (λ (x : Slot). x.node) (get_or-eq_default (proc_at t p).slots no_slot (ltb-false n _ k))))

  -- an absent node has no edges
  path_empty : (p n : ℕ) → node_at t p n ≡ Absent → path_edges t p n ≡ []
  unfolding path_edges after_edges parts members_from bit for_each along_edges
  path_empty p n e = rw e (none_each (up_to (proc_at t p).vars))
    where
      none_each : (vs : List ℕ) → for_each vs (along_edges p n none []) ≡ []
      none_each [] = refl
      none_each (v ∷ vs) = none_each vs

  node_empty : (p n : ℕ) → node_at t p n ≡ Absent → node_edges t p n (node_at t p n) ++ path_edges t p n ≡ []
  unfolding node_edges set_edges act_edges parts
  node_empty p n e = rw (path_empty p n e, e)

  -- the edges of a node, by kind, are among all edges
  in_node : (p n : ℕ) (e : Edge) → Memᴰ e (node_edges t p n (node_at t p n) ++ path_edges t p n) → Memᴰ e (edges t)
  unfolding edges
  in_node p n e m = Memᴰ.append_left _ (in_over (λ p n. node_edges t p n (node_at t p n) ++ path_edges t p n) p n e (node_empty p n) m)

  in_set : (p n : ℕ) (e : Edge) → Memᴰ e (set_edges p n (variable_set (node_at t p n)) (uses (node_at t p n))) → Memᴰ e (edges t)
  unfolding node_edges
  in_set p n e m = in_node p n e (Memᴰ.append_left _ (Memᴰ.append_left _ m))

  in_act : (p n : ℕ) (e : Edge) → Memᴰ e (act_edges t p n (act (node_at t p n))) → Memᴰ e (edges t)
  unfolding node_edges
  in_act p n e m = in_node p n e (Memᴰ.append_left _ (Memᴰ.append_right (set_edges p n (variable_set (node_at t p n)) (uses (node_at t p n))) m))

  in_after : (p n : ℕ) (e : Edge) → Memᴰ e (after_edges (proc_at t p).vars p n (variable_set (node_at t p n)) (arcs (node_at t p n))) → Memᴰ e (edges t)
  unfolding path_edges
  in_after p n e m = in_node p n e (Memᴰ.append_right (node_edges t p n (node_at t p n)) (Memᴰ.append_left (for_each (up_to (proc_at t p).vars) (along_edges p n (variable_set (node_at t p n)) (arcs (node_at t p n)))) m))

  in_along : (p n v : ℕ) (e : Edge) → v < (proc_at t p).vars → Memᴰ e (along_edges p n (variable_set (node_at t p n)) (arcs (node_at t p n)) v) → Memᴰ e (edges t)
  unfolding path_edges
  in_along p n v e l m = in_node p n e (Memᴰ.append_right (node_edges t p n (node_at t p n)) (Memᴰ.append_right (after_edges (proc_at t p).vars p n (variable_set (node_at t p n)) (arcs (node_at t p n))) (in_each (along_edges p n (variable_set (node_at t p n)) (arcs (node_at t p n))) v e (up_to (proc_at t p).vars) (in_up_to v _ l) m)))

  -- of the arguments us, which begin at parameter k, the one for parameter k + i
  in_passed : (p n q k i u : ℕ) (us : List ℕ) → k + i < (proc_at t q).params → get_elem? us i ≡ some u → Memᴰ (dirty_before p n u, dropped q (k + i)) (passed_to t p n q k us)
  unfolding passed_to
  in_passed p n q k i u [] l e = let z : ◌≡◌ {A = ℕ} 0 1 = cc in absurd (omega arith)
  in_passed p n q k zero u (w ∷ us) l e = let z : w ≡ u = cc in rw (z, add-zero, lt-ltb k (proc_at t q).params (omega arith)) (Memᴰ.head refl)
  in_passed p n q k (suc i) u (w ∷ us) l e = Memᴰ.append_right (pick (ltb k (proc_at t q).params) ((dirty_before p n w, dropped q k) ∷ []) []) (rw (add-suc, ← suc-add k i) (in_passed p n q (suc k) i u us (omega arith) e))

  -- past the last procedure there is no variable and no parameter
  below_procs : (f : Proc → ℕ) → f outside ≡ 0 → (p i : ℕ) → i < f (proc_at t p) → p < length t.proc
  below_procs f z p i l = cases (ltb p (length t.proc))
      (λ k. ltb-true p _ k)
      (λ k. absurd (omega (arith, z, rw (get_or-eq_default t.proc outside (ltb-false p _ k)) at l)))

  -- only a parameter is dropped
  pub dropped_low : (p i : ℕ) → Dirty t (dropped p i) → i < (proc_at t p).params
  dropped_low p i (top k l j e) = l
  dropped_low p i (passed r n u xs l e m d) = l

  in_entry : (p i : ℕ) (e : Edge) → p < length t.proc → Memᴰ e (entry_edges t p) → Memᴰ e (edges t)
  unfolding edges
  in_entry p i e l m = Memᴰ.append_right (over_nodes t (λ p n. node_edges t p n (node_at t p n) ++ path_edges t p n)) (in_each (entry_edges t) p e (up_to (length t.proc)) (in_up_to p _ l) m)

  -- from a clear path's start to its end by edges
  clear_reach : {p v m n : ℕ} → v < (proc_at t p).vars → Clear t p v m n → Reach (sources t) (edges t) (dirty_before p m v) → Reach (sources t) (edges t) (dirty_before p n v)
  unfolding along_edges
  clear_reach l here r = r
  clear_reach {p} {v} l (on {m = m} k s a c) r = clear_reach l c
      (edge (in_along p m v (dirty_before p m v, dirty_before p k v) l (rw (sets_var_other (variable_set (node_at t p m)) v s, along_edges) (Memᴰ.map (λ j. (dirty_before p m v, dirty_before p j v)) a))) r)

  -- what is dirty is reached
  dirty_reach : (f : Fact) → Dirty t f → Reach (sources t) (edges t) f
  unfolding sources read_source top_source set_edges act_edges entry_edges after_edges parts
  dirty_reach f (by_read {p} {n} e) = source (Memᴰ.append_right (for_each (up_to t.tasks) (top_source t)) (in_over (λ p n. read_source p n (keeping (node_at t p n))) p n (setting_at p n) (λ k. ap (λ (x : Node). read_source p n (keeping x)) k) (rw e (Memᴰ.head refl))))
  dirty_reach f (by_set {p} {n} v u e m d) = edge (in_set p n (dirty_before p n u, setting_at p n) (rw e (Memᴰ.map (λ u. (dirty_before p n u, setting_at p n)) m))) (dirty_reach (dirty_before p n u) d)
  dirty_reach f (by_recv {p} {n} q v e d) = edge (in_act p n (blank q, setting_at p n) (rw e (Memᴰ.head refl))) (dirty_reach (blank q) d)
  dirty_reach f (by_entry {p} {i} d) = let l = dropped_low p i d in
      edge (in_entry p i (dropped p i, entry_at p i) (below_procs (λ q. q.params) refl p i l) (Memᴰ.append_left _ (Memᴰ.map (λ i. (dropped p i, entry_at p i)) (in_up_to i _ l)))) (dirty_reach (dropped p i) d)
  dirty_reach f (from_node {p} {n} {v} m k l e a c d) = clear_reach l c
      (edge (in_after p m (setting_at p m, dirty_before p k v) (rw (e, lt-ltb v (proc_at t p).vars l) (Memᴰ.map (λ j. (setting_at p m, dirty_before p j v)) a))) (dirty_reach (setting_at p m) d))
  dirty_reach f (from_entry {p} {n} {v} l c d) = clear_reach l c
      (edge (in_entry p v (entry_at p v, dirty_before p zero v) (below_procs (λ q. q.vars) refl p v l) (Memᴰ.append_right (map (λ i. (dropped p i, entry_at p i)) (up_to (proc_at t p).params)) (Memᴰ.map (λ i. (entry_at p i, dirty_before p zero i)) (in_up_to v _ l)))) (dirty_reach (entry_at p v) d))
  dirty_reach f (top {p} {i} k l j e) = source (Memᴰ.append_left _ (in_each (top_source t) k (dropped p i) (up_to t.tasks) (in_up_to k _ j) (rw e (Memᴰ.map (dropped p) (in_up_to i _ l)))))
  dirty_reach f (passed {q} {i} p n u xs l e m d) = edge (in_act p n (dirty_before p n u, dropped q i) (rw (e, ← zero-add i) (in_passed p n q zero i u (arg_list xs) (rw zero-add l) m))) (dirty_reach (dirty_before p n u) d)
  dirty_reach f (sent {q} p n v e d) = edge (in_act p n (dirty_before p n v, blank q) (rw e (Memᴰ.head refl))) (dirty_reach (dirty_before p n v) d)

  -- what is dirty the computed set holds
  pub dirty_complete : (f : Fact) → Dirty t f → mem same f (dirty t) ≡ true
  unfolding dirty
  dirty_complete f d = closure_complete same same_eq same_refl (sources t) (edges t) f (dirty_reach f d)

  -- ---- so the set decides what is dirty

  pub dirty_is : (f : Fact) → (is_dirty (dirty t) f ≡ true) ↔ Dirty t f
  unfolding is_dirty
  dirty_is f = (dirty_sound f, dirty_complete f)
