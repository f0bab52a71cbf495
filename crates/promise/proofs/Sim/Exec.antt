-- One node executed: a kept node in both runs, a node that is not kept in the open run alone. And what a kept node logs.
use Rattle.std.specs.Prelude.{ℕ, ◌+◌, ◌-◌, ◌<◌, ◌⊎◌, Bool, length, set, eqb, pos}
use Rattle.std.proofs.Common.{arith, ◌∙◌, inr, true≢false, length-set, get_or-set_same}
use Rattle.std.proofs.Math.Path.{◌≡◌, refl, sym, ap, ap₂}
use Rattle.std.proofs.Math.Logic.{inl}
use Rattle.std.proofs.Math.Bool.{true, false}
use Rattle.std.proofs.lemmas.Bool.{false≢true}
use Rattle.std.proofs.Math.Option.{Option, none, some}
use mathlib.Core.List.Memᴰ
use mathlib.Core.List.{List, [], ◌∷◌, ◌++◌, Memᴰ}
use Rattle.std.proofs.Math.Seq.{set_out, get_or-set_other}
use Rattle.std.proofs.Math.IntN.{ℤ}
use Rattle.table.specs.Cases.{cases}
use Rattle.table.specs.Mask.{pick, members}
use Rattle.table.specs.Values.{apply, holds}
use Rattle.table.specs.Table.{node_at, proc_at, removed, operand_uses, uses, variable_set, arc_to, arc_no, arcs, is_absent, Act, alone, waits, signals, sends, receives, calls, returns, act, Keeping, always, if_clean, keeping, parts, map_node}
use Rattle.table.specs.ByKind.{by_kind}
use Rattle.table.specs.declared.Op.{Op}
use Rattle.table.specs.declared.Args.{Args}
use Rattle.table.specs.declared.Operand.{Operand}
use Rattle.table.specs.declared.Operand.TheVariants.{Var, Const}
use Rattle.table.specs.declared.Node.{Node}
use Rattle.table.specs.declared.Node.TheVariants.{Absent, Start, Set, Test, Read, Call, Wait, Signal, Send, Recv, Assert, Out, Return}
use Rattle.table.specs.declared.Table.{Table}
use Rattle.closing.specs.Dirty.{setting_at, dirty_before, blank, Dirty, by_read, by_set, by_recv, sent, Unkept, no_node, a_read, dirty_use}
use Rattle.closing.specs.Closing.{dirty, kept_by, kept}
use Rattle.closing.specs.Close.{unkept_arcs, new_arc, closed_node, close_table}
use Rattle.closing.proofs.KeptLaws.{unkept_is}
use Rattle.machine.specs.declared.Entries.{Entries}
use Rattle.machine.specs.State.{var_at, entries_at, sem_count}
use Rattle.machine.specs.Step.{Memory, operand_in, assign, with_sem, with_entries, appended, oldest, shortened, value_of, Does, opens, closes, goes, stops, read_of, exec}
use Rattle.promise.proofs.Sim.Wf.{Single, Wf}
use Rattle.promise.proofs.Sim.Stores.{set_both}
use Rattle.promise.proofs.Sim.Locals.{Last, D, kept_at, not_dirty, is_dirty_lem, D-false, mark, Locals, clean_use, move, move_set, Shared}

-- `-` is in no place of a frame's variables
removed_set : (l : List ℤ) (x : ℤ) → length l ≡ 16 → set l removed x ≡ l
removed_set l x e = set_out l removed x (omega arith)

-- what holds of a node's execution where it goes on
abbrev pub WhenGoes : (ℕ → Memory → List ℤ → Type 0) → Does → Type 0
WhenGoes P (opens f) = ⊥
WhenGoes P closes = ⊥
WhenGoes P (goes a m vs o) = P a m vs
WhenGoes P (stops c) = Unit {0}

-- a node that neither opens nor closes a frame
abbrev pub Plain : Act → Type 0
Plain alone = Unit {0}
Plain (waits i) = Unit {0}
Plain (signals i) = Unit {0}
Plain (sends q v) = Unit {0}
Plain (receives q v) = Unit {0}
Plain (calls q xs) = ⊥
Plain returns = ⊥

-- what a step logs: nothing in the closed run, or the same in both
abbrev pub SameValue : Option ℤ → Option ℤ → Type 0
SameValue o o' = (o' ≡ none) ⊎ (o ≡ o')

module _ (t : Table) where
  abbrev pub arc_of : ℕ → ℕ → ℕ
  arc_of p = new_arc t (dirty t) p (unkept_arcs t (dirty t) p)

  abbrev t' : Table
  t' = close_table t

  -- a variable that gives way to `-` at a `send` or `recv`, and at an `assert` or `out`
  abbrev pub queue_or : ℕ → ℕ → ℕ
  queue_or q v = pick (D t (blank q)) removed v

  abbrev pub use_or : ℕ → ℕ → ℕ → ℕ
  use_or p n v = pick (D t (dirty_before p n v)) removed v

  abbrev pub closing : ℕ → ℕ → Node → Node
  closing p n x = closed_node t (dirty t) p n (arc_of p) x

  -- node n goes on by arc a to its one target
  pub record Leading (p n a : ℕ) : Type 0 where
    pub to : ℕ
    pub one : members a ≡ to ∷ []
    pub into : Memᴰ to (arcs (node_at t p n))

  pub by_to : (p n a : ℕ) → arc_to (node_at t p n) ≡ a → Single a → Leading p n a
  by_to p n a e s = record { to = s.0; one = s.1; into = Memᴰ.append_left {s = members (arc_to (node_at t p n))} (members (arc_no (node_at t p n))) (rw (e, s.1) (Memᴰ.head refl)) }

  pub by_no : (p n a : ℕ) → arc_no (node_at t p n) ≡ a → Single a → Leading p n a
  by_no p n a e s = record { to = s.0; one = s.1; into = Memᴰ.append_right (members (arc_to (node_at t p n))) {t = members (arc_no (node_at t p n))} (rw (e, s.1) (Memᴰ.head refl)) }

  module _ (wf : Wf t) (k₀ p n : ℕ) (la : Last) (h g : Memory) (r : Locals t p n la h.vars g.vars) (s : Shared t h.sems h.queues g.sems g.queues) where
    sets_16 : (v : ℕ) → variable_set (node_at t p n) ≡ some v → v < 16
    sets_16 v e = omega (arith, wf.sets< p n v e, wf.vars p)

    -- a test's arcs
    by_test : (o : Op) (a b : Operand) (y k : ℕ) (c : Bool) → node_at t p n ≡ Test o a b y k → Leading p n (pick c y k)
    unfolding parts
    by_test o a b y k true e = by_to p n y (ap arc_to e) (rw e at (wf.one p n)).0
    by_test o a b y k false e = by_no p n k (ap arc_no e) (rw e at (wf.one p n)).1

    -- ---- a kept node, executed in both runs
    pub record Matched (x : Node) (vs : List ℤ) : Type 0 where
      pub arc : ℕ
      pub mem : Memory
      pub mem' : Memory
      pub value : Option ℤ
      pub value' : Option ℤ
      pub plain : Plain (act x)
      pub opens : exec t k₀ x h vs ≡ goes arc mem vs value
      pub closes : (ws : List ℤ) → exec t' k₀ (closing p n x) g ws ≡ goes (arc_of p arc) mem' ws value'
      pub leading : Leading p n arc
      pub locals : Locals t p leading.to (mark t p n la) mem.vars mem'.vars
      pub shared : Shared t mem.sems mem.queues mem'.sems mem'.queues
      pub values : SameValue value value'

    -- it goes on within its frame in both, or it is a call or a return
    pub data Alike (x : Node) (vs : List ℤ) : Type 0 where
      both_go : Matched x vs → Alike x vs
      both_open : (q : ℕ) (xs : Args) (to : ℕ) → x ≡ Call q xs to → Alike x vs
      both_close : x ≡ Return → Alike x vs

    -- one that changes nothing
    unchanged : (x : Node) (a : ℕ) (o o' : Option ℤ) (vs : List ℤ) → node_at t p n ≡ x → variable_set x ≡ none → Plain (act x) → Leading p n a
        → exec t k₀ x h vs ≡ goes a h vs o → ((ws : List ℤ) → exec t' k₀ (closing p n x) g ws ≡ goes (arc_of p a) g ws o') → SameValue o o' → Matched x vs
    unchanged x a o o' vs e i y l f c w = record {
      arc = a;
      mem = h;
      mem' = g;
      value = o;
      value' = o';
      plain = y;
      opens = f;
      closes = c;
      leading = l;
      locals = move t p n l.to la _ _ (ap variable_set e ∙ i) l.into r;
      shared = s;
      values = w;
    }

    -- one that changes a semaphore alike
    counted : (x : Node) (a i c : ℕ) (vs : List ℤ) → node_at t p n ≡ x → variable_set x ≡ none → Plain (act x) → Leading p n a → exec t k₀ x h vs ≡ goes a (with_sem i c h) vs none
        → ((ws : List ℤ) → exec t' k₀ (closing p n x) g ws ≡ goes (arc_of p a) (with_sem i c g) ws none) → Matched x vs
    counted x a i c vs e j y l o k = record {
      arc = a;
      mem = with_sem i c h;
      mem' = with_sem i c g;
      value = none;
      value' = none;
      plain = y;
      opens = o;
      closes = k;
      leading = l;
      locals = move t p n l.to la _ _ (ap variable_set e ∙ j) l.into r;
      shared = record { sems = ap (λ (z : List ℕ). set z i c) s.sems; sizes = s.sizes; lens = s.lens; keeps = s.keeps };
      values = inl refl;
    }

    -- a queue changed in both runs
    queued : (q : ℕ) (x y : Entries) → x.len ≡ y.len → ((Dirty t (blank q) → ⊥) → x ≡ y) → Shared t h.sems (set h.queues q x) g.sems (set g.queues q y)
    queued q x y l k = record {
      sems = s.sems;
      sizes = length-set h.queues q x ∙ s.sizes ∙ sym (length-set g.queues q y);
      lens = λ j. set_both (λ (a b : Entries). a.len ≡ b.len) h.queues g.queues q j x _ y _ s.sizes (λ _. l) (s.lens j);
      keeps = λ j c. set_both (λ (a b : Entries). a ≡ b) h.queues g.queues q j x _ y _ s.sizes (λ e. k (rw e at c)) (s.keeps j c);
    }

    -- an operand without a dirty use
    operand_eq : (o : Operand) → ((u : ℕ) → Memᴰ u (operand_uses o) → (u < (proc_at t p).vars) × (Dirty t (dirty_before p n u) → ⊥)) → operand_in h.vars o ≡ operand_in g.vars o
    operand_eq (Var u) f = let k = f u (Memᴰ.head refl) in clean_use t p n u la _ _ r k.0 k.1
    operand_eq (Const c) f = refl

    -- a use at a kept `set` or `test` is not dirty
    kept_clean : (u : ℕ) → kept_at t p n ≡ true → keeping (node_at t p n) ≡ if_clean → Memᴰ u (uses (node_at t p n)) → Dirty t (dirty_before p n u) → ⊥
    kept_clean u c i m d = true≢false (sym c ∙ (unkept_is t p n).1 (dirty_use u i m d))

    -- so its operands are the same
    operands_eq : (x : Node) (a b : Operand) → node_at t p n ≡ x → keeping x ≡ if_clean → uses x ≡ operand_uses a ++ operand_uses b → kept_at t p n ≡ true
        → (operand_in h.vars a ≡ operand_in g.vars a) × (operand_in h.vars b ≡ operand_in g.vars b)
    operands_eq x a b e i u c = (operand_eq a (λ w m. clean w (Memᴰ.append_left (operand_uses b) m)), operand_eq b (λ w m. clean w (Memᴰ.append_right (operand_uses a) m)))
      where
        clean : (w : ℕ) → Memᴰ w (operand_uses a ++ operand_uses b) → (w < (proc_at t p).vars) × (Dirty t (dirty_before p n w) → ⊥)
        clean w m = let k = rw (← u, ← e) at m in (wf.uses< p n w k, kept_clean w c (ap keeping e ∙ i) k)

    set_sim : (v : ℕ) (o : Op) (a b : Operand) (to : ℕ) → node_at t p n ≡ Set v o a b to → kept_at t p n ≡ true → (vs : List ℤ) → Matched (Set v o a b to) vs
    unfolding exec closed_node map_node parts
    set_sim v o a b to e c vs =
        let q = operands_eq (Set v o a b to) a b e refl refl c in
        let z = apply o (operand_in g.vars a) (operand_in g.vars b) in
        let v< = sets_16 v (ap variable_set e) in
        let l = by_to p n to (ap arc_to e) (rw e at (wf.one p n)) in
        record {
          arc = to;
          mem = assign v (apply o (operand_in h.vars a) (operand_in h.vars b)) h;
          mem' = assign v z g;
          value = none;
          value' = none;
          plain = tt;
          opens = refl;
          closes = λ ws. refl;
          leading = l;
          locals = move_set t p n l.to v _ la _ g.vars (set g.vars v z) (ap variable_set e) l.into r (length-set g.vars v z ∙ r.closed_size)
              (λ w i. get_or-set_other g.vars v w z (pos 0) i)
              (λ _. rw (get_or-set_same g.vars v z (pos 0) (omega (arith, r.closed_size))) (ap₂ (apply o) q.0 q.1)) v<;
          shared = s;
          values = inl refl;
        }

    test_sim : (o : Op) (a b : Operand) (y k : ℕ) → node_at t p n ≡ Test o a b y k → kept_at t p n ≡ true → (vs : List ℤ) → Matched (Test o a b y k) vs
    unfolding exec closed_node map_node parts
    test_sim o a b y k e c vs =
        let q = operands_eq (Test o a b y k) a b e refl refl c in
        let z = holds (apply o (operand_in h.vars a) (operand_in h.vars b)) in
        unchanged (Test o a b y k) (pick z y k) none none vs e refl tt (by_test o a b y k z e) refl (λ ws. rw (← q.0, ← q.1) (ap (λ (m : ℕ). goes m g ws none) (both z))) (inl refl)
      where
        both : (b : Bool) → pick b (arc_of p y) (arc_of p k) ≡ arc_of p (pick b y k)
        both true = refl
        both false = refl

    -- what is sent to a queue that keeps values is the same
    sent_eq : (q v to : ℕ) → node_at t p n ≡ Send q v to → (Dirty t (blank q) → ⊥) → var_at h.vars v ≡ var_at g.vars (queue_or q v)
    unfolding parts
    sent_eq q v to e c = rw (D-false t (blank q) c) (clean_use t p n v la _ _ r (wf.uses< p n v (rw e (Memᴰ.head refl))) (λ d. c (sent p n v (ap act e) d)))

    send_sim : (q v to : ℕ) → node_at t p n ≡ Send q v to → (vs : List ℤ) → Matched (Send q v to) vs
    unfolding exec closed_node map_node parts
    send_sim q v to e vs =
        let l = by_to p n to (ap arc_to e) (rw e at (wf.one p n)) in
        record {
          arc = to;
          mem = with_entries q (appended (var_at h.vars v) (entries_at h.queues q)) h;
          mem' = with_entries q (appended (var_at g.vars (queue_or q v)) (entries_at g.queues q)) g;
          value = none;
          value' = none;
          plain = tt;
          opens = refl;
          closes = λ ws. refl;
          leading = l;
          locals = move t p n l.to la _ _ (ap variable_set e) l.into r;
          shared = queued q _ _ (ap (λ (z : ℕ). z + 1) (s.lens q)) (λ c. ap₂ appended (sent_eq q v to e c) (s.keeps q c));
          values = inl refl;
        }

    -- what a `recv` leaves in the variables
    received : (q v to m : ℕ) → node_at t p n ≡ Recv q v to → Memᴰ m (arcs (node_at t p n))
        → Locals t p m (mark t p n la) (set h.vars v (oldest (entries_at h.queues q))) (set g.vars (queue_or q v) (oldest (entries_at g.queues q)))
    unfolding parts
    received q v to m e a = cases (D t (blank q))
        (λ k. rw (k, removed_set g.vars (oldest (entries_at g.queues q)) r.closed_size) (move_set t p n m v _ la _ g.vars g.vars (ap variable_set e) a r r.closed_size (λ w i. refl)
        (λ c. absurd (c (by_recv q v (ap act e) (is_dirty_lem t (blank q) k)))) v<))
        (λ k. rw k (move_set t p n m v _ la _ g.vars (set g.vars v y) (ap variable_set e) a r (length-set g.vars v y ∙ r.closed_size)
        (λ w i. get_or-set_other g.vars v w y (pos 0) i)
        (λ c. rw (get_or-set_same g.vars v y (pos 0) (omega (arith, r.closed_size, v<))) (ap oldest (s.keeps q (not_dirty t (blank q) k)))) v<))
      where
        y : ℤ
        y = oldest (entries_at g.queues q)

        v< : v < 16
        v< = sets_16 v (ap variable_set e)

    recv_sim : (q v to : ℕ) → node_at t p n ≡ Recv q v to → (vs : List ℤ) → Matched (Recv q v to) vs
    unfolding exec closed_node map_node parts
    recv_sim q v to e vs =
        let l = by_to p n to (ap arc_to e) (rw e at (wf.one p n)) in
        record {
          arc = to;
          mem = assign v (oldest (entries_at h.queues q)) (with_entries q (shortened (entries_at h.queues q)) h);
          mem' = assign (queue_or q v) (oldest (entries_at g.queues q)) (with_entries q (shortened (entries_at g.queues q)) g);
          value = none;
          value' = none;
          plain = tt;
          opens = refl;
          closes = λ ws. refl;
          leading = l;
          locals = received q v to l.to e l.into;
          shared = queued q _ _ (ap (λ (z : ℕ). z - 1) (s.lens q)) (λ c. ap shortened (s.keeps q c));
          values = inl refl;
        }

    -- what an `assert` or `out` shows
    value_sim : (v : ℕ) → v < (proc_at t p).vars → SameValue (value_of h.vars v) (value_of g.vars (use_or p n v))
    value_sim v l = cases (D t (dirty_before p n v))
        (λ k. rw k (inl refl))
        (λ k. rw k (inr (ap (λ (x : ℤ). pick (eqb v removed) none (some x)) (clean_use t p n v la _ _ r l (not_dirty t (dirty_before p n v) k)))))

    -- one that shows its variable
    shows : (x : Node) (v to : ℕ) (vs : List ℤ) → node_at t p n ≡ x → variable_set x ≡ none → Plain (act x) → uses x ≡ v ∷ [] → arc_to x ≡ to → exec t k₀ x h vs ≡ goes to h vs (value_of h.vars v)
        → ((ws : List ℤ) → exec t' k₀ (closing p n x) g ws ≡ goes (arc_of p to) g ws (value_of g.vars (use_or p n v))) → Single to → Matched x vs
    shows x v to vs e i y u a o c one =
        unchanged x to _ _ vs e i y (by_to p n to (ap arc_to e ∙ a) one) o c (value_sim v (wf.uses< p n v (rw (e, u) (Memᴰ.head refl))))

    pub exec_sim : (x : Node) → node_at t p n ≡ x → kept_at t p n ≡ true → (vs : List ℤ) → Alike x vs
    unfolding exec closed_node map_node parts kept
    exec_sim Absent e c vs = absurd (false≢true (sym (ap (kept (dirty t) p n) e) ∙ c))
    exec_sim (Start to) e c vs = both_go (unchanged (Start to) to none none vs e refl tt (by_to p n to (ap arc_to e) (rw e at (wf.one p n))) refl (λ ws. refl) (inl refl))
    exec_sim (Set v o a b to) e c vs = both_go (set_sim v o a b to e c vs)
    exec_sim (Test o a b y k) e c vs = both_go (test_sim o a b y k e c vs)
    exec_sim (Read v to) e c vs = absurd (false≢true (sym (ap (kept (dirty t) p n) e) ∙ c))
    exec_sim (Call q xs to) e c vs = both_open q xs to refl
    exec_sim (Wait i to) e c vs = both_go (counted (Wait i to) to i (sem_count h.sems i - 1) vs e refl tt (by_to p n to (ap arc_to e) (rw e at (wf.one p n))) refl
        (λ ws. ap (λ (z : List ℕ). goes (arc_of p to) (with_sem i (sem_count z i - 1) g) ws none) (sym s.sems)))
    exec_sim (Signal i to) e c vs = both_go (counted (Signal i to) to i (sem_count h.sems i + 1) vs e refl tt (by_to p n to (ap arc_to e) (rw e at (wf.one p n))) refl
        (λ ws. ap (λ (z : List ℕ). goes (arc_of p to) (with_sem i (sem_count z i + 1) g) ws none) (sym s.sems)))
    exec_sim (Send q v to) e c vs = both_go (send_sim q v to e vs)
    exec_sim (Recv q v to) e c vs = both_go (recv_sim q v to e vs)
    exec_sim (Assert v to) e c vs = both_go (shows (Assert v to) v to vs e refl tt refl refl refl (λ ws. refl) (rw e at (wf.one p n)))
    exec_sim (Out v to) e c vs = both_go (shows (Out v to) v to vs e refl tt refl refl refl (λ ws. refl) (rw e at (wf.one p n)))
    exec_sim Return e c vs = both_close refl

    -- ---- a node that is not kept, executed in the open run alone
    pub record Passed (a : ℕ) (m : Memory) (vs : List ℤ) : Type 0 where
      pub leading : Leading p n a
      pub locals : Locals t p leading.to (mark t p n la) m.vars g.vars
      pub shared : Shared t m.sems m.queues g.sems g.queues

    -- it sets its variable dirty
    set_dirty : (v : ℕ) (x : ℤ) (a : ℕ) (vs : List ℤ) → variable_set (node_at t p n) ≡ some v → Leading p n a → Dirty t (setting_at p n) → Passed a (assign v x h) vs
    set_dirty v x a vs e l d = record {
      leading = l;
      locals = move_set t p n l.to v x la _ g.vars g.vars e l.into r r.closed_size (λ w i. refl) (λ c. absurd (c d)) (sets_16 v e);
      shared = s;
    }

    read_sim : (v to : ℕ) → node_at t p n ≡ Read v to → (vs : List ℤ) → WhenGoes Passed (read_of v to h vs)
    unfolding parts
    read_sim v to e [] = tt
    read_sim v to e (x ∷ vs) = set_dirty v x to vs (ap variable_set e) (by_to p n to (ap arc_to e) (rw e at (wf.one p n))) (by_read (ap keeping e))

    -- a `set` that is not kept has a dirty use
    unkept_set : (v : ℕ) (o : Op) (a b : Operand) (to : ℕ) → node_at t p n ≡ Set v o a b to → Unkept t p n → Dirty t (setting_at p n)
    unfolding parts
    unkept_set v o a b to e (a_read k) = by_read k
    unkept_set v o a b to e (no_node k) = let z = sym (ap keeping e) ∙ k in let w : ◌≡◌ {A = ℕ} 0 1 = cc in absurd (omega arith)
    unkept_set v o a b to e (dirty_use u k m d) = by_set v u (ap variable_set e) m d

    -- one that is always kept is none
    always_kept : (x : Node) → node_at t p n ≡ x → keeping x ≡ always → kept_at t p n ≡ false → (vs : List ℤ) → WhenGoes Passed (exec t k₀ x h vs)
    unfolding kept
    always_kept x e i c vs = absurd (true≢false (sym (ap (λ (b : Keeping). kept_by (dirty t) b p n (uses (node_at t p n))) (ap keeping e ∙ i)) ∙ c))

    no_node_there : is_absent Absent ≡ false → (vs : List ℤ) → WhenGoes Passed (exec t k₀ Absent h vs)
    unfolding parts
    no_node_there i vs = absurd (true≢false i)

    set_passes : (v : ℕ) (o : Op) (a b : Operand) (to : ℕ) → node_at t p n ≡ Set v o a b to → kept_at t p n ≡ false → (vs : List ℤ) → WhenGoes Passed (exec t k₀ (Set v o a b to) h vs)
    unfolding exec parts
    set_passes v o a b to e c vs = set_dirty v _ to vs (ap variable_set e) (by_to p n to (ap arc_to e) (rw e at (wf.one p n))) (unkept_set v o a b to e ((unkept_is t p n).0 c))

    test_passes : (o : Op) (a b : Operand) (y k : ℕ) → node_at t p n ≡ Test o a b y k → (vs : List ℤ) → WhenGoes Passed (exec t k₀ (Test o a b y k) h vs)
    unfolding exec parts
    test_passes o a b y k e vs = let l = by_test o a b y k (holds (apply o (operand_in h.vars a) (operand_in h.vars b))) e in
        record { leading = l; locals = move t p n l.to la _ _ (ap variable_set e) l.into r; shared = s }

    read_passes : (v to : ℕ) → node_at t p n ≡ Read v to → (vs : List ℤ) → WhenGoes Passed (exec t k₀ (Read v to) h vs)
    unfolding exec
    read_passes v to e vs = read_sim v to e vs

    pub dropped_sim : (x : Node) → node_at t p n ≡ x → is_absent x ≡ false → kept_at t p n ≡ false → (vs : List ℤ) → WhenGoes Passed (exec t k₀ x h vs)
    unfolding parts
    dropped_sim = by_kind (search (no_node_there, set_passes, test_passes, read_passes, always_kept))
