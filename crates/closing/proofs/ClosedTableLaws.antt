-- The closed table that is computed is the closed table by the rules, and the only one.
use Rattle.std.specs.Prelude.{ℕ, zero, suc, ◌+◌, ◌^◌, ◌<◌, ◌≤◌, ◌≡◌, refl, Bool, true, false, ◌↔◌, ltb}
use Rattle.std.proofs.Common.{arith, lt_of_lt_of_le, pow-suc, sym, ◌∙◌, true≢false, pow_mono, ext_get_or, ltb-true, lt-ltb}
use Rattle.std.proofs.Math.Path.{ap}
use Rattle.std.proofs.lemmas.Bool.{false≢true}
use Rattle.std.proofs.Math.ListN.{length}
use Rattle.table.specs.Cases.{cases}
use Rattle.table.specs.Mask.{pick, bit}
use Rattle.table.specs.MaskLaws.{bit_mask_of_above, bit_ext}
use Rattle.table.specs.Table.{no_slot, no_queue, outside, queue_at, proc_at, node_at, removed, Act, alone, waits, signals, sends, receives, calls, returns, act, map_node}
use Rattle.table.specs.declared.Node.{Node}
use Rattle.table.specs.declared.Proc.{Proc}
use Rattle.table.specs.declared.Table.{Table}
use Rattle.text.proofs.NumberLaws.{by_order, and_left, and_right}
use Rattle.text.specs.Writer.{fault}
use Rattle.closing.specs.declared.Closing.{Closing}
use Rattle.closing.specs.Dirty.{dirty_before, dropped, blank, Dirty}
use Rattle.closing.specs.ClosedTable.{NewArc, GivesWay, Marked, Becomes, ClosedTable, Answers}
use Rattle.closing.specs.Closing.{dirty, kept}
use Rattle.closing.proofs.DirtyLaws.{dropped_low, dirty_is}
use Rattle.closing.proofs.KeptLaws.{same_test, unkept_is, kept_is}
use Rattle.closing.specs.Close.{unkept_arcs, new_arc, gives_way, var_or, closed_node, closed_proc, closed_queue, closed_with, close_table, answer, close}
use Rattle.closing.proofs.ArcLaws.{arc_is}
use Rattle.closing.proofs.CloseLaws.{map_at, map_from_length, close_proc, close_params, close_vars, close_nodes, close_drop, close_cap, kept_node, unkept_node, accepted}

-- ---- a variable that gives way to `-` where P holds, which b tests

marked : {P : Type 0} (b : Bool) → (b ≡ true) ↔ P → (v : ℕ) → Marked P v (pick b removed v)
marked true i v = (λ h. refl, λ f. absurd (f (i.0 refl)))
marked false i v = (λ h. absurd (false≢true (i.1 h)), λ f. refl)

marked_only : {P : Type 0} (b : Bool) → (b ≡ true) ↔ P → {v w w' : ℕ} → Marked P v w → Marked P v w' → w ≡ w'
marked_only true i m m' = m.0 (i.0 refl) ∙ sym (m'.0 (i.0 refl))
marked_only false i m m' = m.1 (λ h. false≢true (i.1 h)) ∙ sym (m'.1 (λ h. false≢true (i.1 h)))

-- ---- masks with the same members are equal, whatever their size

lt_pow : (n : ℕ) → n < 2 ^ n
lt_pow zero = omega arith
lt_pow (suc n) = rw pow-suc (omega (arith, lt_pow n))

same_bits : (a b : ℕ) → ((k : ℕ) → bit k a ≡ bit k b) → a ≡ b
same_bits a b h = bit_ext (a + b) a b (lt_of_lt_of_le (lt_pow a) (pow_mono (omega arith))) (lt_of_lt_of_le (lt_pow b) (pow_mono (omega arith))) (λ k _. h k)

-- two masks that hold what has P
mask_only : {P : ℕ → Type 0} (a b : ℕ) → ((k : ℕ) → (bit k a ≡ true) ↔ P k) → ((k : ℕ) → (bit k b ≡ true) ↔ P k) → a ≡ b
mask_only a b f g = same_bits a b (λ k. same_test _ _ (f k) (g k))

module _ (t : Table) where
  -- ---- nodes

  -- an arc has one new arc
  pub arc_only : (p m a b : ℕ) → NewArc t p m a → NewArc t p m b → a ≡ b
  arc_only p m a b f g = mask_only a b f g

  module _ (p n : ℕ) where
    -- what lets a variable give way is tested
    gives_way_lem : (a : Act) (i v : ℕ) → (gives_way t (dirty t) p n a i v ≡ true) ↔ GivesWay t p n a i v
    gives_way_lem (sends q w) i v = dirty_is t (blank q)
    gives_way_lem (receives q w) i v = dirty_is t (blank q)
    gives_way_lem (calls q xs) i v = (
      λ e. (ltb-true i xs.len (and_left (ltb i xs.len) _ e), (dirty_is t (dropped q i)).0 (and_right (ltb i xs.len) _ e)),
      λ h. rw (lt-ltb i xs.len h.0, (dirty_is t (dropped q i)).1 h.1),
    )
    gives_way_lem alone i v = dirty_is t (dirty_before p n v)
    gives_way_lem (waits s) i v = (λ e. absurd (false≢true e), λ h. absurd h)
    gives_way_lem (signals s) i v = (λ e. absurd (false≢true e), λ h. absurd h)
    gives_way_lem returns i v = (λ e. absurd (false≢true e), λ h. absurd h)

    becomes : (x : Node) → Becomes t p n x (closed_node t (dirty t) p n (new_arc t (dirty t) p (unkept_arcs t (dirty t) p)) x)
    unfolding closed_node
    becomes x = record {
      arc = new_arc t (dirty t) p (unkept_arcs t (dirty t) p);
      var = var_or t (dirty t) p n (act x);
      new_arcs = arc_is t p;
      marks = λ i v. marked _ (gives_way_lem (act x) i v) v;
      same_line = refl;
    }

    becomes_only : {x y z : Node} → Becomes t p n x y → Becomes t p n x z → y ≡ z
    becomes_only {x} a b =
        a.same_line
        ∙ (λ ι. map_node (λ m. arc_only p m _ _ (a.new_arcs m) (b.new_arcs m) ι) (λ i v. marked_only _ (gives_way_lem (act x) i v) (a.marks i v) (b.marks i v) ι) x)
        ∙ sym b.same_line

  -- ---- `drop` and `blank`

  drop_above : (p i : ℕ) → (proc_at t p).params ≤ i → bit i (proc_at (close_table t) p).drop ≡ false
  unfolding closed_proc
  drop_above p i l = ap (λ (q : Proc). bit i q.drop) (close_proc t p) ∙ bit_mask_of_above (proc_at t p).params i _ l

  drop_is : (p i : ℕ) → (bit i (proc_at (close_table t) p).drop ≡ true) ↔ Dirty t (dropped p i)
  drop_is p i = by_order i (proc_at t p).params
      (λ l. rw (close_drop t p i l) (dirty_is t (dropped p i)))
      (λ l. (λ e. absurd (false≢true (sym (drop_above p i l) ∙ e)), λ d. absurd (omega (arith, dropped_low t p i d))))

  blank_is : (q : ℕ) → q < length t.queue → ((queue_at (close_table t) q).blank ≡ true) ↔ Dirty t (blank q)
  unfolding close_table closed_with
  blank_is q l = rw (map_at (closed_queue t (dirty t)) q t.queue no_queue no_queue (λ u. absurd (omega arith))) (dirty_is t (blank q))

  -- ---- the computed table is a closed table of t

  pub closed_table : ClosedTable t (close_table t)
  unfolding close_table closed_with closed_proc
  closed_table = record {
    closed = refl;
    kept = λ p n f. let k = (kept_is t p n).1 f in rw (kept_node t p n k) (becomes p n (node_at t p n));
    unkept = λ p n u. unkept_node t p n ((unkept_is t p n).1 u);
    trap = refl;
    tasks = refl;
    procs = refl;
    sems = refl;
    queues = refl;
    task = refl;
    sem = refl;
    queue = map_from_length _ 0 t.queue;
    cap = close_cap t;
    proc = map_from_length _ 0 t.proc;
    params = close_params t;
    vars = close_vars t;
    nodes = close_nodes t;
    slots = λ p. ap (λ (q : Proc). length q.slots) (close_proc t p) ∙ map_from_length _ 0 (proc_at t p).slots;
    blank = blank_is;
    drop = drop_is;
  }

  -- ---- and there is no other

  module _ (c c' : Table) (a : ClosedTable t c) (b : ClosedTable t c') where
    node_only : (p n : ℕ) → node_at c p n ≡ node_at c' p n
    node_only p n = cases (kept (dirty t) p n (node_at t p n))
        (λ k. let f = (kept_is t p n).0 k in becomes_only p n (a.kept p n f) (b.kept p n f))
        (λ k. let u = (unkept_is t p n).0 k in a.unkept p n u ∙ sym (b.unkept p n u))

    slots_only : (p : ℕ) → (proc_at c p).slots ≡ (proc_at c' p).slots
    slots_only p = ext_get_or no_slot _ _ (a.slots p ∙ sym (b.slots p)) (λ n _ ι. record { node = node_only p n ι })

    proc_only : (p : ℕ) → proc_at c p ≡ proc_at c' p
    proc_only p = λ ι. record {
      params = (a.params p ∙ sym (b.params p)) ι;
      vars = (a.vars p ∙ sym (b.vars p)) ι;
      nodes = (a.nodes p ∙ sym (b.nodes p)) ι;
      drop = mask_only _ _ (a.drop p) (b.drop p) ι;
      slots = slots_only p ι;
    }

    queue_only : (q : ℕ) → q < length t.queue → queue_at c q ≡ queue_at c' q
    queue_only q l = λ ι. record { cap = (a.cap q ∙ sym (b.cap q)) ι; blank = same_test _ _ (a.blank q l) (b.blank q l) ι }

    only : c ≡ c'
    only = λ ι. record {
      trap = (a.trap ∙ sym b.trap) ι;
      closed = (a.closed ∙ sym b.closed) ι;
      tasks = (a.tasks ∙ sym b.tasks) ι;
      procs = (a.procs ∙ sym b.procs) ι;
      sems = (a.sems ∙ sym b.sems) ι;
      queues = (a.queues ∙ sym b.queues) ι;
      task = (a.task ∙ sym b.task) ι;
      sem = (a.sem ∙ sym b.sem) ι;
      queue = ext_get_or no_queue c.queue c'.queue (a.queue ∙ sym b.queue) (λ q l. queue_only q (rw a.queue at l)) ι;
      proc = ext_get_or outside c.proc c'.proc (a.proc ∙ sym b.proc) (λ p _. proc_only p) ι;
    }

-- ---- so `ClosedTable` says which table the closer answers

pub close_gives : (t : Table) → (close t).number ≡ 0 → ClosedTable t (close t).table
close_gives t ok = rw (accepted t ok).answer_is (closed_table t)

pub closed_only : (t c c' : Table) → ClosedTable t c → ClosedTable t c' → c ≡ c'
closed_only = only

pub closed_is : (t c : Table) → (close t).number ≡ 0 → (c ≡ (close t).table) ↔ ClosedTable t c
closed_is t c ok = (λ e. rw e (close_gives t ok), λ h. closed_only t c (close t).table h (close_gives t ok))

-- ---- and `Answers` says what it answers, refusals too

answers : (t : Table) → Answers t (close t)
unfolding close
answers t = go (fault t) t.closed refl refl
  where
    go : (n : ℕ) (c : Bool) → fault t ≡ n → t.closed ≡ c → Answers t (answer t n c)
    go zero false i j = record { faulty = λ f. absurd (f i); nine = λ _ e. absurd (false≢true (sym j ∙ e)); accepted = λ _ _. (refl, closed_table t); line = refl; refused = λ f. absurd (f refl) }
    go zero true i j = record { faulty = λ f. absurd (f i); nine = λ _ _. refl; accepted = λ _ e. absurd (true≢false (sym j ∙ e)); line = refl; refused = λ _. refl }
    go (suc n) c i j = record { faulty = λ _. sym i; nine = λ e. absurd (omega arith); accepted = λ e. absurd (omega arith); line = refl; refused = λ _. refl }

answers_only : (t : Table) (r s : Closing) → Answers t r → Answers t s → r ≡ s
answers_only t r s a b = go (fault t) t.closed refl refl
  where
    same : r.number ≡ s.number → r.table ≡ s.table → r ≡ s
    same e f = λ ι. record { number = e ι; line = (a.line ∙ sym b.line) ι; table = f ι }

    go : (n : ℕ) (c : Bool) → fault t ≡ n → t.closed ≡ c → r ≡ s
    go zero false i j = let x = a.accepted i j in let y = b.accepted i j in same (x.0 ∙ sym y.0) (closed_only t r.table s.table x.1 y.1)
    go zero true i j = let x = a.nine i j in let y = b.nine i j in same (x ∙ sym y) (a.refused (omega arith) ∙ sym (b.refused (omega arith)))
    go (suc n) c i j = let x = a.faulty (omega arith) in let y = b.faulty (omega arith) in same (x ∙ sym y) (a.refused (omega arith) ∙ sym (b.refused (omega arith)))

pub close_is : (t : Table) (r : Closing) → (r ≡ close t) ↔ Answers t r
close_is t r = (λ e. rw e (answers t), λ a. answers_only t r (close t) a (answers t))
