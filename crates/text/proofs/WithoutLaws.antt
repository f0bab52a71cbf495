-- An accepted text without the last node lines of a closed table's last procedure: it is the text of the table without those nodes, and the reader says that table or 7.
use Prim.Native.Nat.{ℕ, zero, suc, ◌+◌, ◌-◌, ◌^◌, ◌≤◌, ◌<◌}
use Rattle.std.specs.Prelude.{◌≡◌, ◌⊎◌, true, false, ◌&&◌, ◌||◌, eqb, length, get_or, take, drop, replicate}
use Rattle.std.proofs.Math.Path.{refl, sym}
use Rattle.std.proofs.Common.{◌∙◌, ap, subst, inl, inr, arith, length-append, length-take, length-set, get_or-set_same, get_or-set_other, eqb-true, le-ltb}
use mathlib.Core.List.{List, [], ◌∷◌, ◌++◌, append_assoc, append-nil, append_cancel_right}
use Rattle.std.proofs.Math.Option.{Option, none, some}
use Rattle.std.proofs.Math.Bool.{Bool, not}
use Rattle.std.proofs.lemmas.List.{length-replicate}
use Rattle.std.proofs.Math.Seq.{drop-set-lt}
use Rattle.std.proofs.lemmas.Bool.{eqb-false}
use Rattle.table.specs.Cases.{cases}
use Rattle.table.specs.Mask.{bit, members}
use Rattle.table.specs.Table.{no_slot, outside, task_at, queue_at, proc_at, node_in, node_at, Act, alone, waits, signals, sends, receives, calls, returns, act, arcs, is_absent, parts}
use Rattle.table.specs.Shape.{Shaped}
use Rattle.table.specs.declared.Node.{Node}
use Rattle.table.specs.declared.Node.TheVariants.{Absent}
use Rattle.table.specs.declared.Slot.{Slot}
use Rattle.table.specs.declared.Proc.{Proc}
use Rattle.table.specs.declared.Table.{Table}
use Rattle.text.specs.declared.Fault.{Fault}
use Rattle.text.specs.declared.Fault.TheVariants.{Unclosed}
use Rattle.text.specs.Fault.{number}
use Rattle.text.proofs.NumberLaws.{by_order}
use Rattle.text.specs.Value.{unless, or_else}
use Rattle.text.specs.Line.{write, Outcome}
use Rattle.text.specs.Format.{proc_line, describe}
use Rattle.text.specs.Reader.{table, all_below, all_present, count_by, count_right, removed_right, task_fault, concat_from, node_late, late, good, first_late, read_lines, reading, read}
use Rattle.text.specs.Writer.{proc_vals, node_text, scope, proc_text, text, every, slot_empty, args_empty, is_zero, proc_tidy, tidy}
use Rattle.text.specs.Cut.{last_of, node_lines, nodes_below, without, CutFurther}
use Rattle.text.specs.Structure.{first_of, first_in, numbered}
use Rattle.text.proofs.RightLaws.{and_is}
use Rattle.text.specs.Right.{Within}
use Rattle.text.specs.Valid.{NodeValid, Lined}
use Rattle.text.proofs.LinedLaws.{all_same, of_lined}
use Rattle.text.proofs.EndsLaws.{Ends, ends_took, Same, ends_table}
use Rattle.text.proofs.StructureLaws.{late_same}
use Rattle.text.proofs.ValidLaws.{below_all, all_below_lem, all_behind, behind_all, tidy_parts, tasks_late, nodes_late, late_parts, valid_of}
use Rattle.text.proofs.TableLaws.{accepted}
use Rattle.text.proofs.ShapeLaws.{SmallArcs, absent_arcs}
use Rattle.text.proofs.RoundTrip.{read_good, read_text, read_fault_0}
use Rattle.text.proofs.ReadShaped.{read_shaped}
use Rattle.text.proofs.TextLength.{read_length}

-- ---- what things say, one after another

-- f is g but for y at the end
concat_end : {A : Type 0} (f g : ℕ → List A) (y : List A) (m n i : ℕ) → m ≡ i + n → ((j : ℕ) → j < m → f j ≡ g j) → f m ≡ g m ++ y → concat_from f (suc n) i ≡ concat_from g (suc n) i ++ y
unfolding concat_from
concat_end f g y m zero i e h z = let p : i ≡ m = omega arith in rw (append-nil (f i), append-nil (g i), p) z
concat_end f g y m (suc n) i e h z = rw (h i (omega arith), concat_end f g y m n (suc i) (omega arith) h z) (sym (append_assoc (g i) (concat_from g (suc n) (suc i)) y))

-- from i on g says nothing
concat_nothing : {A : Type 0} (g : ℕ → List A) (n i : ℕ) → ((j : ℕ) → i ≤ j → g j ≡ []) → concat_from g n i ≡ []
unfolding concat_from
concat_nothing g zero i h = refl
concat_nothing g (suc n) i h = rw (h i (omega arith)) (concat_nothing g n (suc i) (λ j l. h j (omega arith)))

-- g is f below k, and says nothing from there on
concat_cut : {A : Type 0} (f g : ℕ → List A) (k : ℕ) → ((j : ℕ) → j < k → f j ≡ g j) → ((j : ℕ) → k ≤ j → g j ≡ [])
    → (m n i : ℕ) → i ≤ k → m ≡ i + n - k → concat_from f n i ≡ concat_from g n i ++ concat_from f m k
unfolding concat_from
concat_cut f g k h z m zero i l e = let p : m ≡ 0 = omega arith in rw p
concat_cut f g k h z m (suc n) i l e = by_order i k
    (λ u. rw (h i u, concat_cut f g k h z m n (suc i) u (omega arith)) (sym (append_assoc (g i) (concat_from g n (suc i)) (concat_from f m k))))
    (λ u.
    let p : i ≡ k = omega arith in
    let q : m ≡ suc n = omega arith in
    rw (p, q, concat_nothing g (suc n) k z))

-- ---- a list without what stands from k on

-- before k it is the same, and behind that it is empty
cut_below : {A : Type 0} (d : A) (l : List A) (k n j : ℕ) → j < k → get_or (take k l ++ replicate n d) j d ≡ get_or l j d
cut_below d l zero n j h = absurd (omega arith)
cut_below d [] (suc k) n j h = all_same d n j
cut_below d (x ∷ l) (suc k) n zero h = refl
cut_below d (x ∷ l) (suc k) n (suc j) h = cut_below d l k n j (omega arith)

cut_above : {A : Type 0} (d : A) (l : List A) (k n j : ℕ) → k ≤ j → get_or (take k l ++ replicate n d) j d ≡ d
cut_above d l zero n j h = all_same d n j
cut_above d [] (suc k) n j h = all_same d n j
cut_above d (x ∷ l) (suc k) n zero h = absurd (omega arith)
cut_above d (x ∷ l) (suc k) n (suc j) h = cut_above d l k n j (omega arith)

-- ---- a procedure without its nodes from k on

module _ (k : ℕ) (q : Proc) where
  node_below : (j : ℕ) → j < k → node_in (nodes_below k q) j ≡ node_in q j
  node_below j h = ap (λ (x : Slot). x.node) (cut_below no_slot q.slots k (32 - k) j h)

  node_above : (j : ℕ) → k ≤ j → node_in (nodes_below k q) j ≡ Absent
  node_above j h = ap (λ (x : Slot). x.node) (cut_above no_slot q.slots k (32 - k) j h)

  -- each node is the same, or is absent from k on
  left_node : (P : Node → Type 0) (j : ℕ) → P (node_in q j) → (k ≤ j → P Absent) → P (node_in (nodes_below k q) j)
  left_node P j a b = by_order j k (λ h. rw (node_below j h) a) (λ h. rw (node_above j h) (b h))

  -- it has as many places
  slots_long : length q.slots ≡ 32 → length (nodes_below k q).slots ≡ 32
  slots_long h = rw (length-append (take k q.slots) (replicate (32 - k) no_slot), length-take k q.slots, length-replicate (32 - k) no_slot) (omega arith)

  -- its line is the same
  left_vals : (b : Bool) (i : ℕ) → proc_vals b i (nodes_below k q) ≡ proc_vals b i q
  left_vals true i = refl
  left_vals false i = refl

  -- unused places stay empty
  left_tidy : (b : Bool) → proc_tidy b q ≡ true → proc_tidy b (nodes_below k q) ≡ true
  unfolding parts every
  left_tidy b e =
      let f : ℕ → Bool = λ j. args_empty (node_in q j) in
      let g : ℕ → Bool = λ j. args_empty (node_in (nodes_below k q) j) in
      let slots = (nodes_below k q).slots in
      let h = (and_is (every slot_empty (drop q.nodes q.slots)) (all_below q.nodes f && (b || is_zero q.drop))).0 e in
      let a = (and_is (all_below q.nodes f) (b || is_zero q.drop)).0 h.1 in
      (and_is (every slot_empty (drop q.nodes slots)) (all_below q.nodes g && (b || is_zero q.drop))).1 (
        behind_all slot_empty slots no_slot q.nodes (λ j l. left_node (λ x. is_absent x ≡ true) j (all_behind slot_empty q.slots no_slot q.nodes j h.0 refl l) (λ u. refl)),
        (and_is (all_below q.nodes g) (b || is_zero q.drop)).1 (
          all_below_lem q.nodes g (λ j l. left_node (λ x. args_empty x ≡ true) j (below_all q.nodes f a.0 j l) (λ u. refl)),
          a.1,
        ),
      )

-- ---- a table without its last procedure's nodes from k on

module _ (k : ℕ) (t : Table) (v : Shaped t) (low : 1 ≤ t.procs) (high : t.procs ≤ 8) where
  -- procedures before the last are the same; the last lacks the nodes
  proc_before : (p : ℕ) → p < last_of t → proc_at (without k t) p ≡ proc_at t p
  proc_before p h = get_or-set_other t.proc (last_of t) p _ outside (λ e. omega arith)

  proc_last : proc_at (without k t) (last_of t) ≡ nodes_below k (proc_at t (last_of t))
  proc_last = get_or-set_same t.proc (last_of t) _ outside (omega (arith, v.procs))

  -- each procedure is the same, or is the last
  left_proc : (P : Proc → Type 0) (p : ℕ) → P (proc_at t p) → P (nodes_below k (proc_at t p)) → P (proc_at (without k t) p)
  left_proc P p a b = cases (eqb p (last_of t))
      (λ e. let h : p ≡ last_of t = eqb-true p (last_of t) e in subst (λ (i : ℕ). P (nodes_below k (proc_at t i)) → P (proc_at (without k t) i)) (sym h) (λ c. subst P (sym proc_last) c) b)
      (λ e. subst P (sym (get_or-set_other t.proc (last_of t) p _ outside (eqb-false p (last_of t) e))) a)

  -- it is of the declared type
  left_shaped : Shaped (without k t)
  left_shaped = record {
    tasks = v.tasks;
    sems = v.sems;
    queues = v.queues;
    procs = length-set t.proc (last_of t) _ ∙ v.procs;
    slots = λ p h. left_proc (λ q. length q.slots ≡ 32) p (v.slots p h) (slots_long k (proc_at t p) (v.slots p h));
    drops = λ p. left_proc (λ q. q.drop < 2 ^ 32) p (v.drops p) (v.drops p);
    arcs = λ p n. left_proc (λ q. SmallArcs (node_in q n)) p (v.arcs p n) (left_node k (proc_at t p) SmallArcs n (v.arcs p n) (λ h. absent_arcs));
  }

  -- its unused places are empty
  tidy_without : tidy t ≡ true → tidy (without k t) ≡ true
  unfolding tidy
  tidy_without e =
      let h = tidy_parts t e in
      rw (
        h.0,
        h.1,
        h.2,
        drop-set-lt t.procs t.proc (last_of t) (nodes_below k (proc_at t (last_of t))) (omega arith),
        h.3,
        all_below_lem t.queues (λ i. t.closed || not (queue_at t i).blank) h.4,
        all_below_lem t.procs (λ p. proc_tidy t.closed (proc_at (without k t) p)) (λ p l. left_proc (λ q. proc_tidy t.closed q ≡ true) p (h.5 p l) (left_tidy k (proc_at t p) t.closed (h.5 p l))),
      )

  -- no line of it has a fault
  left_lined : t.closed ≡ true → 1 ≤ k → Lined t → Lined (without k t)
  left_lined o f w = record {
    trap = w.trap;
    tasks_low = w.tasks_low;
    tasks = w.tasks;
    procs_low = w.procs_low;
    procs = w.procs;
    sems = w.sems;
    queues = w.queues;
    top = w.top;
    count = w.count;
    cap = w.cap;
    proc = λ p l. let g = w.proc p l in record {
      params = left_proc (λ q. q.params ≤ 4) p g.params g.params;
      vars_low = left_proc (λ q. q.params ≤ q.vars) p g.vars_low g.vars_low;
      vars = left_proc (λ q. q.vars ≤ 16) p g.vars g.vars;
      nodes_low = left_proc (λ q. 2 ≤ q.nodes) p g.nodes_low g.nodes_low;
      nodes = left_proc (λ q. q.nodes ≤ 32) p g.nodes g.nodes;
      drop = left_proc (λ q. t.closed ≡ true → Within 0 q.params (members q.drop)) p g.drop g.drop;
      node = left_proc (λ q. (n : ℕ) → n < q.nodes → NodeValid (scope t q) n (node_in q n)) p g.node
          (λ n u. left_node k (proc_at t p) (λ x. NodeValid (scope t (proc_at t p)) n x) n (g.node n u) (λ h. (omega arith, o)));
    };
  }

  -- its calls pass as many arguments as before
  left_count : (a : Act) → count_by (without k t) a ≡ count_by t a
  left_count alone = refl
  left_count (waits i) = refl
  left_count (signals i) = refl
  left_count (sends q x) = refl
  left_count (receives q x) = refl
  left_count (calls p xs) = ap (λ (n : ℕ). eqb xs.len n) (left_proc (λ q. q.params ≡ (proc_at t p).params) p refl refl)
  left_count returns = refl

  -- so none has the wrong count, where none had
  left_counts : ((p n : ℕ) → p < t.procs → n < (proc_at t p).nodes → count_right t (node_at t p n) ≡ true)
      → (p n : ℕ) → p < t.procs → n < (proc_at (without k t) p).nodes → count_right (without k t) (node_at (without k t) p n) ≡ true
  unfolding parts
  left_counts c p n l = left_proc (λ q. n < q.nodes → count_right (without k t) (node_in q n) ≡ true) p
      (λ u. left_count (act (node_at t p n)) ∙ c p n l u)
      (λ u. left_node k (proc_at t p) (λ x. count_right (without k t) x ≡ true) n (left_count (act (node_at t p n)) ∙ c p n l u) (λ h. refl))

  -- what its procedures write: those before the last the same, the last all but the lines of the absent nodes
  proc_text_before : (p : ℕ) → p < last_of t → proc_text t p ≡ proc_text (without k t) p
  proc_text_before p h = rw (proc_before p h)

  proc_text_last : proc_text t (last_of t) ≡ proc_text (without k t) (last_of t) ++ node_lines k t
  unfolding describe
  proc_text_last =
      let q = proc_at t (last_of t) in
      let c = scope t q in
      let f : ℕ → List ℕ = λ j. node_text c j (describe c (node_in q j)) in
      let g : ℕ → List ℕ = λ j. node_text c j (describe c (node_in (nodes_below k q) j)) in
      let a = write (proc_line t.closed (last_of t)) (proc_vals t.closed (last_of t) q) in
      let cut = concat_cut f g k (λ j h. rw (node_below k q j h)) (λ j h. rw (node_above k q j h)) (q.nodes - k) q.nodes 0 (omega arith) (omega arith) in
      rw (proc_last, left_vals k q t.closed (last_of t)) (ap (λ (x : List ℕ). a ++ x) cut ∙ sym (append_assoc a (concat_from g q.nodes 0) (node_lines k t)))

  procs_text : concat_from (proc_text t) t.procs 0 ≡ concat_from (proc_text (without k t)) t.procs 0 ++ node_lines k t
  procs_text =
      let e : suc (last_of t) ≡ t.procs = omega arith in
      subst (λ (n : ℕ). concat_from (proc_text t) n 0 ≡ concat_from (proc_text (without k t)) n 0 ++ node_lines k t) e
      (concat_end (proc_text t) (proc_text (without k t)) (node_lines k t) (last_of t) (last_of t) 0 (omega arith) proc_text_before proc_text_last)

-- a table's text is that of the table without its last procedure's nodes from k on, and behind it their lines
pub text_without : (k : ℕ) (t : Table) → Shaped t → 1 ≤ t.procs → t.procs ≤ 8 → text t ≡ text (without k t) ++ node_lines k t
unfolding text
text_without k t v low high = rw (procs_text k t v low high) (simp append_assoc)

-- ---- what the reader says of a table's text

-- the first late fault is the same, whatever the table; where there is none, the table is to be the same
first_same : (r u : Table) (l : ℕ) (fs : List (Option Fault)) → (first_late r l fs ≡ good r → r ≡ u) → first_late r l fs ≡ first_late u l fs
unfolding first_late
first_same r u l [] h = ap good (h refl)
first_same r u l (none ∷ fs) h = first_same r u (suc l) fs h
first_same r u l (some f ∷ fs) h = refl

-- of a table whose lines have no fault: its first late fault, or the table
text_says : (u : Table) → Shaped u → tidy u ≡ true → Lined u → read_lines (text u) ≡ first_late u 1 (late u)
unfolding read_lines
text_says u v e w = go (table 1 (text u)) refl (rw (of_lined u w) at (ends_table u))
  where
    go : (o : Outcome Table) → table 1 (text u) ≡ o → Ends (Same u) [] none o → read_lines (text u) ≡ first_late u 1 (late u)
    go o q (ends_took {a = r} h) =
        let z : late r ≡ late u = late_same u r h w in
        let p : read_lines (text u) ≡ first_late r 1 (late u) = rw (q, z) in
        p ∙ first_same r u 1 (late u) (λ g. let a = accepted (text u) r (p ∙ g) in sym (a.0.only a.1 u v e refl))

-- ---- late faults other than 6

-- none, or 7
data Mild : Option Fault → Type 0 where
  nothing : Mild none
  unclosed : Mild (some Unclosed)

mild_unless : (b : Bool) → Mild (unless b Unclosed)
mild_unless true = nothing
mild_unless false = unclosed

mild_else : {f g : Option Fault} → Mild f → Mild g → Mild (or_else f g)
mild_else nothing h = h
mild_else unclosed h = unclosed

mild_first : (f : ℕ → Option Fault) (n i : ℕ) → ((j : ℕ) → i ≤ j → j < i + n → Mild (f j)) → Mild (first_of f n i)
unfolding first_of
mild_first f zero i h = nothing
mild_first f (suc n) i h = mild_else (h i (omega arith) (omega arith)) (mild_first f n (suc i) (λ j l u. h j (omega arith) (omega arith)))

-- a task's, a node's
mild_task : (u : Table) (i : ℕ) → Mild (first_in (task_fault u i ∷ []))
unfolding first_in
mild_task u i = let q = proc_at u (task_at u i).top in mild_else (mild_unless (not u.closed || all_below q.params (λ j. bit j q.drop))) nothing

mild_node : (u : Table) (q : Proc) (x : Node) → count_right u x ≡ true → Mild (first_in (node_late u q x))
unfolding first_in
mild_node u q x e = cases (is_absent x) (λ a. rw a nothing) (λ a. rw (a, e) (mild_else (mild_unless (not u.closed || (all_present q (arcs x) && removed_right u x))) nothing))

-- a table's, where every call passes as many arguments as it should
mild_late : (u : Table) → ((p n : ℕ) → p < u.procs → n < (proc_at u p).nodes → count_right u (node_at u p n) ≡ true) → Mild (first_in (late u))
unfolding tasks_late nodes_late first_in
mild_late u c = rw (late_parts u) (mild_else
    (mild_first _ u.tasks 0 (λ i l h. mild_task u i))
    (mild_first (nodes_late u) u.procs 0 (λ p l h. mild_first _ (proc_at u p).nodes 0 (λ n m x. mild_node u (proc_at u p) (node_at u p n) (c p n (omega arith) (omega arith))))))

-- the reader's number is that of the first late fault
first_number : (u : Table) (l : ℕ) (fs : List (Option Fault)) → (reading (first_late u l fs)).number ≡ numbered (first_in fs)
unfolding first_late first_in
first_number u l [] = refl
first_number u l (none ∷ fs) = first_number u (suc l) fs
first_number u l (some f ∷ fs) = refl

mild_number : {f : Option Fault} {n : ℕ} → n ≡ numbered f → Mild f → (n ≡ 0) ⊎ (n ≡ 7)
unfolding number
mild_number e nothing = inl e
mild_number e unclosed = inr e

-- ---- the promise

-- a text that is not too long is read by its lines
pub read_short : (s : List ℕ) → length s ≤ 65536 → read s ≡ reading (read_lines s)
unfolding read
read_short s h = rw (le-ltb 65536 (length s) h, read)

-- an accepted text cut behind a node line of a closed table's last procedure
pub cut_further : CutFurther
cut_further s y e f =
    let t = (read (s ++ y)).table in
    let k = f.lowest in
    let u = without k t in
    let v = read_shaped (s ++ y) e in
    let w = valid_of t (read_fault_0 (s ++ y) e) in
    let low = w.lines.procs_low in
    let high = w.lines.procs in
    let same : s ≡ text u = append_cancel_right s (text u) y (sym (read_text (s ++ y) e) ∙ text_without k t v low high ∙ ap (λ (x : List ℕ). text u ++ x) (sym f.lines)) in
    let short : length s ≤ 65536 = omega (arith, length-append s y, read_length (s ++ y) t (read_good (s ++ y) e)) in
    let says : read s ≡ reading (first_late u 1 (late u)) =
    read_short s short ∙ ap reading (ap read_lines same ∙ text_says u (left_shaped k t v low high) (tidy_without k t v low high w.unused) (left_lined k t v low high f.closed f.not_first w.lines)) in
    let n : (read s).number ≡ numbered (first_in (late u)) = rw says (first_number u 1 (late u)) in
    record {
      same = same;
      says = says;
      number = mild_number n (mild_late u (left_counts k t v low high w.counts));
    }
