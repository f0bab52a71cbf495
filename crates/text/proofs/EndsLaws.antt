-- Reading the lines that a table stands for ends as `lines_fault` says: with that fault, or with a table that is the same in all that counts.
use Prim.Native.Nat.{ℕ, zero, suc, ◌+◌, ◌-◌, ◌≤◌, ◌<◌}
use Rattle.std.specs.Prelude.{◌≡◌, Bool, true, false, eqb, length, get_or, set, replicate}
use Rattle.std.proofs.Math.Path.{refl}
use Rattle.std.proofs.Common.{sym, ◌∙◌, subst, length-set, get_or-set_same}
use mathlib.Core.List.{List, [], ◌++◌, append_assoc, append-nil}
use Rattle.std.proofs.Math.Option.{Option, none, some}
use native.Mathlib.Omega.{arith}
use Rattle.std.proofs.Math.Seq.{get_or-set_other}
use borrow.Author.Tests.{eqb-true, eqb-false, lt-ltb, le-ltb, le-leb, lt-leb}
use Rattle.table.specs.Cases.{cases}
use Rattle.table.specs.Mask.{members}
use Rattle.table.specs.Table.{no_slot, no_task, no_sem, no_queue, no_proc, no_slots, outside, task_at, sem_at, queue_at, proc_at, node_in, parts}
use Rattle.table.specs.declared.Slot.{Slot}
use Rattle.table.specs.declared.Queue.{Queue}
use Rattle.table.specs.declared.Proc.{Proc}
use Rattle.table.specs.declared.Table.{Table}
use Rattle.text.specs.Number.{bytes}
use Rattle.text.specs.declared.Fault.{Fault}
use Rattle.text.specs.declared.Fault.TheVariants.{Index}
use Rattle.text.specs.Value.{NodeKind, ValueKind, spell, check, or_else}
use Rattle.text.specs.Line.{Line, Vals, write, Outcome, took, refused, Parser, onto, ◌>>=◌, give, differs, after, field_of, line, line_fault}
use Rattle.text.proofs.LineLaws.{Sound, judgement, line_write, head_sound, counts_sound, task_sound, sem_sound, queue_sound, proc_sound, node_sound}
use Rattle.text.specs.Format.{head_line, counts_line, task_line, sem_line, queue_line, proc_line, Scope, node_line, fields, set_of, node_of, Described, no_line, described, describe, task_of, task_vals, sem_of, sem_vals}
use Rattle.text.specs.Reader.{rows, queue_of, Numbered, node_row, slot_of, open_nodes, stands, further_nodes, closed_nodes, nodes_of, proc_of, scope_of, proc_row, body, table, concat_from}
use Rattle.text.specs.Writer.{queue_vals, proc_vals, node_text, scope, proc_text, text}
use Rattle.text.proofs.LinedLaws.{all_same, proc_is}
use Rattle.text.proofs.ValueLaws.{no}
use Rattle.text.proofs.NodeLaws.{by_line, node_from}
use Rattle.text.specs.Structure.{first_of, node_due, gap, place_fault, last_proc, proc_fault, lines_fault}

-- ---- outcomes, up to line numbers: with no fault, something that has P, and s is left; else the fault

pub data Ends {A : Type 0} (P : A → Type 0) (s : List ℕ) : Option Fault → Outcome A → Type 0 where
  ends_took : {a : A} {l : ℕ} → P a → Ends P s none (took a l s)
  ends_refused : {c : Fault} {l : ℕ} → Ends P s (some c) (refused c l)

module _ {A B : Type 0} {P : A → Type 0} {Q : B → Type 0} {s r : List ℕ} where
  ends_then : {c d : Option Fault} {o : Outcome A} (f : A → Parser B) → Ends P s c o → ((a : A) (l : ℕ) → c ≡ none → P a → Ends Q r d (f a l s)) → Ends Q r (or_else c d) (onto o f)
  ends_then f (ends_took {a = a} {l = l} p) k = k a l refl p
  ends_then f ends_refused k = ends_refused

  -- where nothing more goes wrong
  ends_last : {c : Option Fault} {o : Outcome A} (f : A → Parser B) → Ends P s c o → ((a : A) (l : ℕ) → P a → Ends Q r none (f a l s)) → Ends Q r c (onto o f)
  ends_last f (ends_took {a = a} {l = l} p) k = k a l p
  ends_last f ends_refused k = ends_refused

ends_map : {A B : Type 0} {P : A → Type 0} {Q : B → Type 0} {s : List ℕ} {c : Option Fault} {o : Outcome A} (h : A → B) → Ends P s c o → ((a : A) → P a → Q (h a)) → Ends Q s c (onto o (λ a. give (h a)))
ends_map h e k = ends_last (λ a. give (h a)) e (λ a l p. ends_took (k a p))

ends_weaken : {A : Type 0} {P Q : A → Type 0} {s : List ℕ} {c : Option Fault} {o : Outcome A} → ((a : A) → P a → Q a) → Ends P s c o → Ends Q s c o
ends_weaken k (ends_took {a = a} p) = ends_took (k a p)
ends_weaken k ends_refused = ends_refused

-- where there is a fault, what has P and what is left do not matter
ends_fault : {A : Type 0} {P Q : A → Type 0} {s r : List ℕ} {c : Fault} {o : Outcome A} → Ends P s (some c) o → Ends Q r (some c) o
ends_fault ends_refused = ends_refused

-- a line that was written: its values, or the first of their faults
ends_line : (d : Line) (P : Vals d → Type 0) → Sound d → (w : Vals d) (l : ℕ) (s : List ℕ) → P w → Ends P s (line_fault d w) (line d l (write d w ++ s))
ends_line d P g w l s p = rw (line_write d g w l s) (go (line_fault d w))
  where
    go : (c : Option Fault) → Ends P s c (judgement w c l s)
    go none = ends_took p
    go (some f) = ends_refused

-- and what is read behind it
line_then : {B : Type 0} {Q : B → Type 0} {r : List ℕ} {c : Option Fault} (d : Line) → Sound d → (w : Vals d) (l : ℕ) (s : List ℕ) (f : Vals d → Parser B)
    → ((l : ℕ) → line_fault d w ≡ none → Ends Q r c (f w l s)) → Ends Q r (or_else (line_fault d w) c) (onto (line d l (write d w ++ s)) f)
line_then d g w l s f k = ends_then f (ends_line d (λ v. v ≡ w) g w l s refl) (λ v l n e. rw e (k l n))

ends_row : {A : Type 0} (Q : A → Type 0) (d : Line) → Sound d → (w : Vals d) (l : ℕ) (s : List ℕ) (h : Vals d → A) → Q (h w) → Ends Q s (line_fault d w) ((line d >>= λ w. give (h w)) l (write d w ++ s))
ends_row Q d g w l s h q = ends_map h (ends_line d (λ v. Q (h v)) g w l s q) (λ a p. p)

-- ---- rows

-- ys holds at the n places from i on what has Q, and is xs before them
record Placed {A : Type 0} (d : A) (Q : ℕ → A → Type 0) (n i : ℕ) (xs ys : List A) : Type 0 where
  inside : (j : ℕ) → i ≤ j → j < i + n → j < length xs → Q j (get_or ys j d)
  before : (j : ℕ) → j < i → get_or ys j d ≡ get_or xs j d

placed_none : {A : Type 0} (d : A) (Q : ℕ → A → Type 0) (i : ℕ) (xs : List A) → Placed d Q 0 i xs xs
placed_none d Q i xs = record { inside = λ j l u k. absurd (omega arith); before = λ j l. refl }

-- one place more, at i, where zs is xs before i and has Q at i
placed_more : {A : Type 0} (d : A) (Q : ℕ → A → Type 0) (n i : ℕ) (xs zs ys : List A) → length zs ≡ length xs → ((j : ℕ) → j < i → get_or zs j d ≡ get_or xs j d) → (i < length xs → Q i (get_or zs i d))
    → Placed d Q n (suc i) zs ys → Placed d Q (suc n) i xs ys
placed_more d Q n i xs zs ys m b q h = record {
  inside = λ j l u k. cases (eqb j i)
      (λ e. let p : j ≡ i = eqb-true j i e in rw (p, h.before i (omega arith)) (q (omega arith)))
      (λ e. h.inside j (omega (arith, eqb-false j i e)) (omega arith) (omega arith));
  before = λ j l. h.before j (omega arith) ∙ b j l;
}

placed_set : {A : Type 0} (d : A) (Q : ℕ → A → Type 0) (n i : ℕ) (xs ys : List A) (a : A) → Q i a → Placed d Q n (suc i) (set xs i a) ys → Placed d Q (suc n) i xs ys
placed_set d Q n i xs ys a q =
    placed_more d Q n i xs (set xs i a) ys (length-set xs i a) (λ j l. get_or-set_other xs i j a d (λ p. omega arith)) (λ l. rw (get_or-set_same xs i a d l) q)

-- rows whose texts g stand one after another, up to the one before e, each read as what has its Q or with its fault
ends_rows : {A : Type 0} (d : A) (Q : ℕ → A → Type 0) (f : ℕ → Parser A) (g : ℕ → List ℕ) (c : ℕ → Option Fault) (s : List ℕ) (e : ℕ)
    → ((i n l : ℕ) → suc i + n ≡ e → Ends (Q i) (concat_from g n (suc i) ++ s) (c i) (f i l (g i ++ (concat_from g n (suc i) ++ s))))
    → (n i : ℕ) → i + n ≡ e → (xs : List A) (l : ℕ) → Ends (Placed d Q n i xs) s (first_of c n i) (rows f n i xs l (concat_from g n i ++ s))
unfolding rows concat_from first_of
ends_rows d Q f g c s e row zero i h xs l = ends_took (placed_none d Q i xs)
ends_rows d Q f g c s e row (suc n) i h xs l =
    rw (append_assoc (g i) (concat_from g n (suc i)) s)
    (ends_then _ (row i n l (omega arith)) (λ a k z q.
    ends_weaken (λ ys. placed_set d Q n i xs ys a q) (ends_rows d Q f g c s e row n (suc i) (omega arith) (set xs i a) k)))

-- rows of one line each, and what is read behind them
rows_then : {A B : Type 0} (z : A) (Q : ℕ → A → Type 0) {R : B → Type 0} (d : ℕ → Line) → ((i : ℕ) → Sound (d i)) → (w : (i : ℕ) → Vals (d i)) (h : (i : ℕ) → Vals (d i) → A) → ((i : ℕ) → Q i (h i (w i)))
    → (n : ℕ) (xs : List A) (l : ℕ) (s : List ℕ) {r : List ℕ} {c : Option Fault} (f : List A → Parser B) → ((ys : List A) (l : ℕ) → Placed z Q n 0 xs ys → Ends R r c (f ys l s))
    → Ends R r (or_else (first_of (λ i. line_fault (d i) (w i)) n 0) c) (onto (rows (λ i. line (d i) >>= λ w. give (h i w)) n 0 xs l (concat_from (λ i. write (d i) (w i)) n 0 ++ s)) f)
rows_then z Q d g w h q n xs l s f k = ends_then f
    (ends_rows z Q (λ i. line (d i) >>= λ w. give (h i w)) (λ i. write (d i) (w i)) (λ i. line_fault (d i) (w i)) s n (λ i m l e. ends_row (Q i) (d i) (g i) (w i) l _ (h i) (q i)) n 0 (omega arith) xs l)
    (λ ys l e p. k ys l p)

-- ---- nodes

-- what follows a procedure's lines: the text's end behind the last procedure, else a line that does not begin `node=`
abbrev Lacking : Bool → List ℕ → Type 0
Lacking true s = s ≡ []
Lacking false s = after (bytes "node=") s ≡ differs

lacking_field : (is_last : Bool) (k : ValueKind) (l : ℕ) (s : List ℕ) → Lacking is_last s → field_of (bytes "node=") k l s ≡ refused (node_due is_last) l
unfolding field_of after
lacking_field true k l s h = rw h
lacking_field false k l s h = rw h

lacking_begins : (is_last : Bool) (s : List ℕ) → Lacking is_last s → stands (bytes "node=") s ≡ false
unfolding after
lacking_begins true s h = rw h
lacking_begins false s h = rw h

module _ (t : Table) (q : Proc) where
  abbrev c : Scope
  c = scope t q

  abbrev d : ℕ → Described c
  d j = describe c (node_in q j)

  abbrev lines : ℕ → List ℕ
  lines j = node_text c j (d j)

  -- node j's line, read where a number from lo to below n is due
  ends_node : (lo n j l : ℕ) (k : NodeKind) (w : Vals (fields c k)) (s : List ℕ)
      → Ends (λ x. (x.at ≡ j) × (x.node ≡ node_of c k w)) s (line_fault (node_line c lo n) (j, (k, w))) (node_row c lo n l (node_text c j (described k w) ++ s))
  unfolding write spell
  ends_node lo n j l k w s = ends_row (λ x. (x.at ≡ j) × (x.node ≡ node_of c k w)) (node_line c lo n) (node_sound c lo n) (j, (k, w)) l s (λ v. record { at = v.0; node = node_of c v.1.0 v.1.1 }) (refl, refl)

  -- what is read from node j's place
  abbrev Read-back : ℕ → Slot → Type 0
  Read-back j x = x.node ≡ node_from c (d j)

  -- a procedure that is the table's last or not
  module _ (is_last : Bool) where
    -- the fault where a node before i is due, with n places from i on left
    ends_gap : {P : Numbered → Type 0} {r : List ℕ} (lo n i l : ℕ) (s : List ℕ) → lo < i → Lacking is_last s
        → Ends P r (some (gap is_last q n i)) (node_row c lo (suc lo) l (concat_from lines n i ++ s))
    unfolding gap concat_from line describe parts line_fault check
    ends_gap lo zero i l s u h = rw (lacking_field is_last (ValueKind.number lo (suc lo) Index) l s h) ends_refused
    ends_gap lo (suc n) i l s u h = by_line c (node_in q i)
        (λ a e. rw a (ends_gap lo n (suc i) l s (omega arith) h))
        (λ k w a e.
        let z : line_fault (node_line c lo (suc lo)) (i, (k, w)) ≡ some Index = rw (le-leb lo i (omega arith), le-ltb i (suc lo) (omega arith)) in
        rw (a, e, append_assoc (node_text c i (described k w)) (concat_from lines n (suc i)) s) (ends_fault (rw z at (ends_node lo (suc lo) i l k w (concat_from lines n (suc i) ++ s)))))

    abbrev fault_at : ℕ → Option Fault
    fault_at j = place_fault c is_last q j (d j)

    ends_open : t.closed ≡ false → (s : List ℕ) (l : ℕ) → Lacking is_last s
        → Ends (Placed no_slot Read-back q.nodes 0 no_slots) s (first_of fault_at q.nodes 0) (open_nodes c l (concat_from lines q.nodes 0 ++ s))
    ends_open o s l h = ends_rows no_slot Read-back _ lines fault_at s q.nodes row q.nodes 0 (omega arith) no_slots l
      where
        row : (i n l : ℕ) → suc i + n ≡ q.nodes
            → Ends (Read-back i) (concat_from lines n (suc i) ++ s) (fault_at i) ((node_row c i (suc i) >>= λ x. give (slot_of x)) l (lines i ++ (concat_from lines n (suc i) ++ s)))
        row i n l e = by_line c (node_in q i)
            (λ a b.
            let m : q.nodes - suc i ≡ n = omega arith in
            let z : place_fault c is_last q i no_line ≡ some (gap is_last q n (suc i)) = rw (o, m) in
            rw (b, z) (ends_map {P = λ x. Read-back i (slot_of x)} slot_of (ends_gap i n (suc i) l s (omega arith) h) (λ x p. p)))
            (λ k w a b. rw b (ends_map slot_of (ends_node i (suc i) i l k w (concat_from lines n (suc i) ++ s)) (λ x p. rw b p.1)))

    -- closed: the further nodes, with n places from i on, behind the node `last`
    ends_further : t.closed ≡ true → (s : List ℕ) → Lacking is_last s
        → (n i f last : ℕ) → i + n ≡ q.nodes → last < i → n ≤ f → (xs : List Slot) → ((j : ℕ) → i ≤ j → get_or xs j no_slot ≡ no_slot) → (l : ℕ)
        → Ends (Placed no_slot Read-back n i xs) s (first_of fault_at n i) (further_nodes c f last xs l (concat_from lines n i ++ s))
    unfolding further_nodes first_of concat_from write after line_fault check
    ends_further o s h zero i zero last m u v xs b l = ends_took (placed_none no_slot Read-back i xs)
    ends_further o s h zero i (suc f) last m u v xs b l = rw (lacking_begins is_last s h) (ends_took (placed_none no_slot Read-back i xs))
    ends_further o s h (suc n) i zero last m u v xs b l = absurd (omega arith)
    ends_further o s h (suc n) i (suc f) last m u v xs b l = by_line c (node_in q i)
        (λ a e.
        let z : place_fault c is_last q i no_line ≡ none = rw (o, lt-ltb 0 i (omega arith)) in
        rw (e, z) (ends_weaken (λ ys. placed_more no_slot Read-back n i xs xs ys refl (λ j l. refl) (λ l. rw (e, b i (omega arith))))
        (ends_further o s h n (suc i) (suc f) last (omega arith) (omega arith) (omega arith) xs (λ j g. b j (omega arith)) l)))
        (λ k w a e.
        let z : line_fault (node_line c (suc last) c.nodes) (i, (k, w)) ≡ line_fault (node_line c i (suc i)) (i, (k, w)) =
        rw (le-leb (suc last) i (omega arith), lt-ltb i q.nodes (omega arith), le-leb i i (omega arith), lt-ltb i (suc i) (omega arith))
        in
        rw (e, append_assoc (node_text c i (described k w)) (concat_from lines n (suc i)) s)
        (ends_then _ (rw z at (ends_node (suc last) c.nodes i l k w (concat_from lines n (suc i) ++ s))) (λ x y g p.
        rw p.0 (ends_weaken (λ ys. placed_set no_slot Read-back n i xs ys (slot_of x) (rw e p.1))
        (ends_further o s h n (suc i) f i (omega arith) (omega arith) (omega arith) (set xs i (slot_of x)) (λ j g. get_or-set_other xs i j (slot_of x) no_slot (λ p. omega arith) ∙ b j (omega arith)) y)))))

    -- closed, with suc m places
    ends_closed : t.closed ≡ true → (m : ℕ) → q.nodes ≡ suc m → (s : List ℕ) (l : ℕ) → Lacking is_last s
        → Ends (Placed no_slot Read-back (suc m) 0 no_slots) s (first_of fault_at (suc m) 0) (closed_nodes c l (concat_from lines (suc m) 0 ++ s))
    unfolding first_of concat_from
    ends_closed o m e s l h = by_line c (node_in q 0)
        (λ a b.
        let k : q.nodes - 1 ≡ m = omega arith in
        let z : place_fault c is_last q 0 no_line ≡ some (gap is_last q m 1) = rw (o, k) in
        rw (b, z) (ends_last {P = λ x. ⊥} {s = []} _ (ends_gap 0 m 1 l s (omega arith) h) (λ x y p. absurd {0} p)))
        (λ k w a b.
        rw (b, append_assoc (node_text c 0 (described k w)) (concat_from lines m 1) s)
        (ends_then _ (ends_node 0 1 0 l k w (concat_from lines m 1 ++ s)) (λ x y g p.
        ends_weaken (λ ys. placed_set no_slot Read-back m 0 no_slots ys (slot_of x) (rw b p.1))
        (ends_further o s h m 1 q.nodes 0 (omega arith) (omega arith) (omega arith) (set no_slots 0 (slot_of x)) (λ j u. get_or-set_other no_slots 0 j (slot_of x) no_slot (λ p. omega arith) ∙ all_same no_slot 32 j) y))))

    ends_nodes : (b : Bool) → t.closed ≡ b → 1 ≤ q.nodes → (s : List ℕ) (l : ℕ) → Lacking is_last s
        → Ends (Placed no_slot Read-back q.nodes 0 no_slots) s (first_of fault_at q.nodes 0) (nodes_of c b l (concat_from lines q.nodes 0 ++ s))
    ends_nodes false o m s l h = ends_open o s l h
    ends_nodes true o m s l h =
        let e : q.nodes ≡ suc (q.nodes - 1) = omega arith in
        subst (λ (k : ℕ). Ends (Placed no_slot Read-back k 0 no_slots) s (first_of fault_at k 0) (closed_nodes c l (concat_from lines k 0 ++ s))) (sym e) (ends_closed o (q.nodes - 1) e s l h)

-- ---- procedures

-- r is q in all that counts
pub record ProcSame (t : Table) (q r : Proc) : Type 0 where
  pub params : r.params ≡ q.params
  pub nodes : r.nodes ≡ q.nodes
  pub drop : t.closed ≡ true → r.drop ≡ set_of (members q.drop)
  pub node : (j : ℕ) → j < q.nodes → j < 32 → node_in r j ≡ node_from (scope t q) (describe (scope t q) (node_in q j))

pub vals_scope : (closed : Bool) (procs sems queues i : ℕ) (q : Proc)
    → scope_of closed procs sems queues i (proc_vals closed i q) ≡ record { closed = closed; procs = procs; sems = sems; queues = queues; vars = q.vars; nodes = q.nodes }
vals_scope false procs sems queues i q = refl
vals_scope true procs sems queues i q = refl

vals_same : (t : Table) (closed : Bool) → t.closed ≡ closed → (i : ℕ) (q : Proc) (l : List Slot) → Placed no_slot (Read-back t q) q.nodes 0 no_slots l → ProcSame t q (proc_of closed i (proc_vals closed i q) l)
vals_same t false o i q l h = record { params = refl; nodes = refl; drop = λ e. no (cc); node = λ j u v. h.inside j (omega arith) (omega arith) v }
vals_same t true o i q l h = record { params = refl; nodes = refl; drop = λ e. refl; node = λ j u v. h.inside j (omega arith) (omega arith) v }

ends_proc : (t : Table) (p l : ℕ) (s : List ℕ) → Lacking (last_proc t p) s
    → Ends (ProcSame t (proc_at t p)) s (proc_fault t p) (proc_row t.closed t.procs t.sems t.queues p l (proc_text t p ++ s))
ends_proc t p l s h =
    let q = proc_at t p in
    let b = t.closed in
    let v = proc_vals b p q in
    let nodes = concat_from (lines t q) q.nodes 0 in
    rw (append_assoc (write (proc_line b p) v) nodes s)
    (line_then (proc_line b p) (proc_sound b p) v l (nodes ++ s) _ (λ l n.
    rw (vals_scope b t.procs t.sems t.queues p q) (ends_map _ (ends_nodes t q (last_proc t p) b refl (omega (arith, ((proc_is b p q).0 n).3)) s l h) (λ xs k. vals_same t b refl p q xs k))))

-- what follows a procedure's lines, with n procedures behind it
procs_lacking : (t : Table) (n i : ℕ) → suc i + n ≡ t.procs → Lacking (last_proc t i) (concat_from (proc_text t) n (suc i) ++ [])
unfolding concat_from write after
procs_lacking t zero i e = rw (le-leb t.procs (suc i) (omega arith)) refl
procs_lacking t (suc n) i e = rw (lt-leb t.procs (suc i) (omega arith)) refl

-- ---- tables

-- r is t in all that counts
pub record Same (t r : Table) : Type 0 where
  pub closed : r.closed ≡ t.closed
  pub tasks : r.tasks ≡ t.tasks
  pub procs : r.procs ≡ t.procs
  pub sems : r.sems ≡ t.sems
  pub queues : r.queues ≡ t.queues
  pub task : (i : ℕ) → i < t.tasks → i < 4 → task_at r i ≡ task_at t i
  pub blank : (i : ℕ) → i < t.queues → i < 8 → t.closed ≡ true → (queue_at r i).blank ≡ (queue_at t i).blank
  pub proc : (p : ℕ) → p < t.procs → p < 8 → ProcSame t (proc_at t p) (proc_at r p)

vals_queue : (b : Bool) (i : ℕ) (x : Queue) → b ≡ true → (queue_of b i (queue_vals b i x)).blank ≡ x.blank
vals_queue true i x e = refl
vals_queue false i x e = no (cc)

pub ends_table : (t : Table) → Ends (Same t) [] (lines_fault t) (table 1 (text t))
unfolding lines_fault table text body
ends_table t =
    let b = t.closed in
    let counts : Vals counts_line = (t.tasks, (t.procs, (t.sems, (t.queues, tt)))) in
    let procs = concat_from (proc_text t) t.procs 0 in
    let queues = concat_from (λ i. write (queue_line b i) (queue_vals b i (queue_at t i))) t.queues 0 ++ procs in
    let sems = concat_from (λ i. write (sem_line i) (sem_vals i (sem_at t i))) t.sems 0 ++ queues in
    let tasks = concat_from (λ i. write (task_line t.procs i) (task_vals t.procs i (task_at t i))) t.tasks 0 ++ sems in
    line_then head_line head_sound (t.trap, (b, tt)) 1 (write counts_line counts ++ tasks) _ (λ l e.
    line_then counts_line counts_sound counts l tasks _ (λ l e.
    rows_then no_task (λ i x. x ≡ task_at t i) (task_line t.procs) (task_sound t.procs) (λ i. task_vals t.procs i (task_at t i)) (task_of t.procs) (λ i. refl) t.tasks (replicate 4 no_task) l sems _ (λ ts l h₁.
    rows_then no_sem (λ i x. x ≡ sem_at t i) sem_line sem_sound (λ i. sem_vals i (sem_at t i)) sem_of (λ i. refl) t.sems (replicate 8 no_sem) l queues _ (λ ss l h₂.
    rows_then no_queue (λ i x. b ≡ true → x.blank ≡ (queue_at t i).blank) (queue_line b) (queue_sound b) (λ i. queue_vals b i (queue_at t i)) (queue_of b) (λ i. vals_queue b i (queue_at t i)) t.queues (replicate 8 no_queue) l procs _ (λ qs l h₃.
    let ps = ends_rows outside (λ p. ProcSame t (proc_at t p)) (proc_row b t.procs t.sems t.queues) (proc_text t) (proc_fault t) [] t.procs (λ i n l e. ends_proc t i l _ (procs_lacking t n i e)) t.procs 0 (omega arith) (replicate 8 no_proc) l in
    ends_last _ (rw append-nil at ps) (λ ps l h₄. ends_took (
    record {
      closed = refl;
      tasks = refl;
      procs = refl;
      sems = refl;
      queues = refl;
      task = λ i l u. h₁.inside i (omega arith) (omega arith) u;
      blank = λ i l u. h₃.inside i (omega arith) (omega arith) u;
      proc = λ p l u. h₄.inside p (omega arith) (omega arith) u;
    })))))))
