-- An accepted text with more behind it: the reader says 20 with the line after the last, unless a line beginning `node=` stands behind a closed table's text.
use Prim.Native.Nat.{ℕ, zero, suc}
use Rattle.std.specs.Prelude.{◌≡◌, refl, ◌⊎◌, List, [], ◌∷◌, ◌++◌, Bool, true, false, eqb, set, replicate}
use Rattle.std.proofs.Common.{sym, ◌∙◌, ap, inr, append_assoc}
use Rattle.std.proofs.Math.Logic.{inl}
use Rattle.table.specs.Cases.{cases}
use Rattle.table.specs.Table.{no_task, no_sem, no_queue, no_proc, no_slots}
use Rattle.table.specs.declared.Slot.{Slot}
use Rattle.table.specs.declared.Proc.{Proc}
use Rattle.table.specs.declared.Table.{Table}
use Rattle.text.specs.declared.Fault.TheVariants.{Ended}
use Rattle.text.specs.Number.{bytes}
use Rattle.text.specs.Line.{Line, Vals, write, Outcome, took, refused, Parser, onto, ◌>>=◌, give, After, at, differs, broken, after, field_of, line}
use Rattle.text.specs.Format.{head_line, counts_line, task_line, sem_line, queue_line, proc_line, Scope, node_line, task_of, sem_of}
use Rattle.text.specs.Reader.{rows, queue_of, Numbered, node_row, slot_of, standing, stands, further_nodes, nodes_of, proc_of, scope_of, proc_row, at_end, body, table, read_lines, read}
use Rattle.text.proofs.ValueLaws.{no}
use Rattle.text.proofs.LineLaws.{key_after, Sound, line_write, line_read, onto_read, head_sound, counts_sound, task_sound, sem_sound, queue_sound, proc_sound, node_sound}
use Rattle.text.proofs.TableLaws.{end_read}
use Rattle.text.proofs.WithoutLaws.{read_short}
use Rattle.text.proofs.CutLaws.{early_is, read_reaches}
use Rattle.text.specs.Cut.{feeds, CarriesOn}

-- where a key differs from a text, it differs with more behind it
after_differs : (key s y : List ℕ) → after key s ≡ differs → after key (s ++ y) ≡ differs
unfolding after
after_differs [] s y e = no (cc)
after_differs (c ∷ key) [] y e = no (cc)
after_differs (c ∷ key) (d ∷ s) y e = cases (eqb c d) (λ q. rw q (after_differs key s y (rw q at e))) (λ q. rw q)

-- a node line that the text's end breaks off within its key
node_broken : (c : Scope) (lo n l : ℕ) (s : List ℕ) → after (bytes "node=") s ≡ broken → node_row c lo n l s ≡ refused Ended l
unfolding line field_of
node_broken c lo n l s e = rw e

-- where a node line was read, its key stands there, also with more behind it
node_stands : (c : Scope) (lo n l : ℕ) (s : List ℕ) (v : Numbered) (k : ℕ) (r y : List ℕ) → node_row c lo n l s ≡ took v k r → stands (bytes "node=") (s ++ y) ≡ true
unfolding write after
node_stands c lo n l s v k r y e = onto_read (line (node_line c lo n) l s) _ v k r e (λ w m x q h. rw (line_read (node_line c lo n) l s w m x q).0)

-- where nothing stands, it says nothing
abbrev Wants : {A : Type 0} → Parser A → Type 0
Wants {A} p = (l : ℕ) (a : A) (k : ℕ) (r : List ℕ) → p l [] ≡ took a k r → ⊥

-- where nothing stands, it stays there
abbrev Stays : {A : Type 0} → Parser A → Type 0
Stays {A} p = (l : ℕ) (a : A) (k : ℕ) (r : List ℕ) → p l [] ≡ took a k r → (l ≡ k) × (r ≡ [])

-- no rows, or one that says nothing
rows_stay : {A : Type 0} (f : ℕ → Parser A) → ((i : ℕ) → Wants (f i)) → (n i : ℕ) (xs : List A) → Stays (rows f n i xs)
unfolding rows
rows_stay f g zero i xs l a k r e = (cc e, cc e)
rows_stay f g (suc n) i xs l a k r e = onto_read (f i l []) _ a k r e (λ c m y q v. absurd (g i l c m y q))

proc_wants : (closed : Bool) (procs sems queues i : ℕ) → Wants (proc_row closed procs sems queues i)
unfolding line field_of after
proc_wants closed procs sems queues i l a k r e = no (cc)

-- what stands behind the text
module _ (b : ℕ) (x : List ℕ) where
  abbrev z : List ℕ
  z = b ∷ x

  -- ---- what does not look ahead

  -- what is read from a text is read from it with more behind it, and that is left
  abbrev Extends : {A : Type 0} → Parser A → Type 0
  Extends {A} p = (l : ℕ) (s : List ℕ) (a : A) (k : ℕ) (r : List ℕ) → p l s ≡ took a k r → p l (s ++ z) ≡ took a k (r ++ z)

  -- one that extends, and then what makes G
  extends_then : {A B : Type 0} (G : Outcome B → Type 0) (p : Parser A) (f : A → Parser B) → Extends p → (l : ℕ) (s : List ℕ) (c : B) (k : ℕ) (r : List ℕ) → (p >>= f) l s ≡ took c k r
      → ((a : A) (m : ℕ) (y : List ℕ) → f a m y ≡ took c k r → G (f a m (y ++ z))) → G ((p >>= f) l (s ++ z))
  extends_then G p f h l s c k r e then = onto_read (p l s) f c k r e (λ a m y q g. rw (h l s a m y q) (then a m y g))

  -- something made of what was read
  extends_made : {A B : Type 0} (p : Parser A) (f : A → B) → Extends p → Extends (p >>= λ a. give (f a))
  extends_made p f h l s c k r e = extends_then (λ o. o ≡ took c k (r ++ z)) p _ h l s c k r e (λ a m y q. cc q)

  -- a line that was read is what was written there, and is read again
  extends_line : (d : Line) → Sound d → Extends (line d)
  extends_line d g l s w k r e =
      let h = line_read d l s w k r e in
      rw (h.0, append_assoc (write d w) r z, line_write d g w l (r ++ z), h.2, h.1)

  extends_rows : {A : Type 0} (f : ℕ → Parser A) → ((i : ℕ) → Extends (f i)) → (n i : ℕ) (xs : List A) → Extends (rows f n i xs)
  unfolding rows
  extends_rows f h zero i xs l s a k r e = cc e
  extends_rows f h (suc n) i xs l s a k r e = extends_then (λ o. o ≡ took a k (r ++ z)) (f i) _ (h i) l s a k r e (λ c m y q. extends_rows f h n (suc i) (set xs i c) m y a k r q)

  -- rows of one line each
  extends_lines : {A : Type 0} (d : ℕ → Line) → ((i : ℕ) → Sound (d i)) → (h : (i : ℕ) → Vals (d i) → A) (n : ℕ) (xs : List A) → Extends (rows (λ i. line (d i) >>= λ w. give (h i w)) n 0 xs)
  extends_lines d g h n xs = extends_rows _ (λ i. extends_made (line (d i)) (h i) (extends_line (d i) (g i))) n 0 xs

  extends_node : (c : Scope) (lo n : ℕ) → Extends (node_row c lo n)
  extends_node c lo n = extends_made (line (node_line c lo n)) _ (extends_line (node_line c lo n) (node_sound c lo n))

  -- ---- what looks ahead to the next line

  -- so it is; or nothing was left, and what stands behind is a line that ends early
  abbrev Carried : {A : Type 0} → A → ℕ → List ℕ → Outcome A → Type 0
  Carried a k r o = (o ≡ took a k (r ++ z)) ⊎ ((r ≡ []) × (o ≡ refused Ended k))

  abbrev Carries : {A : Type 0} → Parser A → Type 0
  Carries {A} p = (l : ℕ) (s : List ℕ) (a : A) (k : ℕ) (r : List ℕ) → p l s ≡ took a k r → Carried a k r (p l (s ++ z))

  -- where what follows stays if nothing was left to it
  carries_then : {A B : Type 0} (p : Parser A) (f : A → Parser B) → Carries p → ((a : A) → Carries (f a)) → ((a : A) → Stays (f a)) → Carries (p >>= f)
  carries_then {A} p f h g i l s c k r e = onto_read (p l s) f c k r e (λ a m y q v. go a m y v (h l s a m y q))
    where
      go : (a : A) (m : ℕ) (y : List ℕ) → f a m y ≡ took c k r → Carried a m y (p l (s ++ z)) → Carried c k r (onto (p l (s ++ z)) f)
      go a m y v (inl u) = rw u (g a m y c k r v)
      go a m y v (inr (u, w)) = let j = i a m c k r (rw u at v) in inr (j.1, rw (w, j.0))

  carries_made : {A B : Type 0} (p : Parser A) (f : A → B) → Carries p → Carries (p >>= λ a. give (f a))
  carries_made p f h = carries_then p (λ a. give (f a)) h (λ a l s c k r e. inl (cc e)) (λ a m c k r e. (cc e, cc e))

  -- rows that each want something
  carries_rows : {A : Type 0} (f : ℕ → Parser A) → ((i : ℕ) → Carries (f i)) → ((i : ℕ) → Wants (f i)) → (n i : ℕ) (xs : List A) → Carries (rows f n i xs)
  unfolding rows
  carries_rows f h g zero i xs = λ l s a k r e. inl (cc e)
  carries_rows f h g (suc n) i xs = carries_then (f i) (λ c. rows f n (suc i) (set xs i c)) (h i) (λ c. carries_rows f h g n (suc i) (set xs i c)) (λ c. rows_stay f g n (suc i) (set xs i c))

  -- ---- node lines

  -- no line beginning `node=` stands behind a closed table's text
  abbrev Free : Bool → Type 0
  Free closed = (r : List ℕ) → closed ≡ true → z ≡ bytes "node=" ++ r → ⊥

  -- no node line stands there with more behind; or nothing stands there, and what stands behind ends within the key
  abbrev Stops : List ℕ → Type 0
  Stops s = (stands (bytes "node=") (s ++ z) ≡ false) ⊎ ((s ≡ []) × (after (bytes "node=") z ≡ broken))

  -- where no node line stands
  none_stands : Free true → (s : List ℕ) → stands (bytes "node=") s ≡ false → Stops s
  none_stands free [] e = go (after (bytes "node=") z) refl
    where
      go : (o : After) → after (bytes "node=") z ≡ o → Stops []
      go (at r) q = absurd (free r refl (key_after (bytes "node=") z r q))
      go differs q = inl (rw q)
      go broken q = inr (refl, q)
  none_stands free (c ∷ s) e = go (after (bytes "node=") (c ∷ s)) refl e
    where
      go : (o : After) → after (bytes "node=") (c ∷ s) ≡ o → standing o (c ∷ s) ≡ false → Stops (c ∷ s)
      go (at r) q h = no (cc)
      go differs q h = inl (rw (after_differs (bytes "node=") (c ∷ s) z q))
      go broken q h = no (cc)

  -- further lines of a closed procedure: the count is used up, one stands there, or none does
  carries_further : Free true → (c : Scope) (f last : ℕ) (xs : List Slot) → Carries (further_nodes c f last xs)
  unfolding further_nodes
  carries_further free c zero last xs l s a k r e = inl (cc e)
  carries_further free c (suc f) last xs l s a k r e = cases (stands (bytes "node=") s)
      (λ q. onto_read (node_row c (suc last) c.nodes l s) _ a k r (rw q at e) (λ v m y u h.
      rw (node_stands c (suc last) c.nodes l s v m y z u, extends_node c (suc last) c.nodes l s v m y u)
      (carries_further free c f v.at (set xs v.at (slot_of v)) m y a k r h)))
      (λ q. go (rw q at e) (none_stands free s q))
    where
      go : took xs l s ≡ took a k r → Stops s → Carried a k r (further_nodes c (suc f) last xs l (s ++ z))
      go e (inl h) = rw h (inl (cc e))
      go e (inr (h, u)) = rw (h, u, node_broken c (suc last) c.nodes l z u) (inr (cc (e, h), cc e))

  carries_nodes : (closed : Bool) → Free closed → (c : Scope) → Carries (nodes_of c closed)
  carries_nodes false free c l s a k r e = inl (extends_rows _ (λ j. extends_made (node_row c j (suc j)) slot_of (extends_node c j (suc j))) c.nodes 0 no_slots l s a k r e)
  carries_nodes true free c l s a k r e = extends_then (Carried a k r) (node_row c 0 1) _ (extends_node c 0 1) l s a k r e (λ v m y. carries_further free c c.nodes 0 (set no_slots 0 (slot_of v)) m y a k r)

  -- ---- procedures

  carries_proc : (closed : Bool) → Free closed → (procs sems queues i : ℕ) → Carries (proc_row closed procs sems queues i)
  carries_proc closed free procs sems queues i l s a k r e =
      extends_then (Carried a k r) (line (proc_line closed i)) _ (extends_line (proc_line closed i) (proc_sound closed i)) l s a k r e (λ w m y.
      carries_made (nodes_of (scope_of closed procs sems queues i w) closed) (proc_of closed i w) (carries_nodes closed free (scope_of closed procs sems queues i w)) m y a k r)

  carries_procs : (closed : Bool) → Free closed → (procs sems queues n i : ℕ) (xs : List Proc) → Carries (rows (proc_row closed procs sems queues) n i xs)
  carries_procs closed free procs sems queues = carries_rows (proc_row closed procs sems queues) (carries_proc closed free procs sems queues) (proc_wants closed procs sems queues)

  -- ---- tables

  -- the end of the text, where what stands behind is refused at the line reached
  carries_end : {A B : Type 0} (p : Parser A) (f : A → B) (c : B) → ((a : A) → f a ≡ c → Carries p) → (l : ℕ) (s : List ℕ) (k : ℕ) (r : List ℕ)
      → (p >>= λ a. at_end >>= λ u. give (f a)) l s ≡ took c k r → (p >>= λ a. at_end >>= λ u. give (f a)) l (s ++ z) ≡ refused Ended k
  carries_end {A} p f c h l s k r e = onto_read (p l s) _ c k r e (λ a m y q v. end_read _ m y c k r v (λ u w.
      let n : m ≡ k = cc w in
      go a m y u n (h a (cc w) l s a m y q)))
    where
      go : (a : A) (m : ℕ) (y : List ℕ) → y ≡ [] → m ≡ k → Carried a m y (p l (s ++ z)) → (p >>= λ a. at_end >>= λ u. give (f a)) l (s ++ z) ≡ refused Ended k
      go a m y u n (inl j) = rw (j, u, n)
      go a m y u n (inr j) = rw (j.1, n)

  -- a table read from a text: with more behind it, an early end at the line reached
  carries_table : (l : ℕ) (s : List ℕ) (t : Table) (k : ℕ) (r : List ℕ) → Free t.closed → table l s ≡ took t k r → table l (s ++ z) ≡ refused Ended k
  unfolding table body
  carries_table l s t k r free e =
      extends_then Refused (line head_line) _ (extends_line head_line head_sound) l s t k r e (λ h l s e.
      extends_then Refused (line counts_line) _ (extends_line counts_line counts_sound) l s t k r e (λ c l s e.
      extends_then Refused _ _ (extends_lines (task_line c.1.0) (task_sound c.1.0) (task_of c.1.0) c.0 (replicate 4 no_task)) l s t k r e (λ ts l s e.
      extends_then Refused _ _ (extends_lines sem_line sem_sound sem_of c.1.1.0 (replicate 8 no_sem)) l s t k r e (λ ss l s e.
      extends_then Refused _ _ (extends_lines (queue_line h.1.0) (queue_sound h.1.0) (queue_of h.1.0) c.1.1.1.0 (replicate 8 no_queue)) l s t k r e (λ qs l s e.
      carries_end _ _ t (λ ps q. carries_procs h.1.0 (λ r o. free r (sym (ap (λ (u : Table). u.closed) q) ∙ o)) c.1.0 c.1.1.0 c.1.1.1.0 c.1.0 0 (replicate 8 no_proc)) l s k r e)))))
    where
      Refused : Outcome Table → Type 0
      Refused o = o ≡ refused Ended k

-- ---- the promise

pub carries_on : CarriesOn
unfolding read_lines
carries_on s b x e n free = read_short (s ++ (b ∷ x)) n ∙ rw (carries_table b x 1 s (read s).table (suc (feeds s)) [] free (read_reaches s e)) (early_is s)
