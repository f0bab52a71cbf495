-- What the reader accepts has the shape of the declared type `Table`: the lengths of its arrays, and masks of 32 places.
use Prim.Native.Nat.{ℕ, zero, suc, ◌^◌, ◌≤◌, ◌<◌}
use Rattle.std.specs.Prelude.{◌≡◌, List, [], ◌∷◌, Bool, true, false, length, get_or, set, replicate}
use Rattle.std.proofs.Common.{◌∙◌, subst, arith, length-set, pow_pos}
use Rattle.std.proofs.lemmas.List.{length-replicate}
use Rattle.table.specs.Mask.{pick}
use Rattle.table.specs.MaskLaws.{mask_of_lt}
use Rattle.table.specs.Table.{no_slot, no_task, no_sem, no_queue, no_proc, no_slots, outside, node_in, parts}
use Rattle.table.specs.Shape.{Shaped}
use Rattle.table.specs.declared.Slot.{Slot}
use Rattle.table.specs.declared.Proc.{Proc}
use Rattle.table.specs.declared.Table.{Table}
use Rattle.text.specs.declared.Fault.{Fault}
use Rattle.text.specs.Number.{bytes}
use Rattle.text.specs.Value.{NodeKind, start, set_kind, test, read as reads, call, wait, signal, send, recv, assert, out, return}
use Rattle.text.specs.Line.{Vals, Outcome, took, refused, Parser, onto, line}
use Rattle.text.specs.Format.{head_line, counts_line, proc_line, Scope, fields, node_line, node_of}
use Rattle.text.specs.Reader.{rows, task_row, sem_row, queue_row, Numbered, node_row, slot_of, stands, further_nodes, nodes_of, dropped_by, scope_of, proc_row, at_end, body, table, late, good, result_of, read_lines, read}
use Rattle.text.proofs.ValueLaws.{no}
use Rattle.text.proofs.TableLaws.{good_late}
use Rattle.text.proofs.ShapeLaws.{SmallArcs, absent_arcs}
use Rattle.text.proofs.RoundTrip.{read_good}

-- ---- outcomes: what was taken, if anything, has P

data Gives {A : Type 0} (P : A → Type 0) : Outcome A → Type 0 where
  gives_took : {a : A} {l : ℕ} {s : List ℕ} → P a → Gives P (took a l s)
  gives_refused : {f : Fault} {l : ℕ} → Gives P (refused f l)

gives_any : {A : Type 0} {P : A → Type 0} (o : Outcome A) → ((a : A) → P a) → Gives P o
gives_any (took a l s) h = gives_took (h a)
gives_any (refused f l) h = gives_refused

gives_then : {A B : Type 0} {P : A → Type 0} {Q : B → Type 0} {o : Outcome A} (f : A → Parser B) → Gives P o → ((a : A) (l : ℕ) (s : List ℕ) → P a → Gives Q (f a l s)) → Gives Q (onto o f)
gives_then f (gives_took {a = a} {l = l} {s = s} p) k = k a l s p
gives_then f gives_refused k = gives_refused

gives_either : {A : Type 0} {P : A → Type 0} (b : Bool) (p q : Parser A) (l : ℕ) (s : List ℕ) → Gives P (p l s) → Gives P (q l s) → Gives P (pick b p q l s)
gives_either true p q l s g h = g
gives_either false p q l s g h = h

-- nothing is asked of what was taken
abbrev Any : {A : Type 0} → A → Type 0
Any a = Unit {0}

any_then : {A B : Type 0} {Q : B → Type 0} (o : Outcome A) (f : A → Parser B) → ((a : A) (l : ℕ) (s : List ℕ) → Gives Q (f a l s)) → Gives Q (onto o f)
any_then o f k = gives_then {P = Any} f (gives_any o (λ a. tt)) (λ a l s p. k a l s)

-- ---- arrays: lists of n elements, each with P

abbrev Every : {A : Type 0} → (A → Type 0) → List A → Type 0
Every P [] = Unit {0}
Every P (x ∷ l) = P x × Every P l

abbrev Array : {A : Type 0} → (A → Type 0) → ℕ → List A → Type 0
Array P n l = (length l ≡ n) × Every P l

module _ {A : Type 0} (P : A → Type 0) where
  every_same : (n : ℕ) (a : A) → P a → Every P (replicate n a)
  every_same zero a p = tt
  every_same (suc n) a p = (p, every_same n a p)

  array_same : (n : ℕ) (a : A) → P a → Array P n (replicate n a)
  array_same n a p = (length-replicate n a, every_same n a p)

  every_set : (l : List A) (i : ℕ) (a : A) → P a → Every P l → Every P (set l i a)
  every_set [] i a p h = tt
  every_set (x ∷ l) zero a p h = (p, h.1)
  every_set (x ∷ l) (suc i) a p h = (h.0, every_set l i a p h.1)

  array_set : (n : ℕ) (l : List A) (i : ℕ) (a : A) → P a → Array P n l → Array P n (set l i a)
  array_set n l i a p h = (length-set l i a ∙ h.0, every_set l i a p h.1)

  -- what follows from P holds at each place; past the end it is to hold of d
  every_at : (H : A → Type 0) → ((x : A) → P x → H x) → (d : A) (l : List A) → Every P l → (i : ℕ) → (length l ≤ i → H d) → H (get_or l i d)
  every_at H k d [] h i e = e (omega arith)
  every_at H k d (x ∷ l) h zero e = k x h.0
  every_at H k d (x ∷ l) h (suc i) e = every_at H k d l h.1 i (λ u. e (omega arith))

  array_at : (n : ℕ) (l : List A) → Array P n l → (H : A → Type 0) → ((x : A) → P x → H x) → (d : A) (i : ℕ) → (n ≤ i → H d) → H (get_or l i d)
  array_at n l h H k d i e = every_at H k d l h.1 i (λ u. e (let m = h.0 in omega arith))

  -- rows of P put into an array leave one
  rows_array : (m : ℕ) (f : ℕ → Parser A) → ((i l : ℕ) (s : List ℕ) → Gives P (f i l s)) → (n i : ℕ) (xs : List A) → Array P m xs → (l : ℕ) (s : List ℕ) → Gives (Array P m) (rows f n i xs l s)
  unfolding rows
  rows_array m f row zero i xs h l s = gives_took h
  rows_array m f row (suc n) i xs h l s = gives_then _ (row i l s) (λ a l₁ s₁ p. rows_array m f row n (suc i) (set xs i a) (array_set m xs i a p h) l₁ s₁)

  array_rows : (m : ℕ) (a : A) → P a → (f : ℕ → Parser A) → ((i l : ℕ) (s : List ℕ) → Gives P (f i l s)) → (n l : ℕ) (s : List ℕ) → Gives (Array P m) (rows f n 0 (replicate m a) l s)
  array_rows m a p f row n = rows_array m f row n 0 (replicate m a) (array_same m a p)

-- ---- nodes

zero_small : 0 < 2 ^ 32
zero_small = pow_pos 32

node_small : (c : Scope) (k : NodeKind) (w : Vals (fields c k)) → SmallArcs (node_of c k w)
unfolding node_of parts
node_small c start w = (mask_of_lt 32 _, zero_small)
node_small c set_kind w = (mask_of_lt 32 _, zero_small)
node_small c test w = (mask_of_lt 32 _, mask_of_lt 32 _)
node_small c reads w = (mask_of_lt 32 _, zero_small)
node_small c call w = (mask_of_lt 32 _, zero_small)
node_small c wait w = (mask_of_lt 32 _, zero_small)
node_small c signal w = (mask_of_lt 32 _, zero_small)
node_small c send w = (mask_of_lt 32 _, zero_small)
node_small c recv w = (mask_of_lt 32 _, zero_small)
node_small c assert w = (mask_of_lt 32 _, zero_small)
node_small c out w = (mask_of_lt 32 _, zero_small)
node_small c return w = (zero_small, zero_small)

abbrev SmallSlot : Slot → Type 0
SmallSlot x = SmallArcs x.node

-- the 32 places of a procedure
abbrev Slots : List Slot → Type 0
Slots l = Array SmallSlot 32 l

no_slots_lem : Slots no_slots
no_slots_lem = array_same SmallSlot 32 no_slot absent_arcs

-- a node line, and what is read behind it
node_then : {B : Type 0} {Q : B → Type 0} (c : Scope) (lo n l : ℕ) (s : List ℕ) (f : Numbered → Parser B) → ((x : Numbered) (l : ℕ) (s : List ℕ) → SmallSlot (slot_of x) → Gives Q (f x l s))
    → Gives Q (onto (node_row c lo n l s) f)
node_then c lo n l s f = gives_then f (any_then (line (node_line c lo n) l s) _ (λ w l₁ s₁. gives_took (node_small c w.1.0 w.1.1)))

further_slots : (c : Scope) (f last : ℕ) (l : List Slot) → Slots l → (k : ℕ) (s : List ℕ) → Gives Slots (further_nodes c f last l k s)
unfolding further_nodes
further_slots c zero last l h k s = gives_took h
further_slots c (suc f) last l h k s = gives_either (stands (bytes "node=") s) _ _ k s
    (node_then c (suc last) c.nodes k s _ (λ x k₁ s₁ p. further_slots c f x.at (set l x.at (slot_of x)) (array_set SmallSlot 32 l x.at (slot_of x) p h) k₁ s₁))
    (gives_took h)

nodes_slots : (c : Scope) (closed : Bool) (l : ℕ) (s : List ℕ) → Gives Slots (nodes_of c closed l s)
nodes_slots c false l s = array_rows SmallSlot 32 no_slot absent_arcs _ (λ j l s. node_then c j (suc j) l s _ (λ x l₁ s₁ p. gives_took p)) c.nodes l s
nodes_slots c true l s = node_then c 0 1 l s _ (λ x l₁ s₁ p. further_slots c c.nodes 0 (set no_slots 0 (slot_of x)) (array_set SmallSlot 32 no_slots 0 (slot_of x) p no_slots_lem) l₁ s₁)

-- ---- procedures

abbrev ShapedProc : Proc → Type 0
ShapedProc q = Slots q.slots × (q.drop < 2 ^ 32)

dropped_small : (closed : Bool) (i : ℕ) (w : Vals (proc_line closed i)) → dropped_by closed i w < 2 ^ 32
dropped_small false i w = zero_small
dropped_small true i w = mask_of_lt 32 _

proc_shaped : (closed : Bool) (procs sems queues i l : ℕ) (s : List ℕ) → Gives ShapedProc (proc_row closed procs sems queues i l s)
proc_shaped closed procs sems queues i l s =
    any_then (line (proc_line closed i) l s) _ (λ w l₁ s₁.
    gives_then _ (nodes_slots (scope_of closed procs sems queues i w) closed l₁ s₁) (λ L l₂ s₂ h.
    gives_took (h, dropped_small closed i w)))

-- ---- tables

table_of : (t : Table) → Array Any 4 t.task → Array Any 8 t.sem → Array Any 8 t.queue → Array ShapedProc 8 t.proc → Shaped t
table_of t a b c d = record {
  tasks = a.0;
  sems = b.0;
  queues = c.0;
  procs = d.0;
  slots = λ p h. array_at ShapedProc 8 t.proc d (λ q. length q.slots ≡ 32) (λ q g. g.0.0) outside p (λ k. absurd (omega arith));
  drops = λ p. array_at ShapedProc 8 t.proc d (λ q. q.drop < 2 ^ 32) (λ q g. g.1) outside p (λ k. zero_small);
  arcs = λ p n. array_at ShapedProc 8 t.proc d (λ q. SmallArcs (node_in q n)) (λ q g. array_at SmallSlot 32 q.slots g.0 SmallSlot (λ x h. h) no_slot n (λ k. absent_arcs)) outside p (λ k. absent_arcs);
}

table_shaped : (l : ℕ) (s : List ℕ) → Gives Shaped (table l s)
unfolding table body
table_shaped l s =
    any_then (line head_line l s) _ (λ h l₁ s₁.
    any_then (line counts_line l₁ s₁) _ (λ c l₂ s₂.
    gives_then _ (array_rows Any 4 no_task tt (task_row c.1.0) (λ i l s. gives_any _ (λ x. tt)) c.0 l₂ s₂) (λ ts l₃ s₃ ta.
    gives_then _ (array_rows Any 8 no_sem tt sem_row (λ i l s. gives_any _ (λ x. tt)) c.1.1.0 l₃ s₃) (λ ss l₄ s₄ sa.
    gives_then _ (array_rows Any 8 no_queue tt (queue_row h.1.0) (λ i l s. gives_any _ (λ x. tt)) c.1.1.1.0 l₄ s₄) (λ qs l₅ s₅ qa.
    gives_then _ (array_rows ShapedProc 8 no_proc (no_slots_lem, zero_small) _ (proc_shaped h.1.0 c.1.0 c.1.1.0 c.1.1.1.0) c.1.0 l₅ s₅) (λ ps l₆ s₆ pa.
    any_then (at_end l₆ s₆) _ (λ u l₇ s₇.
    gives_took (table_of _ ta sa qa pa))))))))

-- the table of an accepted text has the shape
pub lines_shaped : (s : List ℕ) (t : Table) → read_lines s ≡ good t → Shaped t
unfolding read_lines
lines_shaped s t e = go (table_shaped 1 s) e
  where
    go : {o : Outcome Table} → Gives Shaped o → result_of o ≡ good t → Shaped t
    go (gives_took {a = u} h) e = subst Shaped (good_late u t 1 (late u) e).0 h
    go gives_refused e = no (cc e)

-- so has the reader's, where its number is 0
pub read_shaped : (s : List ℕ) → (read s).number ≡ 0 → Shaped (read s).table
read_shaped s e = lines_shaped s (read s).table (read_good s e)
