-- The beginning of an accepted text is read, line after line, as the text itself is; the line in which it ends is an early end.
use Prim.Native.Nat.{ℕ, zero, suc, ◌+◌, ◌-◌, ◌≤◌, ◌<◌}
use Rattle.std.specs.Prelude.{◌≡◌, refl, Bool, true, false, eqb, length, set, ◌⊎◌}
use Rattle.std.proofs.Common.{sym, ◌∙◌, length-append, inl, inr}
use Rattle.std.proofs.Math.Path.{ap}
use mathlib.Core.List.{List, [], ◌∷◌, ◌++◌, append_assoc, append-nil}
use Rattle.std.proofs.Math.Option.{none}
use native.Mathlib.Omega.{arith}
use borrow.Author.Tests.{eqb-true, eq-eqb, lt-ltb, le-ltb, le-leb}
use Rattle.table.specs.Cases.{cases}
use Rattle.table.specs.Table.{no_slots, task_at, sem_at, queue_at, proc_at, node_in}
use Rattle.table.specs.declared.Slot.{Slot}
use Rattle.table.specs.declared.Proc.{Proc}
use Rattle.table.specs.declared.Table.{Table}
use Rattle.text.specs.Number.{bytes}
use Rattle.text.specs.declared.Fault.TheVariants.{Ended}
use Rattle.text.specs.Fault.{number}
use Rattle.text.proofs.RowLaws.{Faultless, or_left, or_right}
use Rattle.text.proofs.MadeLaws.{line_none}
use Rattle.text.specs.Value.{NodeKind, start, set_kind, test, read as read_kind, call, wait, signal, send, recv, assert, out, return, ValueKind, Of, spell, check}
use Rattle.text.proofs.ValueLaws.{no, Apart, run_spell}
use Rattle.text.specs.Line.{Line, end, field, Vals, write, Outcome, took, refused, Parser, onto, ◌>>=◌, give, after, broken, stops, run, field_of, line, line_fault}
use Rattle.text.proofs.LineLaws.{Sound, after_key_lem, field_write, begins, line_write, head_sound, counts_sound, task_sound, sem_sound, queue_sound, proc_sound, node_sound}
use Rattle.text.specs.Format.{head_line, counts_line, task_line, sem_line, queue_line, proc_line, Scope, fields, node_line, described, describe, task_vals, sem_vals}
use Rattle.text.specs.Reader.{rows, node_row, slot_of, open_nodes, standing, stands, further_nodes, closed_nodes, nodes_of, proc_row, at_end, body, table, concat_from, late, good, bad, result_of, read_lines, reading, read}
use Rattle.text.specs.Writer.{queue_vals, proc_vals, node_text, scope, proc_text, text}
use Rattle.text.proofs.NodeLaws.{number_fact, by_line, FaultlessNode}
use Rattle.text.proofs.TableLaws.{Lines, good_late}
use Rattle.text.proofs.EndsLaws.{vals_scope}
use Rattle.text.proofs.RoundTrip.{read_good, read_text, read_lines_lem}
use Rattle.text.proofs.TextLength.{read_length}
use Rattle.text.proofs.WithoutLaws.{read_short}
use Rattle.text.specs.Cut.{feeds, early, last_of, Further, CutWithin, CutAnywhere}

-- ---- LFs

-- the text ends behind one
ends_line : List ℕ → Bool
ends_line [] = false
ends_line (b ∷ []) = eqb b 10
ends_line (b ∷ c ∷ s) = ends_line (c ∷ s)

feeds_append : (s r : List ℕ) → feeds (s ++ r) ≡ feeds s + feeds r
unfolding feeds
feeds_append [] r = omega arith
feeds_append (b ∷ s) r = cases (eqb b 10)
    (λ e. rw (e, feeds_append s r) (omega arith))
    (λ e. rw (e, feeds_append s r))

ends_append : (s r : List ℕ) → ends_line r ≡ true → ends_line (s ++ r) ≡ true
unfolding ends_line
ends_append [] r e = e
ends_append (b ∷ []) [] e = no (cc)
ends_append (b ∷ []) (c ∷ r) e = e
ends_append (b ∷ c ∷ s) r e = ends_append (c ∷ s) r e

-- whole lines, or none
data Whole : List ℕ → Type 0 where
  no_lines : Whole []
  whole_lines : {s : List ℕ} → ends_line s ≡ true → Whole s

whole_append : (s r : List ℕ) → Whole s → Whole r → Whole (s ++ r)
whole_append s r h (whole_lines e) = whole_lines (ends_append s r e)
whole_append s r h no_lines = rw (append-nil s) h

-- ---- a cut

-- where s ++ y begins with a, either s does, or s is a part of a that lacks something
parted : {P : Type 0} (s y a r : List ℕ) → s ++ y ≡ a ++ r → ((s' : List ℕ) → s ≡ a ++ s' → s' ++ y ≡ r → P) → ((b : ℕ) (x : List ℕ) → a ≡ s ++ (b ∷ x) → P) → P
parted s y [] r e f g = f s refl e
parted [] y (b ∷ a) r e f g = g b a refl
parted (c ∷ s) y (b ∷ a) r e f g =
    let h : c ≡ b = cc e in
    parted s y a r (cc e) (λ s' p q. f s' (rw (h, p)) q) (λ d x p. g d x (rw (h, p)))

-- a value that is broken off: no byte of it stops it
run_stops : (b : ℕ) (s : List ℕ) → stops b ≡ true → run (b ∷ s) ≡ 0
unfolding run
run_stops b s e = rw (e, run)

run_on : (b : ℕ) (s : List ℕ) → stops b ≡ false → run (b ∷ s) ≡ suc (run s)
unfolding run
run_on b s e = rw (e, run)

run_part : (s r : List ℕ) → length s ≤ run (s ++ r) → run s ≡ length s
unfolding run
run_part [] r h = refl
run_part (b ∷ s) r h = cases (stops b)
    (λ e. absurd (omega (arith, run_stops b (s ++ r) e)))
    (λ e. run_on b s e ∙ ap suc (run_part s r (omega (arith, run_on b (s ++ r) e))))

-- nor is one an LF
run_feeds : (s : List ℕ) → run s ≡ length s → feeds s ≡ 0
unfolding feeds
run_feeds [] h = refl
run_feeds (b ∷ s) h = cases (stops b)
    (λ e. absurd (omega (arith, run_stops b s e)))
    (λ e. rw (no_feed b e) (run_feeds s (omega (arith, run_on b s e))))
  where
    no_feed : (b : ℕ) → stops b ≡ false → eqb b 10 ≡ false
    no_feed b e = cases (eqb b 10) (λ q. no (cc (rw (eqb-true b 10 q) at e))) (λ q. q)

-- the value's spelling has none
spell_run : (k : ValueKind) → Apart k → (v : Of k) (s r : List ℕ) → spell k v ≡ s ++ r → run s ≡ length s
spell_run k a v s r e =
    let h : run (spell k v ++ (10 ∷ [])) ≡ length (spell k v) = run_spell k v a 10 [] refl in
    let n : length (spell k v) ≡ length s + length r = ap length e ∙ length-append s r in
    let m : run (s ++ (r ++ (10 ∷ []))) ≡ length (spell k v) = ap run (sym (append_assoc s r (10 ∷ [])) ∙ ap (λ (z : List ℕ). z ++ (10 ∷ [])) (sym e)) ∙ h in
    run_part s (r ++ (10 ∷ [])) (omega arith)

spell_feeds : (k : ValueKind) → Apart k → (v : Of k) → feeds (spell k v) ≡ 0
spell_feeds k a v = run_feeds (spell k v) (spell_run k a v (spell k v) [] (sym (append-nil (spell k v))))

-- ---- a line

-- no key of the line has an LF
abbrev Plain : Line → Type 0
Plain end = Unit {0}
Plain (field key k next) = (feeds key ≡ 0) × ((v : Of k) → Plain (next v))

write_feeds : (d : Line) → Sound d → Plain d → (w : Vals d) → feeds (write d w) ≡ 1
unfolding write feeds
write_feeds end g p w = refl
write_feeds (field key k next) g p w =
    let v = w.0 in
    feeds_append key (spell k v ++ write (next v) w.1) ∙ rw (p.0, feeds_append (spell k v) (write (next v) w.1), spell_feeds k g.0 v, write_feeds (next v) (g.1 v).1 (p.1 v) w.1)

write_ends : (d : Line) (w : Vals d) → ends_line (write d w) ≡ true
unfolding write ends_line
write_ends end w = refl
write_ends (field key k next) w = ends_append key _ (ends_append (spell k w.0) _ (write_ends (next w.0) w.1))

-- a key that is broken off
after_part : (key s : List ℕ) (b : ℕ) (x : List ℕ) → key ≡ s ++ (b ∷ x) → after key s ≡ broken
unfolding after
after_part [] [] b x e = no (cc)
after_part [] (c ∷ s) b x e = no (cc)
after_part (a ∷ key) [] b x e = refl
after_part (a ∷ key) (c ∷ s) b x e =
    let h : a ≡ c = cc e in
    rw (eq-eqb a c h) (after_part key s b x (cc e))

-- a field whose value is broken off, be it at its end
field_part : (key : List ℕ) (k : ValueKind) (l : ℕ) (s : List ℕ) → run s ≡ length s → field_of key k l (key ++ s) ≡ refused Ended l
unfolding field_of
field_part key k l s e = rw (after_key_lem key s, le-ltb (run s) (length s) (omega arith))

-- a part of a line that lacks something is an early end, and has no LF
line_part : (d : Line) → Sound d → Plain d → (w : Vals d) → line_fault d w ≡ none → (l : ℕ) (s : List ℕ) (b : ℕ) (x : List ℕ) → write d w ≡ s ++ (b ∷ x)
    → (line d l s ≡ refused Ended l) × (feeds s ≡ 0)
unfolding line write line_fault after feeds field_of
line_part end g p w f l [] b x e = (refl, refl)
line_part end g p w f l (c ∷ []) b x e = no (cc)
line_part end g p w f l (c ∷ c' ∷ s) b x e = no (cc)
line_part (field key k next) g p w f l s b x e =
    let v = w.0 in
    let t = g.1 v in
    parted s (b ∷ x) key (spell k v ++ write (next v) w.1) (sym e)
    (λ s₁ q₁ e₁. parted s₁ (b ∷ x) (spell k v) (write (next v) w.1) e₁
    (λ s₂ q₂ e₂. go s₂ (q₁ ∙ ap (λ (z : List ℕ). key ++ z) q₂) e₂ (line_part (next v) t.1 (p.1 v) w.1 (or_right (check k v) _ f) l s₂ b x (sym e₂)))
    (λ c z q₂.
    let h = spell_run k g.0 v s₁ (c ∷ z) q₂ in
    (rw (q₁, field_part key k l s₁ h), rw (q₁, feeds_append key s₁, p.0, run_feeds s₁ h))))
    (λ c z q₁. (rw (after_part key s c z q₁), let h : feeds s + feeds (c ∷ z) ≡ 0 = sym (feeds_append s (c ∷ z)) ∙ ap feeds (sym q₁) ∙ p.0 in omega arith))
  where
    -- the value is whole: the text ends behind it, or further on
    go : (s₂ : List ℕ) → s ≡ key ++ (spell k w.0 ++ s₂) → s₂ ++ (b ∷ x) ≡ write (next w.0) w.1 → (line (next w.0) l s₂ ≡ refused Ended l) × (feeds s₂ ≡ 0)
        → (onto (field_of key k l s) (λ v k' r. onto {B = Vals (field key k next)} (line (next v) k' r) (λ y l' r'. took (v, y) l' r')) ≡ refused Ended l) × (feeds s ≡ 0)
    go [] q e₂ ih =
        let v = w.0 in
        let q₀ : s ≡ key ++ spell k v = q ∙ ap (λ (z : List ℕ). key ++ z) (append-nil (spell k v)) in
        let h = spell_run k g.0 v (spell k v) [] (sym (append-nil (spell k v))) in
        (rw (q₀, field_part key k l (spell k v) h), rw (q₀, feeds_append key (spell k v), p.0, run_feeds (spell k v) h))
    go (c ∷ s₃) q e₂ ih =
        let v = w.0 in
        let t = g.1 v in
        let n = begins (next v) w.1 [] t.0 in
        let h : c ≡ n.0 = cc (e₂, n.2, append-nil (write (next v) w.1)) in
        let j : stops c ≡ true = rw h n.3 in (
          rw (q, field_write key k g.0 v l c s₃ j, or_left (check k v) (line_fault (next v) w.1) f, ih.0),
          rw (q, feeds_append key (spell k v ++ (c ∷ s₃)), feeds_append (spell k v) (c ∷ s₃), p.0, spell_feeds k g.0 v) (omega (arith, ih.1)),
        )

-- no key of a text has an LF

head_plain : Plain head_line
unfolding feeds
head_plain = (refl, λ n. (refl, λ c. tt))

counts_plain : Plain counts_line
unfolding feeds
counts_plain = (refl, λ k. (refl, λ p. (refl, λ s. (refl, λ q. tt))))

task_plain : (procs i : ℕ) → Plain (task_line procs i)
unfolding feeds
task_plain procs i = (refl, λ j. (refl, λ p. tt))

sem_plain : (i : ℕ) → Plain (sem_line i)
unfolding feeds
sem_plain i = (refl, λ j. (refl, λ c. tt))

queue_plain : (closed : Bool) (i : ℕ) → Plain (queue_line closed i)
unfolding feeds
queue_plain false i = (refl, λ j. (refl, λ c. tt))
queue_plain true i = (refl, λ j. (refl, λ c. (refl, λ b. tt)))

proc_plain : (closed : Bool) (i : ℕ) → Plain (proc_line closed i)
unfolding feeds
proc_plain false i = (refl, λ j. (refl, λ k. (refl, λ m. (refl, λ n. tt))))
proc_plain true i = (refl, λ j. (refl, λ k. (refl, λ m. (refl, λ n. (refl, λ d. tt)))))

fields_plain : (c : Scope) (k : NodeKind) → Plain (fields c k)
unfolding feeds
fields_plain c start = (refl, λ to. tt)
fields_plain c set_kind = (refl, λ v. (refl, λ o. (refl, λ a. (refl, λ b. (refl, λ to. tt)))))
fields_plain c test = (refl, λ o. (refl, λ a. (refl, λ b. (refl, λ y. (refl, λ n. tt)))))
fields_plain c read_kind = (refl, λ v. (refl, λ to. tt))
fields_plain c call = (refl, λ p. (refl, λ xs. (refl, λ to. tt)))
fields_plain c wait = (refl, λ s. (refl, λ to. tt))
fields_plain c signal = (refl, λ s. (refl, λ to. tt))
fields_plain c send = (refl, λ q. (refl, λ v. (refl, λ to. tt)))
fields_plain c recv = (refl, λ q. (refl, λ v. (refl, λ to. tt)))
fields_plain c assert = (refl, λ v. (refl, λ to. tt))
fields_plain c out = (refl, λ v. (refl, λ to. tt))
fields_plain c return = tt

node_plain : (c : Scope) (lo n : ℕ) → Plain (node_line c lo n)
unfolding feeds
node_plain c lo n = (refl, λ j. (refl, λ k. fields_plain c k))

-- ---- reading what was cut

-- an early end where s ends; or something was read from whole lines, and what it is and what is left of s have P
data Cut {A : Type 0} (P : A → List ℕ → Type 0) (l : ℕ) (s : List ℕ) : Outcome A → Type 0 where
  ended : {k : ℕ} → k ≡ l + feeds s → Cut P l s (refused Ended k)
  going : {a : A} {k : ℕ} {r : List ℕ} (z : List ℕ) → s ≡ z ++ r → Whole z → k ≡ l + feeds z → P a r → Cut P l s (took a k r)

module _ {A B : Type 0} {P : A → List ℕ → Type 0} {Q : B → List ℕ → Type 0} {l : ℕ} {s : List ℕ} where
  cut_then : {o : Outcome A} (f : A → Parser B) → Cut P l s o → ((a : A) (k : ℕ) (r : List ℕ) → P a r → Cut Q k r (f a k r)) → Cut Q l s (onto o f)
  cut_then f (ended e) h = ended e
  cut_then f (going {a} {k} {r} z e w n p) h = go (f a k r) (h a k r p)
    where
      go : (o : Outcome B) → Cut Q k r o → Cut Q l s o
      go (refused g m) (ended q) = ended (q ∙ rw (n, e, feeds_append z r) (omega arith))
      go (took b m x) (going y q v i j) = going (z ++ y) (e ∙ ap (λ (t : List ℕ). z ++ t) q ∙ sym (append_assoc z y x)) (whole_append z y w v) (i ∙ rw (n, feeds_append z y) (omega arith)) j

cut_weaken : {A : Type 0} {P Q : A → List ℕ → Type 0} {l : ℕ} {s : List ℕ} {o : Outcome A} → ((a : A) (r : List ℕ) → P a r → Q a r) → Cut P l s o → Cut Q l s o
cut_weaken h (ended e) = ended e
cut_weaken h (going {a} {k} {r} z e w n p) = going z e w n (h a r p)

-- nothing was read
cut_give : {A : Type 0} {P : A → List ℕ → Type 0} {l : ℕ} {s : List ℕ} {a : A} → P a s → Cut P l s (took a l s)
unfolding feeds
cut_give {l = l} p = let e : l ≡ l + 0 = omega arith in going [] refl no_lines e p

-- a line that was written, then r
cut_line : (d : Line) → Sound d → Plain d → (w : Vals d) → line_fault d w ≡ none → (l : ℕ) (s y r : List ℕ) → s ++ y ≡ write d w ++ r → Cut (λ v x. (v ≡ w) × (x ++ y ≡ r)) l s (line d l s)
cut_line d g p w f l s y r e = parted s y (write d w) r e
    (λ s' q h. let t : line d l s ≡ took w (suc l) s' = rw (q, line_write d g w l s', f) in
    let n : suc l ≡ l + feeds (write d w) = omega (arith, write_feeds d g p w) in
    rw t (going (write d w) q (whole_lines (write_ends d w)) n (refl, h)))
    (λ b x q. let t = line_part d g p w f l s b x q in let n : l ≡ l + feeds s = omega (arith, t.1) in rw t.0 (ended n))

-- ---- rows

-- where each row leaves what may stand before the next
cut_rows : {A : Type 0} (f : ℕ → Parser A) (Left : ℕ → List ℕ → Type 0) (e : ℕ) → ((i : ℕ) → i < e → (l : ℕ) (s : List ℕ) → Left i s → Cut (λ a. Left (suc i)) l s (f i l s))
    → (n i : ℕ) → i + n ≡ e → (xs : List A) (l : ℕ) (s : List ℕ) → Left i s → Cut (λ a. Left e) l s (rows f n i xs l s)
unfolding rows
cut_rows f Left e row zero i h xs l s p = let q : i ≡ e = omega arith in cut_give (rw q at p)
cut_rows f Left e row (suc n) i h xs l s p = cut_then _ (row i (omega arith) l s p) (λ a k r q. cut_rows f Left e row n (suc i) (omega arith) (set xs i a) k r q)

-- the texts of the rows from i on, then r
abbrev Rest : (ℕ → List ℕ) → ℕ → List ℕ → List ℕ → ℕ → List ℕ → Type 0
Rest g e y r i s = s ++ y ≡ concat_from g (e - i) i ++ r

rest_next : (g : ℕ → List ℕ) (e : ℕ) (y r : List ℕ) (i : ℕ) (s : List ℕ) → i < e → Rest g e y r i s → s ++ y ≡ g i ++ (concat_from g (e - suc i) (suc i) ++ r)
unfolding concat_from
rest_next g e y r i s h p = let q : e - i ≡ suc (e - suc i) = omega arith in (rw q at p) ∙ append_assoc (g i) (concat_from g (e - suc i) (suc i)) r

rest_done : (g : ℕ → List ℕ) (e : ℕ) (y r s : List ℕ) → Rest g e y r e s → s ++ y ≡ r
unfolding concat_from
rest_done g e y r s p = let q : e - e ≡ 0 = omega arith in rw q at p

-- rows of one line each
cut_lines : {A : Type 0} (d : ℕ → Line) → ((i : ℕ) → Sound (d i)) → ((i : ℕ) → Plain (d i)) → (w : (i : ℕ) → Vals (d i)) (h : (i : ℕ) → Vals (d i) → A) (e : ℕ) → ((i : ℕ) → i < e → Faultless (d i) (w i))
    → (y r : List ℕ) (xs : List A) (l : ℕ) (s : List ℕ) → s ++ y ≡ concat_from (λ i. write (d i) (w i)) e 0 ++ r
    → Cut (λ a x. x ++ y ≡ r) l s (rows (λ i. line (d i) >>= λ w. give (h i w)) e 0 xs l s)
cut_lines d g p w h e f y r xs l s q = cut_weaken (λ a x j. rest_done _ e y r x j)
    (cut_rows _ (Rest (λ i. write (d i) (w i)) e y r) e
    (λ i m l s k. cut_then _ (cut_line (d i) (g i) (p i) (w i) (line_none (d i) (w i) (f i m)) l s y _ (rest_next _ e y r i s m k)) (λ v k x j. cut_give j.1))
    e 0 (omega arith) xs l s (let z : e - 0 ≡ e = omega arith in rw z q))

-- ---- node lines

-- no node line stands there, be it cut
abbrev NodeFree : List ℕ → Type 0
NodeFree r = (s y : List ℕ) → s ++ y ≡ r → stands (bytes "node=") s ≡ false

-- some bytes that a key begins with, or that begin with it
part_stands : (key : List ℕ) (b : ℕ) (x s y r : List ℕ) → s ++ y ≡ key ++ r → standing (after key s) (b ∷ x) ≡ true
unfolding after
part_stands [] b x s y r e = refl
part_stands (a ∷ key) b x [] y r e = refl
part_stands (a ∷ key) b x (c ∷ s) y r e =
    let h : a ≡ c = cc e in
    rw (eq-eqb a c h) (part_stands key b x s y r (cc e))

module _ (t : Table) (q : Proc) where
  abbrev c : Scope
  c = scope t q

  abbrev lines : ℕ → List ℕ
  lines j = node_text c j (describe c (node_in q j))

  cut_node : (lo n j : ℕ) (k : NodeKind) (w : Vals (fields c k)) → line_fault (node_line c lo n) (j, (k, w)) ≡ none → (l : ℕ) (s y r : List ℕ) → s ++ y ≡ node_text c j (described k w) ++ r
      → Cut (λ x z. (x.at ≡ j) × (z ++ y ≡ r)) l s (node_row c lo n l s)
  unfolding write spell
  cut_node lo n j k w f l s y r e =
      cut_then _ (cut_line (node_line c lo n) (node_sound c lo n) (node_plain c lo n) (j, (k, w)) f l s y r e) (λ v m x h. cut_give (ap (λ (u : Vals (node_line c lo n)). u.0) h.0, h.1))

  -- what follows a procedure's lines is r; of a closed one's all lines from k on may be missing
  abbrev Lacks : List ℕ → List ℕ → List ℕ → Type 0
  Lacks y r x = (x ++ y ≡ r) ⊎ ((x ≡ []) × (t.closed ≡ true) × (k : ℕ) × (1 ≤ k) × (y ≡ concat_from lines (q.nodes - k) k ++ r))

  module _ (fine : (j : ℕ) → j < q.nodes → FaultlessNode c j (describe c (node_in q j))) (y r : List ℕ) where
    -- node i's line, where its number is due
    fine_at : (i : ℕ) → i < q.nodes → (k : NodeKind) (w : Vals (fields c k)) → describe c (node_in q i) ≡ described k w → line_fault (node_line c i (suc i)) (i, (k, w)) ≡ none
    fine_at i h k w e = line_none (node_line c i (suc i)) (i, (k, w)) (rw e at (fine i h))

    cut_open : t.closed ≡ false → (l : ℕ) (s : List ℕ) → s ++ y ≡ concat_from lines q.nodes 0 ++ r → Cut (λ a. Lacks y r) l s (open_nodes c l s)
    cut_open o l s e = cut_weaken (λ a x h. inl (rest_done lines q.nodes y r x h)) (cut_rows _ (Rest lines q.nodes y r) q.nodes row q.nodes 0 (omega arith) no_slots l s (let z : q.nodes - 0 ≡ q.nodes = omega arith in rw z e))
      where
        row : (i : ℕ) → i < q.nodes → (l : ℕ) (s : List ℕ) → Rest lines q.nodes y r i s → Cut (λ a. Rest lines q.nodes y r (suc i)) l s ((node_row c i (suc i) >>= λ x. give (slot_of x)) l s)
        row i h l s p = by_line c (node_in q i)
            (λ a b. no (cc ((rw b at (fine i h)).1, o)))
            (λ k w a b.
            let n = rest_next lines q.nodes y r i s h p in
            cut_then _ (cut_node i (suc i) i k w (fine_at i h k w b) l s y _ (rw b at n)) (λ x m z g. cut_give g.1))

    cut_further : t.closed ≡ true → NodeFree r → (n i g last : ℕ) → i + n ≡ q.nodes → last < i → n ≤ g → (xs : List Slot) (l : ℕ) (s : List ℕ) → s ++ y ≡ concat_from lines n i ++ r
        → Cut (λ a. Lacks y r) l s (further_nodes c g last xs l s)
    unfolding further_nodes concat_from after line_fault check write
    cut_further o h zero i zero last m u v xs l s e = cut_give (inl e)
    cut_further o h zero i (suc g) last m u v xs l s e = rw (h s y e) (cut_give (inl e))
    cut_further o h (suc n) i zero last m u v xs l s e = absurd (omega arith)
    cut_further o h (suc n) i (suc g) last m u v xs l [] e =
        let z : q.nodes - i ≡ suc n = omega arith in
        cut_give (inr (refl, o, i, omega arith, rw z e))
    cut_further o h (suc n) i (suc g) last m u v xs l (b ∷ s) e = by_line c (node_in q i)
        (λ a d.
        let z : lines i ≡ [] = rw d in
        cut_further o h n (suc i) (suc g) last (omega arith) (omega arith) (omega arith) xs l (b ∷ s) (rw z at e))
        (λ k w a d.
        let f : line_fault (node_line c (suc last) c.nodes) (i, (k, w)) ≡ line_fault (node_line c i (suc i)) (i, (k, w)) =
        rw (le-leb (suc last) i (omega arith), lt-ltb i q.nodes (omega arith), le-leb i i (omega arith), lt-ltb i (suc i) (omega arith))
        in
        let z : (b ∷ s) ++ y ≡ node_text c i (described k w) ++ (concat_from lines n (suc i) ++ r) = (rw d at e) ∙ append_assoc (node_text c i (described k w)) (concat_from lines n (suc i)) r in
        rw (part_stands (bytes "node=") b s (b ∷ s) y _ z)
        (cut_then _ (cut_node (suc last) c.nodes i k w (f ∙ fine_at i (omega arith) k w d) l (b ∷ s) y _ z) (λ x p j t.
        rw t.0 (cut_further o h n (suc i) g i (omega arith) (omega arith) (omega arith) (set xs i (slot_of x)) p j t.1))))

    cut_closed : t.closed ≡ true → NodeFree r → 1 ≤ q.nodes → (l : ℕ) (s : List ℕ) → s ++ y ≡ concat_from lines q.nodes 0 ++ r → Cut (λ a. Lacks y r) l s (closed_nodes c l s)
    unfolding concat_from
    cut_closed o h n l s e = by_line c (node_in q 0)
        (λ a d. absurd (omega (arith, (rw d at (fine 0 n)).0)))
        (λ k w a d.
        let m : q.nodes ≡ suc (q.nodes - 1) = omega arith in
        let f : s ++ y ≡ (lines 0 ++ concat_from lines (q.nodes - 1) 1) ++ r = e ∙ ap (λ (n : ℕ). concat_from lines n 0 ++ r) m in
        let z : s ++ y ≡ node_text c 0 (described k w) ++ (concat_from lines (q.nodes - 1) 1 ++ r) = (rw d at f) ∙ append_assoc (node_text c 0 (described k w)) (concat_from lines (q.nodes - 1) 1) r in
        cut_then _ (cut_node 0 1 0 k w (fine_at 0 n k w d) l s y _ z) (λ x p j g.
        cut_further o h (q.nodes - 1) 1 q.nodes 0 (omega arith) (omega arith) (omega arith) (set no_slots 0 (slot_of x)) p j g.1))

    cut_nodes : (b : Bool) → t.closed ≡ b → NodeFree r → 1 ≤ q.nodes → (l : ℕ) (s : List ℕ) → s ++ y ≡ concat_from lines q.nodes 0 ++ r → Cut (λ a. Lacks y r) l s (nodes_of c b l s)
    cut_nodes false o h n l s e = cut_open o l s e
    cut_nodes true o h n l s e = cut_closed o h n l s e

-- ---- procedures

cut_proc : (t : Table) → Lines t → (p : ℕ) → p < t.procs → (y r : List ℕ) → NodeFree r → (l : ℕ) (s : List ℕ) → s ++ y ≡ proc_text t p ++ r
    → Cut (λ a. Lacks t (proc_at t p) y r) l s (proc_row t.closed t.procs t.sems t.queues p l s)
cut_proc t h p u y r free l s e =
    let q = proc_at t p in
    let b = t.closed in
    let v = proc_vals b p q in
    let nodes = concat_from (lines t q) q.nodes 0 in
    cut_then _ (cut_line (proc_line b p) (proc_sound b p) (proc_plain b p) v (line_none (proc_line b p) v (h.procs p u)) l s y (nodes ++ r) (e ∙ append_assoc (write (proc_line b p) v) nodes r)) (λ w k x g.
    rw (g.0, vals_scope b t.procs t.sems t.queues p q)
    (cut_then _ (cut_nodes t q (h.nodes p u) y r b refl free (nodes_some b p q (h.procs p u)) k x g.1) (λ a m z j. cut_give j)))
  where
    nodes_some : (b : Bool) (p : ℕ) (q : Proc) → Faultless (proc_line b p) (proc_vals b p q) → 1 ≤ q.nodes
    nodes_some false p q f = let n = number_fact 2 33 _ q.nodes f.1.1.1.0 in omega arith
    nodes_some true p q f = let n = number_fact 2 33 _ q.nodes f.1.1.1.0 in omega arith

procs_free : (t : Table) (n i : ℕ) → NodeFree (concat_from (proc_text t) n i ++ [])
unfolding concat_from write after
procs_free t zero i [] y e = refl
procs_free t zero i (b ∷ s) y e = no (cc)
procs_free t (suc n) i [] y e = refl
procs_free t (suc n) i (b ∷ s) y e = let h : b ≡ 112 = cc e in rw h

-- ---- tables

-- before procedure p: what stands there of the procedures from p on; or nothing, since the lines of a closed procedure's last nodes are missing
abbrev Left : Table → List ℕ → ℕ → List ℕ → Type 0
Left t y p s = (s ++ y ≡ concat_from (proc_text t) (t.procs - p) p ++ []) ⊎ ((s ≡ []) × (p ≡ t.procs → Further t y))

left_next : (t : Table) (y : List ℕ) (p : ℕ) (x : List ℕ) → Lacks t (proc_at t p) y (concat_from (proc_text t) (t.procs - suc p) (suc p) ++ []) x → Left t y (suc p) x
unfolding concat_from
left_next t y p x (inl e) = inl e
left_next t y p x (inr (e, o, k, n, f)) = inr (
  e,
  λ u.
      let z : t.procs - suc p ≡ 0 = omega arith in
      let i : p ≡ last_of t = omega arith in
      let j : y ≡ concat_from (lines t (proc_at t p)) ((proc_at t p).nodes - k) k = (rw z at f) ∙ append-nil (concat_from (lines t (proc_at t p)) ((proc_at t p).nodes - k) k) in
      record { closed = o; lowest = k; not_first = n; lines = rw (← i) j },
)

cut_row : (t : Table) → Lines t → (y : List ℕ) (p : ℕ) → p < t.procs → (l : ℕ) (s : List ℕ) → Left t y p s → Cut (λ a. Left t y (suc p)) l s (proc_row t.closed t.procs t.sems t.queues p l s)
unfolding line field_of after feeds
cut_row t h y p u l s (inl e) = cut_weaken (λ a x. left_next t y p x) (cut_proc t h p u y _ (procs_free t (t.procs - suc p) (suc p)) l s (rest_next (proc_text t) t.procs y [] p s u e))
cut_row t h y p u l s (inr (e, f)) = let n : l ≡ l + 0 = omega arith in rw e (ended n)

cut_procs : (t : Table) → Lines t → (y : List ℕ) (xs : List Proc) (l : ℕ) (s : List ℕ) → s ++ y ≡ concat_from (proc_text t) t.procs 0
    → Cut (λ a. Left t y t.procs) l s (rows (proc_row t.closed t.procs t.sems t.queues) t.procs 0 xs l s)
cut_procs t h y xs l s e =
    let z : t.procs - 0 ≡ t.procs = omega arith in
    cut_rows _ (Left t y) t.procs (cut_row t h y) t.procs 0 (omega arith) xs l s (inl (rw (z, append-nil (concat_from (proc_text t) t.procs 0)) e))

none_both : (x y : List ℕ) → x ++ y ≡ [] → (x ≡ []) × (y ≡ [])
none_both [] y e = (refl, e)
none_both (b ∷ x) y e = no (cc)

-- behind the last procedure
cut_end : (t : Table) (y : List ℕ) (l : ℕ) (x : List ℕ) → Left t y t.procs x → (f : Unit {0} → Table) → Cut (λ a x. (x ≡ []) × ((y ≡ []) ⊎ Further t y)) l x (onto (at_end l x) (λ u. give (f u)))
unfolding concat_from
cut_end t y l x (inl e) f =
    let z : t.procs - t.procs ≡ 0 = omega arith in
    let n = none_both x y (rw z at e) in
    rw n.0 (cut_give (refl, inl n.1))
cut_end t y l x (inr (e, g)) f = rw e (cut_give (refl, inr (g refl)))

-- the text is that of t, whole or up to those lines
cut_table : (t : Table) → Lines t → (s y : List ℕ) → s ++ y ≡ text t → Cut (λ a x. (x ≡ []) × ((y ≡ []) ⊎ Further t y)) 1 s (table 1 s)
unfolding table body text
cut_table t h s y e =
    let b = t.closed in
    let counts : Vals counts_line = (t.tasks, (t.procs, (t.sems, (t.queues, tt)))) in
    let procs = concat_from (proc_text t) t.procs 0 in
    let queues = concat_from (λ i. write (queue_line b i) (queue_vals b i (queue_at t i))) t.queues 0 ++ procs in
    let sems = concat_from (λ i. write (sem_line i) (sem_vals i (sem_at t i))) t.sems 0 ++ queues in
    let tasks = concat_from (λ i. write (task_line t.procs i) (task_vals t.procs i (task_at t i))) t.tasks 0 ++ sems in
    cut_then _ (cut_line head_line head_sound head_plain (t.trap, (b, tt)) (line_none head_line _ h.head) 1 s y (write counts_line counts ++ tasks) e) (λ v l s₁ e₁. rw e₁.0
    (cut_then _ (cut_line counts_line counts_sound counts_plain counts (line_none counts_line _ h.counts) l s₁ y tasks e₁.1) (λ v l s₂ e₂. rw e₂.0
    (cut_then _ (cut_lines (task_line t.procs) (task_sound t.procs) (task_plain t.procs) (λ i. task_vals t.procs i (task_at t i)) _ t.tasks h.tasks y sems _ l s₂ e₂.1) (λ ts l s₃ e₃.
    cut_then _ (cut_lines sem_line sem_sound sem_plain (λ i. sem_vals i (sem_at t i)) _ t.sems h.sems y queues _ l s₃ e₃) (λ ss l s₄ e₄.
    cut_then _ (cut_lines (queue_line b) (queue_sound b) (queue_plain b) (λ i. queue_vals b i (queue_at t i)) _ t.queues h.queues y procs _ l s₄ e₄) (λ qs l s₅ e₅.
    cut_then _ (cut_procs t h y _ l s₅ e₅) (λ ps l s₆ e₆. cut_end t y l s₆ e₆ _))))))))

-- ---- the promises

-- an accepted text
read_cut : (s y : List ℕ) → (read (s ++ y)).number ≡ 0 → let t = (read (s ++ y)).table in Cut (λ a x. (x ≡ []) × ((y ≡ []) ⊎ Further t y)) 1 s (table 1 s)
read_cut s y e =
    let t = (read (s ++ y)).table in
    cut_table t (read_lines_lem (s ++ y) t (read_good (s ++ y) e)).0 s y (sym (read_text (s ++ y) e))

pub early_is : (s : List ℕ) → reading (bad Ended (suc (feeds s))) ≡ early s
unfolding number
early_is s = refl

-- s is an early end; or it is whole lines, and Q holds
cut_early : {Q R : Type 0} (s y : List ℕ) → length (s ++ y) ≤ 65536 → Cut {A = Table} (λ a x. (x ≡ []) × Q) 1 s (table 1 s) → (read s ≡ early s → R) → (Whole s → Q → R) → R
unfolding read_lines
cut_early {Q = Q} {R = R} s y n d g h = go (table 1 s) refl d
  where
    go : (o : Outcome Table) → table 1 s ≡ o → Cut (λ a x. (x ≡ []) × Q) 1 s o → R
    go (refused f k) q (ended e) =
        let m : k ≡ suc (feeds s) = omega (arith, e) in
        g (read_short s (omega (arith, length-append s y)) ∙ rw (q, m) (early_is s))
    go (took a k r) q (going z e w m p) =
        let i : s ≡ z = e ∙ ap (λ (x : List ℕ). z ++ x) p.0 ∙ append-nil z in
        h (rw i w) p.1

early_empty : (s : List ℕ) → s ≡ [] → read s ≡ early s
unfolding read read_lines table line field_of after feeds number
early_empty s e = rw e

accepted_length : (s : List ℕ) → (read s).number ≡ 0 → length s ≤ 65536
accepted_length s e = read_length s (read s).table (read_good s e)

-- what ends a line ends with LF
ends_feed : {P : Type 0} (s : List ℕ) → ends_line s ≡ true → ((r : List ℕ) → s ≡ r ++ (10 ∷ []) → P) → P
unfolding ends_line
ends_feed [] e f = no (cc)
ends_feed (b ∷ []) e f = let h : b ≡ 10 = eqb-true b 10 e in f [] (rw h)
ends_feed (b ∷ c ∷ s) e f = ends_feed (c ∷ s) e (λ r h. f (b ∷ r) (rw h))

pub cut_within : CutWithin
cut_within s y e f = cut_early s y (accepted_length (s ++ y) e) (read_cut s y e) (λ h. h) (λ w q. go s w f)
  where
    go : (s : List ℕ) → Whole s → ((r : List ℕ) → s ≡ r ++ (10 ∷ []) → ⊥) → read s ≡ early s
    go s no_lines f = early_empty [] refl
    go s (whole_lines g) f = ends_feed s g (λ r h. absurd (f r h))

pub cut_anywhere : CutAnywhere
cut_anywhere s b y e = cut_early s (b ∷ y) (accepted_length (s ++ (b ∷ y)) e) (read_cut s (b ∷ y) e) inl (λ w q. go q)
  where
    go : ((b ∷ y) ≡ []) ⊎ Further (read (s ++ (b ∷ y))).table (b ∷ y) → (read s ≡ early s) ⊎ Further (read (s ++ (b ∷ y))).table (b ∷ y)
    go (inl g) = no (cc)
    go (inr g) = inr g

-- ---- a whole text

-- an accepted text is read to its end, and the line reached is the one behind its last
pub read_reaches : (s : List ℕ) → (read s).number ≡ 0 → table 1 s ≡ took (read s).table (suc (feeds s)) []
unfolding read_lines
read_reaches s e = let g = read_good s e in go (table 1 s) refl g (cut_weaken (λ a x p. p.0) (cut_table t (read_lines_lem s t g).0 s [] (append-nil s ∙ sym (read_text s e))))
  where
    t : Table
    t = (read s).table

    go : (o : Outcome Table) → table 1 s ≡ o → result_of o ≡ good t → Cut (λ a x. x ≡ []) 1 s o → table 1 s ≡ took t (suc (feeds s)) []
    go (refused f k) q h d = no (cc)
    go (took a k r) q h (going z f w m p) =
        let i : s ≡ z = f ∙ ap (λ (x : List ℕ). z ++ x) p ∙ append-nil z in
        let n : k ≡ suc (feeds s) = m ∙ rw i (omega arith) in
        q ∙ rw ((good_late a t 1 (late a) h).0, n, p)
