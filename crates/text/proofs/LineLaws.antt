-- A line written is read back, with its values' first fault; a line read is what its values write. Once for every line, and every line of a text is such.
use Rattle.std.specs.Prelude.{ℕ, suc, ◌<◌, ◌≡◌, refl, List, [], ◌∷◌, ◌++◌, Bool, true, false, ltb, eqb, length, take, drop}
use Rattle.std.proofs.Common.{sym, ◌∙◌, subst, append_assoc, arith, length-append, take-append-drop, eqb-true, eq-eqb, lt-ltb}
use Rattle.std.proofs.Math.Option.{Option, none, some}
use Rattle.std.proofs.Math.Seq.{take-append_seam, drop-append_seam}
use Rattle.text.specs.declared.Fault.{Fault}
use Rattle.text.specs.Value.{NodeKind, start, set_kind, test, read, call, wait, signal, send, recv, assert, out, return, ValueKind, Of, same, spell, said, or_else, check}
use Rattle.text.proofs.ValueLaws.{no, Apart, said_spell, spell_said, run_spell}
use Rattle.text.specs.Line.{Line, end, field, Vals, write, Outcome, took, refused, Parser, onto, After, at, differs, broken, after, stops, run, verdict, judged, value_of, after_key, field_of, line, line_fault}
use Rattle.text.specs.Format.{head_line, counts_line, task_line, sem_line, queue_line, proc_line, Scope, to_field, fields, node_line}
use Rattle.table.specs.Cases.{cases}

-- ---- lines that can be read back

-- a value ends where this begins: a key that begins with a space, or LF
abbrev pub starts : Line → Bool
starts end = true
starts (field [] k next) = false
starts (field (b ∷ key) k next) = stops b

-- each kind can be read back, and each value ends where the next key begins
abbrev pub Sound : Line → Type 0
Sound end = Unit {0}
Sound (field key k next) = Apart k × ((v : Of k) → (starts (next v) ≡ true) × Sound (next v))

-- ---- what a line says that was written

-- the values, with the line behind them; or their fault, at their own line
abbrev pub judgement : {A : Type 0} → A → Option Fault → Parser A
judgement w none = λ l s. took w (suc l) s
judgement w (some f) = λ l s. refused f l

pub after_key_lem : (key s : List ℕ) → after key (key ++ s) ≡ at s
unfolding after
after_key_lem [] s = refl
after_key_lem (b ∷ key) s = rw (eq-eqb b b refl) (after_key_lem key s)

-- a field, where what follows stops its value
pub field_write : (key : List ℕ) (k : ValueKind) → Apart k → (v : Of k) (l b : ℕ) (r : List ℕ) → stops b ≡ true
    → field_of key k l (key ++ (spell k v ++ (b ∷ r))) ≡ verdict v (check k v) l (b ∷ r)
unfolding field_of
field_write key k a v l b r e =
    let n : length (spell k v) < length (spell k v ++ (b ∷ r)) = simp length-append (omega arith) in
    rw (after_key_lem key (spell k v ++ (b ∷ r)), run_spell k v a b r e, lt-ltb _ _ n, take-append_seam (spell k v) (b ∷ r), drop-append_seam (spell k v) (b ∷ r), said_spell k v a)

-- what follows a value begins with a byte that stops it
pub begins : (d : Line) (w : Vals d) (s : List ℕ) → starts d ≡ true → (b : ℕ) × (r : List ℕ) × (write d w ++ s ≡ b ∷ r) × (stops b ≡ true)
unfolding write
begins end w s e = (10, s, refl, refl)
begins (field [] k next) w s e = no (cc)
begins (field (b ∷ key) k next) w s e = (b, _, refl, e)

-- a line that was written says its values, or the first of their faults
pub line_write : (d : Line) → Sound d → (w : Vals d) (l : ℕ) (s : List ℕ) → line d l (write d w ++ s) ≡ judgement w (line_fault d w) l s
unfolding line write line_fault after
line_write end g w l s = refl
line_write (field key k next) g w l s =
    let v = w.0 in
    let t = g.1 v in
    let b = begins (next v) w.1 s t.0 in
    let ih = line_write (next v) t.1 w.1 l s in
    rw (append_assoc key (spell k v ++ write (next v) w.1) s, append_assoc (spell k v) (write (next v) w.1) s, b.2, field_write key k g.0 v l b.0 b.1 b.3)
    (goes (check k v) _ _ (line_fault (next v) w.1) (rw (← b.2, ih) (paired (line_fault (next v) w.1))))
  where
    paired : (f : Option Fault) → onto {B = Vals (field key k next)} (judgement w.1 f l s) (λ x l' r. took (w.0, x) l' r) ≡ judgement w f l s
    paired none = refl
    paired (some f) = refl

    goes : (c : Option Fault) (r : List ℕ) (p : Of k → Parser (Vals (field key k next))) (f : Option Fault) → p w.0 l r ≡ judgement w f l s
        → onto (verdict w.0 c l r) p ≡ judgement w (or_else c f) l s
    goes none r p f e = e
    goes (some c) r p f e = refl

-- ---- what was written where a line says something

pub key_after : (key s r : List ℕ) → after key s ≡ at r → s ≡ key ++ r
unfolding after
key_after [] s r e = cc
key_after (b ∷ key) [] r e = no (cc)
key_after (b ∷ key) (x ∷ s) r e = cases (eqb b x)
    (λ q. rw (eqb-true b x q, key_after key s r (rw q at e)))
    (λ q. no (cc (rw q at e)))

-- what comes after a key says nothing unless the key stands there
key_read : {A P : Type 0} (key s : List ℕ) (p : Parser A) (l : ℕ) (v : A) (l' : ℕ) (r : List ℕ) → after_key (after key s) p l ≡ took v l' r
    → ((t : List ℕ) → s ≡ key ++ t → p l t ≡ took v l' r → P) → P
key_read {P = P} key s p l v l' r e then = go (after key s) refl e
  where
    go : (o : After) → after key s ≡ o → after_key o p l ≡ took v l' r → P
    go (at t) q e = then t (key_after key s t q) e
    go differs q e = no (cc)
    go broken q e = no (cc)

pub onto_read : {A B P : Type 0} (o : Outcome A) (p : A → Parser B) (w : B) (l : ℕ) (r : List ℕ) → onto o p ≡ took w l r
    → ((v : A) (k : ℕ) (s : List ℕ) → o ≡ took v k s → p v k s ≡ took w l r → P) → P
onto_read (took v k s) p w l r e then = then v k s refl e
onto_read (refused f k) p w l r e then = no (cc)

-- the bytes that say a value without fault are its spelling
judged_read : (k : ValueKind) (o : Option (Of k)) (l : ℕ) (s : List ℕ) (v : Of k) (l' : ℕ) (r : List ℕ) → judged k o l s ≡ took v l' r
    → (o ≡ some v) × (check k v ≡ none) × (l' ≡ l) × (s ≡ r)
judged_read k none l s v l' r e = no (cc)
judged_read k (some x) l s v l' r e = go (check k x) refl e
  where
    go : (c : Option Fault) → check k x ≡ c → verdict x c l s ≡ took v l' r → (some x ≡ some v) × (check k v ≡ none) × (l' ≡ l) × (s ≡ r)
    go none q e = let p : x ≡ v = cc in (cc, rw (← p) q, cc, cc)
    go (some f) q e = no (cc)

value_read : (k : ValueKind) (l : ℕ) (s : List ℕ) (v : Of k) (l' : ℕ) (r : List ℕ) → value_of k l s ≡ took v l' r
    → (s ≡ spell k v ++ r) × (check k v ≡ none) × (l' ≡ l)
value_read k l s v l' r e = cases (ltb (run s) (length s))
    (λ q.
    let j = judged_read k (said k (take (run s) s)) l (drop (run s) s) v l' r (rw q at e) in
    (rw (spell_said k (take (run s) s) v j.0, ← j.3) (sym (take-append-drop (run s) s)), j.1, j.2))
    (λ q. no (cc (rw q at e)))

-- where a line says values, they are what was written there, they have no fault, and one line was read
pub line_read : (d : Line) (l : ℕ) (s : List ℕ) (w : Vals d) (l' : ℕ) (r : List ℕ) → line d l s ≡ took w l' r
    → (s ≡ write d w ++ r) × (l' ≡ suc l) × (line_fault d w ≡ none)
unfolding line write line_fault field_of
line_read end l s w l' r e = key_read (10 ∷ []) s (λ k r. took tt (suc k) r) l w l' r e
    (λ t q h. let p : t ≡ r = cc in (q ∙ rw p, cc, refl))
line_read (field key k next) l s w l' r e =
    onto_read (field_of key k l s) _ w l' r e (λ v k' s' a b.
    onto_read (line (next v) k' s') _ w l' r b (λ x l'' r'' c h.
    key_read key s (value_of k) l v k' s' a (λ t q g.
    let f = value_read k l t v k' s' g in
    let ih = line_read (next v) k' s' x l'' r'' c in
    let p : (v, x) ≡ w = cc h in
    let m : l'' ≡ l' = cc h in
    let n : r'' ≡ r = cc h in
    subst (λ (y : Vals (field key k next)). (s ≡ write (field key k next) y ++ r) × (l' ≡ suc l) × (line_fault (field key k next) y ≡ none)) p
    (q ∙ rw (f.0, ih.0, n) (simp append_assoc), cc (ih.1, f.2), rw f.1 ih.2))))

-- ---- every line of a text can be read back

pub head_sound : Sound head_line
unfolding same
head_sound = (tt, λ n. (refl, ((refl, omega arith, omega arith), λ c. (refl, tt))))

pub counts_sound : Sound counts_line
counts_sound = (tt, λ k. (refl, (tt, λ p. (refl, (tt, λ s. (refl, (tt, λ q. (refl, tt))))))))

pub task_sound : (procs i : ℕ) → Sound (task_line procs i)
task_sound procs i = (tt, λ j. (refl, (tt, λ p. (refl, tt))))

pub sem_sound : (i : ℕ) → Sound (sem_line i)
sem_sound i = (tt, λ j. (refl, (tt, λ c. (refl, tt))))

pub queue_sound : (closed : Bool) (i : ℕ) → Sound (queue_line closed i)
unfolding same
queue_sound false i = (tt, λ j. (refl, (tt, λ c. (refl, tt))))
queue_sound true i = (tt, λ j. (refl, (tt, λ c. (refl, ((refl, omega arith, omega arith), λ b. (refl, tt))))))

pub proc_sound : (closed : Bool) (i : ℕ) → Sound (proc_line closed i)
proc_sound false i = (tt, λ j. (refl, (tt, λ k. (refl, (tt, λ m. (refl, (tt, λ n. (refl, tt))))))))
proc_sound true i = (tt, λ j. (refl, (tt, λ k. (refl, (tt, λ m. (refl, (tt, λ n. (refl, (tt, λ d. (refl, tt))))))))))

to_sound : (c : Scope) → Sound (to_field c)
to_sound c = (tt, λ to. (refl, tt))

fields_sound : (c : Scope) (k : NodeKind) → (starts (fields c k) ≡ true) × Sound (fields c k)
fields_sound c start = (refl, to_sound c)
fields_sound c set_kind = (refl, (tt, λ v. (refl, (tt, λ o. (refl, (tt, λ a. (refl, (tt, λ b. (refl, to_sound c)))))))))
fields_sound c test = (refl, (tt, λ o. (refl, (tt, λ a. (refl, (tt, λ b. (refl, (tt, λ y. (refl, (tt, λ n. (refl, tt)))))))))))
fields_sound c read = (refl, (tt, λ v. (refl, to_sound c)))
fields_sound c call = (refl, (tt, λ p. (refl, (tt, λ xs. (refl, to_sound c)))))
fields_sound c wait = (refl, (tt, λ s. (refl, to_sound c)))
fields_sound c signal = (refl, (tt, λ s. (refl, to_sound c)))
fields_sound c send = (refl, (tt, λ q. (refl, (tt, λ v. (refl, to_sound c)))))
fields_sound c recv = (refl, (tt, λ q. (refl, (tt, λ v. (refl, to_sound c)))))
fields_sound c assert = (refl, (tt, λ v. (refl, to_sound c)))
fields_sound c out = (refl, (tt, λ v. (refl, to_sound c)))
fields_sound c return = (refl, tt)

pub node_sound : (c : Scope) (lo n : ℕ) → Sound (node_line c lo n)
node_sound c lo n = (tt, λ j. (refl, (tt, λ k. fields_sound c k)))
