-- Laws of writing: one piece after another, a field, a line.
use Rattle.std.specs.Prelude.{ℕ, ◌+◌, ◌-◌, ◌/◌, ◌%◌, ◌≤◌, ◌<◌, ◌≡◌, refl, List, [], ◌∷◌, ◌++◌, length, set, get_or, take, drop}
use Rattle.std.proofs.Common.{sym, ◌∙◌, ap, append_assoc, arith, add-one, length-append, take-append-drop, take-suc, take_at, length-take-le}
use Rattle.std.proofs.lemmas.List.Edits.{sets, sets-eq}
use Rattle.std.proofs.Math.Seq.{length-sets, set_out}
use Rattle.table.specs.Places.{sets_append, sets_out}
use Rattle.text.specs.Number.{digits}
use Rattle.text.proofs.NumberLaws.{digits_small, digits_large}
use Rattle.put.specs.Put.{Put, PutField}

-- one piece after another
pub put_after : {k j : ℕ} {l m n t u : List ℕ} {at p q : ℕ} → Put k l at t m p → Put j m p u n q → Put (k + j) l at (t ++ u) n q
put_after {k} {j} {l} {m} {n} {t} {u} {at} {p} {q} a b = record {
  few = omega (arith, a.few, b.few, length-append t u);
  bytes = b.bytes ∙ ap (λ (x : List ℕ). sets x p u) a.bytes ∙ ap (λ (i : ℕ). sets (sets l at t) i u) a.next ∙ sym (sets_append t u l at);
  same = b.same ∙ a.same;
  next = b.next ∙ omega (arith, a.next, length-append t u);
}

pub put_more : {k j : ℕ} {l m t : List ℕ} {at p : ℕ} → k ≤ j → Put k l at t m p → Put j l at t m p
put_more h a = record { few = omega (arith, a.few); bytes = a.bytes; same = a.same; next = a.next }

-- as few bytes as there are
pub put_tight : {k : ℕ} {l m t : List ℕ} {at p : ℕ} → Put k l at t m p → Put (length t) l at t m p
put_tight a = record { few = omega arith; bytes = a.bytes; same = a.same; next = a.next }

-- a text written at the start of a buffer z is written on from there
pub put_filled : {k j : ℕ} {l z m t o : List ℕ} {at n r : ℕ} → n ≤ length z → Put k z 0 t m n → Put j l at (take n m) o r → Put k l at t o r
put_filled {z = z} {m = m} {t = t} {n = n} h a b =
    let e : n ≡ length t = omega (arith, a.next) in
    let w : take n m ≡ t = ap (λ (x : List ℕ). take n x) (a.bytes ∙ sets-eq t z 0 (omega arith)) ∙ take_at t _ n (sym e) in
    let c = rw w at b in
    record { few = a.few; bytes = c.bytes; same = c.same; next = c.next }

-- a byte past the end
pub put_past : {l : List ℕ} {at b : ℕ} → length l ≤ at → Put 1 l at (b ∷ []) l (at + 1)
put_past {l} {at} {b} h = record { few = omega arith; bytes = sym (set_out l at b h); same = refl; next = refl }

-- a text past the end, and one that the end cuts
pub put_skip : {l t : List ℕ} {at : ℕ} → length l ≤ at → Put (length t) l at t l (at + length t)
put_skip {l} {t} {at} h = record { few = omega arith; bytes = sym (sets_out t l at h); same = refl; next = refl }

pub put_cut : {l m t : List ℕ} {at k r : ℕ} → at ≤ length l → length l < at + length t → Put k l at (take (length l - at) t) m r → Put (length t) l at t m (at + length t)
put_cut {l} {m} {t} {at} {k} {r} h g a =
    let n = length l - at in
    let e : at + length (take n t) ≡ length l = omega (arith, length-take-le n t (omega arith)) in
    let b : sets l at t ≡ sets l at (take n t) = ap (sets l at) (sym (take-append-drop n t)) ∙ sets_append (take n t) (drop n t) l at ∙ sets_out (drop n t) (sets l at (take n t)) (at + length (take n t)) (omega (arith, length-sets l at (take n t))) in
    record { few = omega arith; bytes = a.bytes ∙ sym b; same = a.same; next = refl }

-- ---- a text, byte by byte

-- the first i bytes of t stand at their place
pub record Copying (l : List ℕ) (at : ℕ) (t m : List ℕ) (i : ℕ) : Type 0 where
  pub within : i ≤ length t
  pub so_far : m ≡ sets l at (take i t)

pub copying_turn : {l t m : List ℕ} {at i : ℕ} → Copying l at t m i → i < length t → Copying l at t (set m (at + i) (get_or t i 0)) (i + 1)
copying_turn {l} {t} {m} {at} {i} a h = record {
  within = omega arith;
  so_far = rw (add-one i, take-suc t i 0 h, sets_append (take i t) (get_or t i 0 ∷ []) l at, ← a.so_far, length-take-le i t (omega arith));
}

-- ---- small numbers

pub put_digit : {l m : List ℕ} {at r : ℕ} (n : ℕ) → n < 10 → Put 1 l at ((48 + n) ∷ []) m r → Put 3 l at (digits n) m r
put_digit n h a = rw (digits_small n h) (put_more (omega arith) a)

pub put_two : {l m k : List ℕ} {at p r : ℕ} (n : ℕ) → 10 ≤ n → n < 100 → Put 1 l at ((48 + n / 10) ∷ []) m p → Put 1 m p ((48 + n % 10) ∷ []) k r → Put 3 l at (digits n) k r
put_two n g h a b = rw (digits_large n g, digits_small (n / 10) (omega arith)) (put_more (omega arith) (put_after a b))

pub put_three : {l m k o : List ℕ} {at p q r : ℕ} (n : ℕ) → 100 ≤ n → n < 256
    → Put 1 l at ((48 + n / 100) ∷ []) m p → Put 1 m p ((48 + n / 10 % 10) ∷ []) k q → Put 1 k q ((48 + n % 10) ∷ []) o r → Put 3 l at (digits n) o r
put_three n g h a b c =
    let e : n / 10 / 10 ≡ n / 100 = omega arith in
    rw (digits_large n (omega arith), digits_large (n / 10) (omega arith), digits_small (n / 10 / 10) (omega arith), e) (put_more (omega arith) (put_after (put_after a b) c))

-- ---- fields

pub field_of : {i k : ℕ} {l m n key v : List ℕ} {at p r : ℕ} → Put i l at key m p → Put k m p v n r → PutField (i + k) l at key v n r
field_of a b = record { put = put_after a b }

-- a field and the rest of its line
pub field_then : {i k : ℕ} {l m n key v u : List ℕ} {at p r : ℕ} → PutField i l at key v m p → Put k m p u n r → Put (i + k) l at (key ++ (v ++ u)) n r
field_then {key = key} {v = v} {u = u} a b = rw (← append_assoc key v u) (put_after a.put b)

-- a field that ends its line
pub field_end : {i j k : ℕ} {l m n key v u : List ℕ} {at p r : ℕ} → i + k ≤ j → PutField i l at key v m p → Put k m p u n r → PutField j l at key (v ++ u) n r
field_end h a b = record { put = put_more h (field_then a b) }
