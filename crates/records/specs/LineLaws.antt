-- A set of parameters is small; lines that differ by the form.
use Rattle.std.specs.Prelude.{ℕ, zero, suc, ◌+◌, ◌≤◌, ◌<◌, ◌≡◌, refl, List, [], ◌∷◌, Bool, true, false, ltb, eqb, length, take, drop, Ok}
use Rattle.std.proofs.Common.{ap, arith, add-zero, ne_eqb, ltb-true, le-leb}
use Rattle.std.proofs.Math.Option.{Option, none, some}
use Rattle.table.specs.Cases.{cases}
use Rattle.table.specs.Mask.{mask_of}
use Rattle.table.specs.MaskLaws.{mask_of_lt}
use Rattle.text.specs.declared.Fault.{Fault}
use Rattle.text.specs.declared.Fault.TheVariants.{Index, Range}
use Rattle.text.specs.Number.{bytes, every}
use Rattle.text.specs.Value.{ValueKind, Of, said, check, ascending, within}
use Rattle.text.proofs.ValueLaws.{no}
use Rattle.text.specs.Line.{took, After, at as stands, differs, broken, after, run, verdict, judged, value_of, after_key, field_of}
use Rattle.text.specs.Format.{elem, set_of}
use Rattle.text.proofs.NodeLaws.{list_fact}
use Rattle.table.specs.declared.Queue.{Queue}
use Rattle.records.specs.declared.ProcHead.{ProcHead}
use Rattle.records.specs.Answer.{QueueAt, SizesAt, ProcAt, head_of}
use Rattle.numbers.specs.ValueLaws.{mapped_took}
use Rattle.numbers.specs.Answer.{NumberAt}
use Rattle.lists.specs.Sets.{SetAt}
use Rattle.fields.specs.Answer.{Answer}
use Rattle.fields.specs.FieldLaws.{number_next}

-- ---- a value that was read has no fault

judged_check : (k : ValueKind) (o : Option (Of k)) (l : ℕ) (s : List ℕ) {v : Of k} {l' : ℕ} {r : List ℕ} → judged k o l s ≡ took v l' r → check k v ≡ none
judged_check k none l s e = no (cc)
judged_check k (some x) l s {v} {l'} {r} e = go (check k x) refl e
  where
    go : (c : Option Fault) → check k x ≡ c → verdict x c l s ≡ took v l' r → check k v ≡ none
    go none q e = let p : x ≡ v = cc in rw (← p) q
    go (some f) q e = no (cc)

key_check : (k : ValueKind) (o : After) (l : ℕ) {v : Of k} {l' : ℕ} {r : List ℕ} → after_key o (value_of k) l ≡ took v l' r → check k v ≡ none
key_check k (stands s) l e = cases (ltb (run s) (length s))
    (λ q. judged_check k (said k (take (run s) s)) l (drop (run s) s) (rw q at e))
    (λ q. no (cc (rw q at e)))
key_check k differs l e = no (cc)
key_check k broken l e = no (cc)

field_check : (key : List ℕ) (k : ValueKind) (l : ℕ) (s : List ℕ) {v : Of k} {l' : ℕ} {r : List ℕ} → field_of key k l s ≡ took v l' r → check k v ≡ none
unfolding field_of
field_check key k l s e = key_check k (after key s) l e

-- ---- a set of parameters fits its eight places

absent : (n i : ℕ) → n ≤ i → (xs : List ℕ) → within 0 n xs ≡ true → elem i xs ≡ false
unfolding every elem
absent n i h [] e = refl
absent n i h (x ∷ xs) e = cases (ltb x n)
    (λ q.
    let k : x < n = ltb-true x n q in
    let d : eqb i x ≡ false = ne_eqb i x (λ z. omega arith) in
    rw d (absent n i h xs (rw (le-leb 0 x (omega arith), q) at e)))
    (λ q. no (cc (rw (le-leb 0 x (omega arith), q) at e)))

cut : (k d : ℕ) (f : ℕ → Bool) → ((i : ℕ) → k ≤ i → f i ≡ false) → mask_of (d + k) f ≡ mask_of k f
unfolding mask_of
cut k zero f h = ap (λ (n : ℕ). mask_of n f) (let e : 0 + k ≡ k = omega arith in e)
cut k (suc d) f h =
    let e : suc d + k ≡ suc (d + k) = omega arith in
    rw (e, mask_of, h (d + k) (omega arith), add-zero) (cut k d f h)

small : (n : ℕ) (xs : List ℕ) → n ≤ 8 → within 0 n xs ≡ true → set_of xs < 256
small n xs h e = rw (cut 8 24 (λ i. elem i xs) (λ i k. absent n i (omega arith) xs e)) (mask_of_lt 8 (λ i. elem i xs))

pub set_small : {n : ℕ} {key s : List ℕ} {at v e : ℕ} → SetAt false 0 n key s at (Ok (v, e)) → n < 5 → v < 256
set_small {n} {key} {s} {at} {v} {e} m h =
    let t = mapped_took set_of (field_of key (ascending false 0 n) 0 (drop at s)) {x = v} {l = 0} {s = drop e s} (m.same 0) in
    rw (← t.2) (small n t.0 (omega arith) (list_fact false 0 n t.0 (field_check key (ascending false 0 n) 0 (drop at s) t.1)).1)

-- ---- the two forms
pub queue_form : {closed b : Bool} {i : ℕ} {s : List ℕ} {at : ℕ} {r : Answer Queue} → closed ≡ b → QueueAt b i s at r → QueueAt closed i s at r
queue_form q u = rw q u

pub head_drop : {k m n : ℕ} {x y : ℕ} → x ≡ y → ◌≡◌ {A = ProcHead} (record { params = k; vars = m; nodes = n; drop = y }) (record { params = k; vars = m; nodes = n; drop = x })
head_drop p = rw p

module _ {closed : Bool} {k : ℕ} {s : List ℕ} {at : ℕ} {r : Answer ProcHead} where
  pub sizes_form : {b : Bool} → closed ≡ b → SizesAt b k s at r → SizesAt closed k s at r
  sizes_form q u = rw q u

pub proc_sizes : {closed : Bool} {i j k a b : ℕ} {s : List ℕ} {at : ℕ} {r : Answer ProcHead}
    → NumberAt i (i + 1) Index (bytes "proc=") s at (Ok (j, a)) → NumberAt 0 5 Range (bytes " params=") s a (Ok (k, b))
    → SizesAt closed k s b r → ProcAt closed i s at r
proc_sizes {closed = true} {i = i} m n u = record { is = number_next {g = head_of true i} m (number_next n u.is); fits = u.fits }
proc_sizes {closed = false} {i = i} m n u = record { is = number_next {g = head_of false i} m (number_next n u.is); fits = u.fits }
