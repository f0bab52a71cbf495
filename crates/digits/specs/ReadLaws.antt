use Rattle.std.specs.Prelude.{None, Option, Some, ◌≡◌, ℕ, ◌+◌, ◌-◌, ◌*◌, ◌<◌, ◌≤◌, Bool, true, false, cond, ◌&&◌, ◌⊎◌, List, [], ◌∷◌, length, drop, ◌≢◌, slice_index, refl}
use Rattle.std.proofs.Common.{sym, ◌∙◌, arith, drop_of_length-le, add-one, le-leb, ne_eqb}
use Rattle.std.proofs.Math.Logic.{inl, inr}
use Rattle.std.proofs.Math.Seq.{drop-cons}
use Rattle.text.specs.Number.{all_digits, spelt, value, value_from, is_digit}
use Rattle.digits.specs.Read.{pick_num, capped, digits_of, number_of}

and_true : (a : Bool) → a && true ≡ a
and_true true = refl
and_true false = refl

-- digits_of, as the loop goes
unfoldable pub digits_from : ℕ → List ℕ → Option ℕ
digits_from v [] = Some v
digits_from v (b ∷ t) = cond (is_digit b) (digits_from (capped (v * 10 + (b - 48))) t) None

pick_and : (a b : Bool) (v : ℕ) → cond a (pick_num b v) None ≡ pick_num (a && b) v
pick_and true b v = refl
pick_and false b v = refl

pub digits_from_is : (v : ℕ) (t : List ℕ) → digits_from (capped v) t ≡ pick_num (all_digits t) (capped (value_from v t))
unfolding digits_from all_digits value_from
digits_from_is v [] = refl
digits_from_is v (b ∷ t) =
    let e : capped (capped v * 10 + (b - 48)) ≡ capped (v * 10 + (b - 48)) = omega arith in
    rw (e, digits_from_is (v * 10 + (b - 48)) t) (pick_and (is_digit b) (all_digits t) _)

-- a loop's turn, at place i
module _ (v : ℕ) (t : List ℕ) (i : ℕ) (h : i < length t) where
  pub digits_from_turn : digits_from v (drop i t) ≡ cond (is_digit (slice_index t i)) (digits_from (capped (v * 10 + (slice_index t i - 48))) (drop (i + 1) t)) None
  unfolding digits_from
  digits_from_turn = rw (add-one i, drop-cons t i 0 h)

  pub digits_from_digit : 48 ≤ slice_index t i → slice_index t i ≤ 57 → digits_from v (drop i t) ≡ digits_from (capped (v * 10 + (slice_index t i - 48))) (drop (i + 1) t)
  digits_from_digit l u = digits_from_turn ∙ rw (le-leb _ _ l, le-leb _ _ u)

pub digits_from_start : (t : List ℕ) → digits_from 0 t ≡ digits_of t
unfolding digits_of value
digits_from_start t = digits_from_is 0 t

pub digits_from_end : (v : ℕ) (t : List ℕ) (i : ℕ) → length t ≤ i → digits_from v (drop i t) ≡ Some v
unfolding digits_from
digits_from_end v t i h = rw (drop_of_length-le t h)

-- what holds at each turn of the loop
pub record Going (t : List ℕ) (v i : ℕ) : Type 0 where
  pub within : i ≤ length t
  pub small : v ≤ 4294967296
  pub same : digits_from v (drop i t) ≡ digits_of t

pub starts : (t : List ℕ) → Going t 0 0
starts t = record { within = omega arith; small = omega arith; same = digits_from_start t }

pub leaves : {t : List ℕ} {v i : ℕ} → Going t v i → i < length t → is_digit (slice_index t i) ≡ false → None ≡ digits_of t
leaves {t} {v} {i} g h k = sym (digits_from_turn v t i h ∙ rw k) ∙ g.same

pub turns : {t : List ℕ} {v i w : ℕ} → Going t v i → i < length t → 48 ≤ slice_index t i → slice_index t i ≤ 57
    → w ≡ capped (v * 10 + (slice_index t i - 48)) → Going t w (i + 1)
turns {t} {v} {i} g h l u q =
    record { within = omega arith; small = omega arith; same = rw q (sym (digits_from_digit v t i h l u) ∙ g.same) }

pub ends : {t : List ℕ} {v i : ℕ} → Going t v i → length t ≤ i → Some v ≡ digits_of t
ends {t} {v} {i} g h = sym (digits_from_end v t i h) ∙ g.same

-- the leading zero
pub number_none : (t : List ℕ) → length t ≡ 0 → None ≡ number_of t
unfolding number_of spelt
number_none [] h = refl
number_none (b ∷ t) h = absurd (omega arith)

pub number_zero : (t : List ℕ) → slice_index t 0 ≡ 48 → 1 < length t → None ≡ number_of t
unfolding number_of spelt
number_zero [] h l = absurd (omega arith)
number_zero (b ∷ []) h l = absurd (omega arith)
number_zero (b ∷ c ∷ t) h l = rw h

pub number_digits : (t : List ℕ) {r : Option ℕ} → (length t ≢ 0) → ((slice_index t 0 ≡ 48) × (length t ≤ 1)) ⊎ (slice_index t 0 ≢ 48) → r ≡ digits_of t → r ≡ number_of t
unfolding number_of spelt digits_of all_digits
number_digits [] n h e = absurd (n refl)
number_digits (b ∷ []) n h e = e ∙ rw and_true
number_digits (b ∷ c ∷ t) n (inl h) e = absurd (omega arith)
number_digits (b ∷ c ∷ t) n (inr h) e = rw (ne_eqb b 48 h) e
