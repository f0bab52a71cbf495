-- Laws of numbers up to a bound: each says what a step of the code shows.
use Rattle.std.specs.Prelude.{ℕ, ◌+◌, ◌-◌, ◌*◌, ◌≤◌, ◌<◌, ◌≡◌, refl, List, [], ◌∷◌, Bool, true, false, ◌&&◌, leb, length, get_or, drop, None, Some}
use Rattle.std.specs.Prelude.{Option as Heard}
use Rattle.std.proofs.Math.Path.{sym, ap}
use Rattle.std.proofs.Common.{◌∙◌, ◌⊎◌, inl, inr, arith, add-one, drop_of_length-le, drop-cons}
use Rattle.std.proofs.Math.Option.{Option, none, some}
use borrow.Author.Tests.{le-leb, lt-leb, ne_eqb}
use Rattle.table.specs.Mask.{pick}
use Rattle.text.specs.Number.{all_digits, is_digit, spelt, value, value_from}
use Rattle.machine.specs.Words.{filtered, said_up_to}
use Rattle.arguments.specs.Answers.{answer_of, digits_up_to}

-- the number that digits say after those that say v, if it is at most m
abbrev from : ℕ → ℕ → List ℕ → Option ℕ
from m v s = filtered (λ n. leb n m) (pick (all_digits s) (some (value_from v s)) none)

grows : (v : ℕ) (s : List ℕ) → v ≤ value_from v s
unfolding value_from
grows v [] = omega arith
grows v (b ∷ s) = omega (arith, grows (v * 10 + (b - 48)) s)

filtered_none : (m : ℕ) (b : Bool) (x : ℕ) → m < x → filtered (λ n. leb n m) (pick b (some x) none) ≡ none
filtered_none m true x h = rw (lt-leb x m h)
filtered_none m false x h = refl

-- a loop's turn, at place i
pub record Going (m : ℕ) (t : List ℕ) (v i : ℕ) : Type 0 where
  pub within : i ≤ length t
  pub small : v ≤ m
  pub same : from m v (drop i t) ≡ digits_up_to m t

pub going_start : (m : ℕ) (t : List ℕ) → Going m t 0 0
unfolding digits_up_to value
going_start m t = record { within = omega arith; small = omega arith; same = refl }

module _ {m : ℕ} {t : List ℕ} {v i : ℕ} (g : Going m t v i) where
  turn : i < length t → is_digit (get_or t i 0) ≡ true → from m (v * 10 + (get_or t i 0 - 48)) (drop (i + 1) t) ≡ digits_up_to m t
  unfolding all_digits value_from
  turn h d = rw (add-one i) (rw (drop-cons t i 0 h, d) at g.same)

  no_digit : i < length t → is_digit (get_or t i 0) ≡ false → None ≡ answer_of (digits_up_to m t)
  unfolding all_digits value_from
  no_digit h d = ap answer_of (rw (drop-cons t i 0 h, d) at g.same)

  pub going_other : i < length t → (get_or t i 0 < 48) ⊎ (57 < get_or t i 0) → None ≡ answer_of (digits_up_to m t)
  going_other h (inl l) = no_digit h (rw (lt-leb 48 (get_or t i 0) l))
  going_other h (inr l) = no_digit h (rw (le-leb 48 (get_or t i 0) (omega arith), lt-leb (get_or t i 0) 57 l))

  module _ (h : i < length t) (l : 48 ≤ get_or t i 0) (u : get_or t i 0 ≤ 57) where
    digit : is_digit (get_or t i 0) ≡ true
    digit = rw (le-leb 48 (get_or t i 0) l, le-leb (get_or t i 0) 57 u)

    module _ {d : ℕ} (e : d ≡ get_or t i 0 - 48) where
      pub going_over : m < v * 10 + d → None ≡ answer_of (digits_up_to m t)
      going_over k =
          let w = v * 10 + (get_or t i 0 - 48) in
          ap answer_of (sym (filtered_none m (all_digits (drop (i + 1) t)) (value_from w (drop (i + 1) t)) (omega (arith, e, grows w (drop (i + 1) t)))) ∙ turn h digit)

      pub going_turn : v * 10 + d ≤ m → Going m t (v * 10 + d) (i + 1)
      going_turn k = record { within = omega arith; small = k; same = rw e (turn h digit) }

  pub going_end : length t ≤ i → Some v ≡ answer_of (digits_up_to m t)
  unfolding all_digits value_from
  going_end h = let e : some v ≡ digits_up_to m t = sym (rw (drop_of_length-le t h, le-leb v m g.small)) ∙ g.same in ap answer_of e

-- ---- the leading zero

and_true : (a : Bool) → a && true ≡ a
and_true true = refl
and_true false = refl

spells : (m : ℕ) (t : List ℕ) → spelt t ≡ all_digits t → digits_up_to m t ≡ said_up_to m t
unfolding digits_up_to said_up_to
spells m t e = rw e

pub number_none : (m : ℕ) (t : List ℕ) → length t < 1 → None ≡ answer_of (said_up_to m t)
unfolding said_up_to spelt
number_none m [] h = refl
number_none m (b ∷ t) h = absurd (omega arith)

pub number_zero : (m : ℕ) (t : List ℕ) → 2 ≤ length t → get_or t 0 0 ≡ 48 → None ≡ answer_of (said_up_to m t)
unfolding said_up_to spelt
number_zero m [] o h = absurd (omega arith)
number_zero m (b ∷ []) o h = absurd (omega arith)
number_zero m (b ∷ c ∷ t) o h = rw h

pub number_one : (m : ℕ) (t : List ℕ) {r : Heard ℕ} → 1 ≤ length t → length t < 2 → r ≡ answer_of (digits_up_to m t) → r ≡ answer_of (said_up_to m t)
unfolding spelt all_digits
number_one m [] h u e = absurd (omega arith)
number_one m (b ∷ []) h u e = e ∙ ap answer_of (spells m (b ∷ []) (sym (and_true (is_digit b))))
number_one m (b ∷ c ∷ t) h u e = absurd (omega arith)

pub number_more : (m : ℕ) (t : List ℕ) {r : Heard ℕ} → 2 ≤ length t → (get_or t 0 0 ≡ 48 → ⊥) → r ≡ answer_of (digits_up_to m t) → r ≡ answer_of (said_up_to m t)
unfolding spelt
number_more m [] o h e = absurd (omega arith)
number_more m (b ∷ []) o h e = absurd (omega arith)
number_more m (b ∷ c ∷ t) o h e = e ∙ ap answer_of (spells m (b ∷ c ∷ t) (rw (ne_eqb b 48 h)))
