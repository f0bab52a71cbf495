-- The order of numbers by their digits.
use Rattle.std.specs.Prelude.{Option, Some, ◌≡◌, ℕ, ◌+◌, ◌-◌, ◌*◌, ◌<◌, ◌≤◌, true, false, not, List, [], ◌∷◌, length, ◌==◌, nat_lt, refl}
use Rattle.std.proofs.Math.Path.{sym, ap}
use Rattle.std.specs.declared.cmp.Ordering.{Ordering}
use Rattle.std.specs.declared.cmp.Ordering.TheVariants.{Equal, Greater}
use Rattle.std.specs.Ordering.{nat_cmp, is_lt, is_some_and, partial_ordering_then}
use Rattle.std.specs.Cmp.{nat_cmp_is}
use Rattle.std.specs.Cmp.Lexicographic.{slice_partial_cmp}
use Rattle.std.proofs.Common.{arith, lt-ltb, le-ltb}
use Rattle.std.proofs.lemmas.Bool.{false≢true, eqb-false, not-true}
use Rattle.text.specs.Number.{spelt, value, value_from, all_digits, is_digit}
use Rattle.text.proofs.NumberLaws.{and_left, and_right, digit_fact, by_order}

-- a lead at one digit is kept over as many digits more
lead : (v w : ℕ) (xs ys : List ℕ) → length xs ≡ length ys → all_digits xs ≡ true → all_digits ys ≡ true → v < w → value_from v xs < value_from w ys
unfolding value_from all_digits
lead v w [] [] e a b h = h
lead v w [] (y ∷ ys) e a b h = absurd (omega arith)
lead v w (x ∷ xs) [] e a b h = absurd (omega arith)
lead v w (x ∷ xs) (y ∷ ys) e a b h =
    let d : (48 ≤ x) × (x ≤ 57) = digit_fact x (and_left (is_digit x) (all_digits xs) a) in
    lead (v * 10 + (x - 48)) (w * 10 + (y - 48)) xs ys (omega arith) (and_right (is_digit x) (all_digits xs) a) (and_right (is_digit y) (all_digits ys) b) (omega arith)

longer : (w : ℕ) (xs ys : List ℕ) → length xs ≤ length ys → all_digits xs ≡ true → all_digits ys ≡ true → 0 < w → value_from 0 xs < value_from w ys
unfolding value_from all_digits
longer w xs [] e a b h = lead 0 w xs [] (omega arith) a refl h
longer w xs (y ∷ ys) e a b h =
    by_order (length xs) (length (y ∷ ys))
    (λ l. longer (w * 10 + (y - 48)) xs ys (omega arith) a (and_right (is_digit y) (all_digits ys) b) (omega arith))
    (λ g. lead 0 w xs (y ∷ ys) (omega arith) a b h)

all_of : (t : List ℕ) → spelt t ≡ true → all_digits t ≡ true
unfolding spelt all_digits
all_of [] e = absurd (false≢true e)
all_of (b ∷ []) e = rw e
all_of (b ∷ c ∷ t) e = and_right (not (b == 48)) (all_digits (b ∷ c ∷ t)) e

first_of : (b : ℕ) (t : List ℕ) → spelt (b ∷ t) ≡ true → 0 < length t → 0 < 0 * 10 + (b - 48)
unfolding spelt all_digits
first_of b [] e h = absurd (omega arith)
first_of b (c ∷ t) e h =
    let d : (48 ≤ b) × (b ≤ 57) = digit_fact b (and_left (is_digit b) (all_digits (c ∷ t)) (and_right (not (b == 48)) (all_digits (b ∷ c ∷ t)) e)) in
    omega (arith, eqb-false b 48 (not-true (b == 48) (and_left (not (b == 48)) (all_digits (b ∷ c ∷ t)) e)))

shorter_less : (a b : List ℕ) → spelt a ≡ true → spelt b ≡ true → length a < length b → value a < value b
unfolding value value_from all_digits
shorter_less a [] p q h = absurd (omega arith)
shorter_less [] (y ∷ b) p q h = absurd (false≢true (all_none p))
  where
    all_none : spelt [] ≡ true → false ≡ true
    all_none e = unfold spelt in e
shorter_less (x ∷ a) (y ∷ b) p q h =
    longer (0 * 10 + (y - 48)) (x ∷ a) b (omega arith) (all_of (x ∷ a) p) (and_right (is_digit y) (all_digits b) (all_of (y ∷ b) q)) (first_of y b q (omega arith))

-- ---- digit by digit

abbrev order : List ℕ → List ℕ → Option Ordering
order = slice_partial_cmp (λ x y. Some (nat_cmp x y))

-- digits stand in the order of what they say, where those before them say the same
order_value : (v : ℕ) (a b : List ℕ) → length a ≡ length b → all_digits a ≡ true → all_digits b ≡ true → order a b ≡ Some (nat_cmp (value_from v a) (value_from v b))
unfolding value_from all_digits
order_value v [] [] e p q = ap Some (nat_cmp_is v v Equal refl)
order_value v [] (y ∷ b) e p q = absurd (omega arith)
order_value v (x ∷ a) [] e p q = absurd (omega arith)
order_value v (x ∷ a) (y ∷ b) e p q =
    let d : (48 ≤ x) × (x ≤ 57) = digit_fact x (and_left (is_digit x) (all_digits a) p) in
    let f : (48 ≤ y) × (y ≤ 57) = digit_fact y (and_left (is_digit y) (all_digits b) q) in
    let m = and_right (is_digit x) (all_digits a) p in
    let n = and_right (is_digit y) (all_digits b) q in
    let s : length a ≡ length b = omega arith in
    by_order x y
    (λ l.
    let g : value_from (v * 10 + (x - 48)) a < value_from (v * 10 + (y - 48)) b = lead (v * 10 + (x - 48)) (v * 10 + (y - 48)) a b s m n (omega arith) in
    rw (lt-ltb x y l, lt-ltb _ _ g))
    (λ k. by_order y x
    (λ l.
    let g : value_from (v * 10 + (y - 48)) b < value_from (v * 10 + (x - 48)) a = lead (v * 10 + (y - 48)) (v * 10 + (x - 48)) b a (sym s) n m (omega arith) in
    rw (← nat_cmp_is x y Greater l, ← nat_cmp_is _ _ Greater g))
    (λ l.
    let z : x ≡ y = omega arith in
    rw (z, ← nat_cmp_is y y Equal refl) (order_value (v * 10 + (y - 48)) a b s m n)))

is_less : (x y : ℕ) → is_lt (nat_cmp x y) ≡ nat_lt x y
is_less x y = by_order x y (λ l. rw (lt-ltb x y l)) (λ k. by_order y x (λ l. rw (← nat_cmp_is x y Greater l, le-ltb x y k)) (λ l.
    let z : x ≡ y = omega arith in rw (← nat_cmp_is x y Equal z, le-ltb x y k)))

-- of spelt numbers, one with fewer digits is less, and of as many digits the one that they put first
pub less_value : (a b : List ℕ) → spelt a ≡ true → spelt b ≡ true
    → is_some_and is_lt (partial_ordering_then (Some (nat_cmp (length a) (length b))) (order a b)) ≡ nat_lt (value a) (value b)
unfolding value
less_value a b p q =
    by_order (length a) (length b)
    (λ l. rw (lt-ltb _ _ l, lt-ltb _ _ (shorter_less a b p q l)))
    (λ k. by_order (length b) (length a)
    (λ l. let g : value b < value a = shorter_less b a q p l in rw (← nat_cmp_is _ _ Greater l, le-ltb (value a) (value b) (omega arith)))
    (λ l.
    let s : length a ≡ length b = omega arith in
    rw (← nat_cmp_is _ _ Equal s, order_value 0 a b s (all_of a p) (all_of b q)) (is_less (value a) (value b))))
