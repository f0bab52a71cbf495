-- The numbers in a mask, the lowest first.
use Rattle.std.specs.Prelude.{ℕ, zero, suc, ◌+◌, ◌*◌, ◌/◌, ◌%◌, ◌^◌, ◌<◌, ◌-◌, ◌≡◌, refl, List, [], ◌∷◌, eqb}
use Rattle.std.proofs.Common.{sym, ◌∙◌, ap, arith, pow-suc, add-zero}
use Rattle.std.proofs.Math.Nat.{div-div-eq-div-mul}
use Rattle.std.specs.Int.Bits.{bit_and, and_step, and_self}
use Rattle.std.specs.Int.Count.{count_trailing_zeros, under}
use Rattle.table.specs.Mask.{bit, also, members_from, members}

-- of the n numbers from k on those whose bits are in r, of which the lowest bit is k's
unfoldable pub above : ℕ → ℕ → ℕ → List ℕ
above zero k r = []
above (suc n) k r = also (eqb (r % 2) 1) k (above n (suc k) (r / 2))

from_above : (n k m : ℕ) → members_from n k m ≡ above n k (m / 2 ^ k)
unfolding members_from above bit
from_above zero k m = refl
from_above (suc n) k m =
    let e : m / 2 ^ suc k ≡ m / 2 ^ k / 2 = ap (λ (x : ℕ). m / x) (pow-suc 2 k) ∙ sym (div-div-eq-div-mul m (2 ^ k) 2) in
    ap (also (eqb (m / 2 ^ k % 2) 1) k) (from_above n (suc k) m ∙ ap (above n (suc k)) e)

pub members_above : (m : ℕ) → members m ≡ above 32 0 m
members_above m = from_above 32 0 m ∙ ap (above 32 0) (omega arith)

pub above_none : (n k : ℕ) → above n k 0 ≡ []
unfolding above
above_none zero k = refl
above_none (suc n) k = above_none n (suc k)

pub above_held : (n k r : ℕ) → r % 2 ≡ 1 → above (suc n) k r ≡ k ∷ above n (suc k) (r / 2)
unfolding above
above_held n k r h = rw h

pub above_left : (n k r : ℕ) → r % 2 ≡ 0 → above (suc n) k r ≡ above n (suc k) (r / 2)
unfolding above
above_left n k r h = rw h

-- the lowest number taken out of a mask
lowest_odd : (m : ℕ) → m % 2 ≡ 1 → bit_and m (m - 1) ≡ m / 2 * 2
lowest_odd m h =
    let a : (m - 1) / 2 ≡ m / 2 = omega arith in
    let b : (m - 1) % 2 ≡ 0 = omega arith in
    and_step m (m - 1) ∙ rw (a, b, h, and_self (m / 2)) (add-zero (m / 2 * 2))

lowest_even : (m : ℕ) → m % 2 ≡ 0 → (m ≡ 0 → ⊥) → bit_and m (m - 1) ≡ bit_and (m / 2) (m / 2 - 1) * 2
lowest_even m h z =
    let a : (m - 1) / 2 ≡ m / 2 - 1 = omega arith in
    let b : (m - 1) % 2 ≡ 1 = omega arith in
    and_step m (m - 1) ∙ rw (a, b, h) (add-zero (bit_and (m / 2) (m / 2 - 1) * 2))

above_twice : (n k q : ℕ) → above (suc n) k (q * 2) ≡ above n (suc k) q
above_twice n k q =
    let e : q * 2 / 2 ≡ q = omega arith in
    above_left n k (q * 2) (omega arith) ∙ ap (above n (suc k)) e

pub above_lowest : (n k m : ℕ) → m < 2 ^ n → (m ≡ 0 → ⊥) → (count_trailing_zeros n m < n) × (above n k m ≡ (k + count_trailing_zeros n m) ∷ above n k (bit_and m (m - 1)))
unfolding count_trailing_zeros
above_lowest zero k m h z = absurd (z (omega arith))
above_lowest (suc n) k m h z = go (m % 2) refl (λ (e : m % 2 ≡ 0). above_lowest n (suc k) (m / 2) (let g : m < 2 ^ n * 2 = rw pow-suc at h in omega arith) (λ y. z (omega arith)))
  where
    go : (r : ℕ) → m % 2 ≡ r
        → (m % 2 ≡ 0 → (count_trailing_zeros n (m / 2) < n) × (above n (suc k) (m / 2) ≡ (suc k + count_trailing_zeros n (m / 2)) ∷ above n (suc k) (bit_and (m / 2) (m / 2 - 1))))
        → (under r (count_trailing_zeros n (m / 2)) < suc n) × (above (suc n) k m ≡ (k + under r (count_trailing_zeros n (m / 2))) ∷ above (suc n) k (bit_and m (m - 1)))
    go zero e ih =
        let i = ih e in
        let a : suc k + count_trailing_zeros n (m / 2) ≡ k + suc (count_trailing_zeros n (m / 2)) = omega arith in
        let b : above n (suc k) (bit_and (m / 2) (m / 2 - 1)) ≡ above (suc n) k (bit_and m (m - 1)) = sym (ap (above (suc n) k) (lowest_even m e z) ∙ above_twice n k _) in
        (omega (arith, i.0), above_left n k m e ∙ i.1 ∙ (λ j. a j ∷ b j))
    go (suc r) e ih =
        let o : m % 2 ≡ 1 = omega arith in
        let a : k ≡ k + 0 = omega arith in
        let b : above n (suc k) (m / 2) ≡ above (suc n) k (bit_and m (m - 1)) = sym (ap (above (suc n) k) (lowest_odd m o) ∙ above_twice n k _) in
        (omega arith, above_held n k m o ∙ (λ j. a j ∷ b j))

-- no number, or the lowest and then the others
pub members_none : members 0 ≡ []
members_none = members_above 0 ∙ above_none 32 0

pub members_lowest : (m : ℕ) → m < 2 ^ 32 → (m ≡ 0 → ⊥) → (count_trailing_zeros 32 m < 32) × (members m ≡ count_trailing_zeros 32 m ∷ members (bit_and m (m - 1)))
members_lowest m h z =
    let a = above_lowest 32 0 m h z in
    let e : 0 + count_trailing_zeros 32 m ≡ count_trailing_zeros 32 m = omega arith in
    (a.0, members_above m ∙ a.1 ∙ (λ i. e i ∷ sym (members_above (bit_and m (m - 1))) i))
