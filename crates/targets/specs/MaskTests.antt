-- Lists of a mask's members, and the tests on the mask that say the same of them.
use Rattle.std.specs.Prelude.{ℕ, zero, suc, ◌+◌, ◌/◌, ◌%◌, ◌^◌, ◌≤◌, ◌<◌, ◌≡◌, refl, List, [], ◌∷◌, Bool, true, false, ◌&&◌, eqb, ltb, length}
use Rattle.std.proofs.Common.{sym, ◌∙◌, ap, arith, add-zero, mod-eq_of_lt, div-one, lt_of_lt_of_le, pow_pos, pow_mono, shr-shr, eqb-true, eq-eqb, ne_eqb, ltb-true, lt-ltb}
use Rattle.std.proofs.Math.Nat.{div-eq_of_lt}
use Rattle.std.specs.Int.Count.{ones, ones_in, ones_step}
use Rattle.table.specs.Cases.{cases}
use Rattle.table.specs.Mask.{bit, also, members_from, members, mask_of}
use Rattle.table.specs.MaskLaws.{bit_above, bit_mask_of, mask_of_lt, members_is}
use Rattle.text.proofs.NumberLaws.{by_order, and_left, and_right}
use Rattle.text.proofs.ValueLaws.{no}
use Rattle.text.specs.Value.{within, is_one}
use Rattle.text.proofs.MaskLists.{mask_bits}
use Rattle.text.proofs.RightLaws.{within_all, all_within}

pub same_truth : (a b : Bool) → (a ≡ true → b ≡ true) → (b ≡ true → a ≡ true) → a ≡ b
same_truth true b f g = sym (f refl)
same_truth false true f g = g refl
same_truth false false f g = refl

-- ---- masks

pub mask_none : (n : ℕ) (f : ℕ → Bool) → ((i : ℕ) → i < n → f i ≡ false) → mask_of n f ≡ 0
unfolding mask_of
mask_none zero f h = refl
mask_none (suc n) f h = rw (h n (omega arith), mask_none n f (λ i l. h i (omega arith)))

-- with nothing from k on it lies below 2^k
pub mask_under : (n k : ℕ) (f : ℕ → Bool) → ((i : ℕ) → k ≤ i → i < n → f i ≡ false) → mask_of n f < 2 ^ k
unfolding mask_of
mask_under zero k f h = pow_pos k
mask_under (suc n) k f h =
    let ih = mask_under n k f (λ i l u. h i l (omega arith)) in
    by_order n k
    (λ l. lt_of_lt_of_le (mask_of_lt (suc n) f) (pow_mono l))
    (λ l. rw (h n l (omega arith), add-zero) ih)

bit_low : (n k m : ℕ) → k < n → m % 2 ^ n ≡ 0 → bit k m ≡ false
unfolding bit
bit_low n k m l e = sym (bit_mask_of n k (λ i. bit i m) l) ∙ ap (bit k) (mask_bits n m ∙ e) ∙ bit_above k 0 (pow_pos k)

-- ---- the members of a mask of 32 places

-- all lie from lo to below n
pub within_is : (lo n m : ℕ) → lo ≤ 32 → m < 2 ^ 32 → within lo n (members m) ≡ eqb (m % 2 ^ lo) 0 && ltb m (2 ^ n)
within_is lo n m z h = same_truth (within lo n (members m)) (eqb (m % 2 ^ lo) 0 && ltb m (2 ^ n)) there back
  where
    none : (i : ℕ) → (bit i m ≡ true → ⊥) → bit i m ≡ false
    none i f = cases (bit i m) (λ e. absurd (f e)) (λ e. e)

    there : within lo n (members m) ≡ true → eqb (m % 2 ^ lo) 0 && ltb m (2 ^ n) ≡ true
    there e =
        let w = within_all lo n (members m) e in
        let i : (i : ℕ) → i < 32 → bit i m ≡ true → (lo ≤ i) × (i < n) = λ i l b. w i ((members_is i m).1 (b, l)) in
        let a : m % 2 ^ lo ≡ 0 = sym (mask_bits lo m) ∙ mask_none lo (λ j. bit j m) (λ j l. none j (λ b. omega (arith, i j (omega arith) b))) in
        let q : mask_of 32 (λ j. bit j m) ≡ m = mask_bits 32 m ∙ mod-eq_of_lt h in
        let b : m < 2 ^ n = rw q at (mask_under 32 n (λ j. bit j m) (λ j l u. none j (λ b. omega (arith, i j u b)))) in
        rw (eq-eqb (m % 2 ^ lo) 0 a, lt-ltb m (2 ^ n) b)

    back : eqb (m % 2 ^ lo) 0 && ltb m (2 ^ n) ≡ true → within lo n (members m) ≡ true
    back e =
        let a = eqb-true (m % 2 ^ lo) 0 (and_left (eqb (m % 2 ^ lo) 0) (ltb m (2 ^ n)) e) in
        let b = ltb-true m (2 ^ n) (and_right (eqb (m % 2 ^ lo) 0) (ltb m (2 ^ n)) e) in
        all_within lo n (members m) (λ k d.
        let i = ((members_is k m).0 d).0 in (
          by_order k lo (λ l. let z = bit_low lo k m l a in no (cc)) (λ l. l),
          by_order k n (λ l. l) (λ l. let z = bit_above k m (lt_of_lt_of_le b (pow_mono l)) in no (cc)),
        ))

-- there is one
ones_zero : ones 0 ≡ 0
unfolding ones ones_in
ones_zero = refl

length_from : (d k m : ℕ) → m < 2 ^ (k + d) → length (members_from d k m) ≡ ones (m / 2 ^ k)
unfolding members_from bit
length_from zero k m h =
    let l : m < 2 ^ k = rw add-zero at h in
    rw (div-eq_of_lt l, ones_zero)
length_from (suc d) k m h =
    let s : suc k + d ≡ k + suc d = omega arith in
    let ih = length_from d (suc k) m (rw s h) in
    let q : m / 2 ^ k / 2 ≡ m / 2 ^ suc k = shr-shr m k 1 ∙ ap (λ (x : ℕ). m / 2 ^ x) (omega arith) in
    rw (ones_step (m / 2 ^ k), q, ← ih) (go (m / 2 ^ k % 2) (omega arith))
  where
    go : (x : ℕ) → x < 2 → length (also (eqb x 1) k (members_from d (suc k) m)) ≡ x + length (members_from d (suc k) m)
    go zero l = omega arith
    go (suc zero) l = omega arith
    go (suc (suc x)) l = absurd (omega arith)

pub one_is : (m : ℕ) → m < 2 ^ 32 → is_one (members m) ≡ eqb (ones m) 1
one_is m h = go (members m) ∙ ap (λ (x : ℕ). eqb x 1) (length_from 32 0 m h ∙ ap ones (div-one m))
  where
    go : (xs : List ℕ) → is_one xs ≡ eqb (length xs) 1
    go [] = refl
    go (x ∷ []) = refl
    go (x ∷ y ∷ xs) = sym (ne_eqb (suc (suc (length xs))) 1 (λ q. omega arith))
