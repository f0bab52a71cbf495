-- What is in the masks that code computes with `|`, `&`, `^` and shifts.
use Rattle.std.specs.Prelude.{ℕ, zero, suc, ◌+◌, ◌-◌, ◌*◌, ◌/◌, ◌%◌, ◌^◌, ◌<◌, ◌≤◌, ◌≡◌, refl, Bool, true, false, not, ◌||◌, ◌&&◌, ◌⊎◌, ◌≢◌, eqb, ltb}
use Rattle.std.proofs.Common.{arith, pow-suc, one-mul, mod-eq_of_lt, lt_of_lt_of_le, lt_of_le_of_lt, add-one, sym, ◌∙◌, ap, true≢false, inl, inr, pow_pos, pow_mono, pow-add, shl_exact, eqb-true, eq-eqb, ltb-true, ltb-false}
use Rattle.std.proofs.Math.Nat.{zero-div, div_self, div-eq_of_lt, mul-mod_left}
use Rattle.std.proofs.lemmas.Bool.{false≢true, eqb-false}
use Rattle.std.specs.Int.Bits.{bit_and, bit_or, and_lt, or_add_and, bit_xor, or_shifted_r}
use Rattle.std.proofs.lemmas.Nat.{or_lt, xor_lt, or_shr, or_mod, and_shr, and_mod, and_le_r, xor_shr, xor_mod, and_mask, shl-shr}
use Rattle.std.specs.Int.Count.{count_trailing_zeros, under}
use Rattle.std.proofs.Math.Pow.{pow-lt, ones_lt}
use Rattle.table.specs.Mask.{pick, bit, mask_of}
use Rattle.table.specs.MaskLaws.{mask_of_lt, lt2, bit_half, one_bit, bit_ext}

-- a test as it stands in code
pub bit_of : (k m : ℕ) → m / 2 ^ k % 2 ≡ 1 → bit k m ≡ true
unfolding bit
bit_of k m h = eq-eqb _ _ h

pub bit_is : (k m : ℕ) → bit k m ≡ true → m / 2 ^ k % 2 ≡ 1
unfolding bit
bit_is k m h = eqb-true _ _ h

or2 : (a b : ℕ) → a < 2 → b < 2 → eqb (bit_or a b) 1 ≡ eqb a 1 || eqb b 1
or2 zero zero p q = refl
or2 zero (suc zero) p q = refl
or2 zero (suc (suc b)) p q = absurd (omega arith)
or2 (suc zero) zero p q = refl
or2 (suc zero) (suc zero) p q = refl
or2 (suc zero) (suc (suc b)) p q = absurd (omega arith)
or2 (suc (suc a)) b p q = absurd (omega arith)

and2 : (a b : ℕ) → a < 2 → b < 2 → eqb (bit_and a b) 1 ≡ eqb a 1 && eqb b 1
and2 zero zero p q = refl
and2 zero (suc zero) p q = refl
and2 zero (suc (suc b)) p q = absurd (omega arith)
and2 (suc zero) zero p q = refl
and2 (suc zero) (suc zero) p q = refl
and2 (suc zero) (suc (suc b)) p q = absurd (omega arith)
and2 (suc (suc a)) b p q = absurd (omega arith)

pub bit_or_lem : (k a b : ℕ) → bit k (bit_or a b) ≡ bit k a || bit k b
unfolding bit
bit_or_lem k a b = ap (λ (x : ℕ). eqb (x % 2) 1) (or_shr a b k) ∙ ap (λ (x : ℕ). eqb x 1) (or_mod (a / 2 ^ k) (b / 2 ^ k) 1) ∙ or2 (a / 2 ^ k % 2) (b / 2 ^ k % 2) (lt2 _) (lt2 _)

pub bit_and_lem : (k a b : ℕ) → bit k (bit_and a b) ≡ bit k a && bit k b
unfolding bit
bit_and_lem k a b = ap (λ (x : ℕ). eqb (x % 2) 1) (and_shr a b k) ∙ ap (λ (x : ℕ). eqb x 1) (and_mod (a / 2 ^ k) (b / 2 ^ k) 1) ∙ and2 (a / 2 ^ k % 2) (b / 2 ^ k % 2) (lt2 _) (lt2 _)

pub bit_zero : (k : ℕ) → bit k 0 ≡ false
unfolding bit
bit_zero k = ap (λ (x : ℕ). eqb (x % 2) 1) (zero-div (2 ^ k))

-- the numbers grow with the sets
pub le_or : (a b : ℕ) → a ≤ bit_or a b
le_or a b = omega (arith, or_add_and a b, and_le_r a b)

pub bit_or_l : (k a b : ℕ) → bit k a ≡ true → bit k (bit_or a b) ≡ true
bit_or_l k a b h = rw (bit_or_lem, h)

pub bit_or_r : (k a b : ℕ) → bit k b ≡ true → bit k (bit_or a b) ≡ true
bit_or_r k a b h = rw (bit_or_lem, h, or_true)
  where
    or_true : (x : Bool) → x || true ≡ true
    or_true true = refl
    or_true false = refl

pub bit_or_out : (k a b : ℕ) → bit k (bit_or a b) ≡ true → (bit k a ≡ true) ⊎ (bit k b ≡ true)
bit_or_out k a b h = go (bit k a) (bit k b) (rw bit_or_lem at h)
  where
    go : (x y : Bool) → x || y ≡ true → (x ≡ true) ⊎ (y ≡ true)
    go true y e = inl refl
    go false y e = inr e

pub bit_and_out : (k a b : ℕ) → bit k (bit_and a b) ≡ true → (bit k a ≡ true) × (bit k b ≡ true)
bit_and_out k a b h = go (bit k a) (bit k b) (rw bit_and_lem at h)
  where
    go : (x y : Bool) → x && y ≡ true → (x ≡ true) × (y ≡ true)
    go true y e = (refl, e)
    go false y e = absurd (false≢true e)

pub bit_and_in : (k a b : ℕ) → bit k a ≡ true → bit k b ≡ true → bit k (bit_and a b) ≡ true
bit_and_in k a b h j = rw (bit_and_lem, h, j)

-- a mask with one element
pub bit_one : (k : ℕ) → bit k (2 ^ k) ≡ true
bit_one k = bit_of k (2 ^ k) (ap (λ (x : ℕ). x % 2) (div_self (pow_pos k)))

pub bit_one_out : (k j : ℕ) → bit k (2 ^ j) ≡ true → k ≡ j
bit_one_out k j h = go (ltb k j) refl (ltb j k) refl
  where
    even : k < j → 2 ^ j / 2 ^ k % 2 ≡ 0
    even l =
        let d = j - suc k in
        let e : 2 ^ j ≡ 2 ^ suc d * 2 ^ k = ap (λ (x : ℕ). 2 ^ x) (omega arith) ∙ pow-add 2 (suc d) k in
        ap (λ (x : ℕ). x / 2 ^ k % 2) e ∙ ap (λ (x : ℕ). x % 2) (shl-shr (2 ^ suc d) k) ∙ ap (λ (x : ℕ). x % 2) (pow-suc 2 d) ∙ mul-mod_left (2 ^ d) 2

    none : j < k → 2 ^ j / 2 ^ k % 2 ≡ 0
    none l = ap (λ (x : ℕ). x % 2) (div-eq_of_lt (pow-lt l))

    go : (a : Bool) → ltb k j ≡ a → (b : Bool) → ltb j k ≡ b → k ≡ j
    go true p b q = absurd (omega (arith, even (ltb-true k j p), bit_is k (2 ^ j) h))
    go false p true q = absurd (omega (arith, none (ltb-true j k q), bit_is k (2 ^ j) h))
    go false p false q = omega (arith, ltb-false k j p, ltb-false j k q)

-- 1 << k as code computes it
pub one_shl : (w k : ℕ) → k < w → 1 * 2 ^ k % 2 ^ w ≡ 2 ^ k
one_shl w k h = shl_exact 1 k w (omega arith) (omega arith) ∙ one-mul (2 ^ k)

-- the elements of m that are not in n
abbrev xor_b : Bool → Bool → Bool
xor_b true y = not y
xor_b false y = y

xor2 : (a b : ℕ) → a < 2 → b < 2 → eqb (bit_xor a b) 1 ≡ xor_b (eqb a 1) (eqb b 1)
xor2 zero zero p q = refl
xor2 zero (suc zero) p q = refl
xor2 zero (suc (suc b)) p q = absurd (omega arith)
xor2 (suc zero) zero p q = refl
xor2 (suc zero) (suc zero) p q = refl
xor2 (suc zero) (suc (suc b)) p q = absurd (omega arith)
xor2 (suc (suc a)) b p q = absurd (omega arith)

bit_xor_lem : (k a b : ℕ) → bit k (bit_xor a b) ≡ xor_b (bit k a) (bit k b)
unfolding bit
bit_xor_lem k a b = ap (λ (x : ℕ). eqb (x % 2) 1) (xor_shr a b k) ∙ ap (λ (x : ℕ). eqb x 1) (xor_mod (a / 2 ^ k) (b / 2 ^ k) 1) ∙ xor2 (a / 2 ^ k % 2) (b / 2 ^ k % 2) (lt2 _) (lt2 _)

pub bit_minus : (k m n : ℕ) → bit k (bit_xor m (bit_and m n)) ≡ bit k m && not (bit k n)
bit_minus k m n = rw (bit_xor_lem, bit_and_lem) (go (bit k m) (bit k n))
  where
    go : (x y : Bool) → xor_b x (x && y) ≡ x && not y
    go true y = refl
    go false y = refl

-- the numbers below k
pub bit_low : (i k : ℕ) → i < k → bit i (2 ^ k - 1) ≡ true
bit_low i k h = (bit_and_out i (2 ^ i) (2 ^ k - 1) (rw (and_mask, mod-eq_of_lt (pow-lt h)) (bit_one i))).1

pub bit_low_out : (i k : ℕ) → bit i (2 ^ k - 1) ≡ true → i < k
bit_low_out i k h = go (ltb i k) refl
  where
    go : (b : Bool) → ltb i k ≡ b → i < k
    go true e = ltb-true i k e
    go false e =
        let z : (2 ^ k - 1) / 2 ^ i ≡ 0 = div-eq_of_lt (lt_of_lt_of_le (ones_lt k) (pow_mono (ltb-false i k e))) in
        absurd (omega (arith, bit_is i (2 ^ k - 1) h, ap (λ (x : ℕ). x % 2) z))

-- the least element of a mask
pub low_is : (d m k : ℕ) → k < d → bit k m ≡ true → ((j : ℕ) → j < k → bit j m ≡ false) → count_trailing_zeros d m ≡ k
unfolding count_trailing_zeros
low_is zero m k h b f = absurd (omega arith)
low_is (suc d) m zero h b f = let e : m % 2 ≡ 1 = eqb-true (m % 2) 1 (sym (one_bit m) ∙ b) in rw e
low_is (suc d) m (suc k) h b f =
    let e : m % 2 ≡ 0 = omega (arith, lt2 m, eqb-false (m % 2) 1 (sym (one_bit m) ∙ f 0 (omega arith))) in
    let r : count_trailing_zeros d (m / 2) ≡ k = low_is d (m / 2) k (omega arith) (bit_half k m ∙ b) (λ j l. bit_half j m ∙ f (suc j) (omega arith)) in
    rw (e, r)

odd_bit : (m r : ℕ) → m % 2 ≡ suc r → bit 0 m ≡ true
odd_bit m r e = bit_of 0 m (omega arith)

pub least : (d m : ℕ) → m < 2 ^ d → m ≢ 0 → (count_trailing_zeros d m < d) × (bit (count_trailing_zeros d m) m ≡ true)
unfolding count_trailing_zeros
least zero m h z = absurd (z (omega arith))
least (suc d) m h z = go (m % 2) refl (λ (e : m % 2 ≡ 0). least d (m / 2) (let k : m < 2 ^ d * 2 = rw pow-suc at h in omega arith) (λ y. z (omega arith)))
  where
    go : (r : ℕ) → m % 2 ≡ r → (m % 2 ≡ 0 → (count_trailing_zeros d (m / 2) < d) × (bit (count_trailing_zeros d (m / 2)) (m / 2) ≡ true)) → (under r (count_trailing_zeros d (m / 2)) < suc d) × (bit (under r (count_trailing_zeros d (m / 2))) m ≡ true)
    go zero e ih = let i = ih e in (omega (arith, i.0), sym (bit_half (count_trailing_zeros d (m / 2)) m) ∙ i.1)
    go (suc r) e ih = (omega arith, odd_bit m r e)

-- m without n
abbrev pub without : ℕ → ℕ → ℕ
without m n = bit_xor m (bit_and m (2 ^ n))

module _ (m n : ℕ) (hm : m < 2 ^ 32) (hn : n < 32) (h : bit n m ≡ true) where
  without_small : without m n < 2 ^ 32
  without_small = xor_lt 32 m _ hm (and_lt 32 m _ hm (pow-lt {i = n} {j = 32} hn))

  without_or : bit_or (without m n) (2 ^ n) ≡ m
  without_or = bit_ext 32 _ _ (or_lt 32 _ _ without_small (pow-lt {i = n} {j = 32} hn)) hm (λ k l. rw (bit_or_lem, bit_minus) (go k (bit k m) (bit k (2 ^ n)) refl refl))
    where
      go : (k : ℕ) (x y : Bool) → bit k m ≡ x → bit k (2 ^ n) ≡ y → (x && not y) || y ≡ x
      go k true true e f = refl
      go k true false e f = refl
      go k false true e f = absurd (false≢true (sym e ∙ (let z : k ≡ n = bit_one_out k n f in rw z h)))
      go k false false e f = refl

  without_differs : without m n ≢ m
  without_differs e = let z : bit n (without m n) ≡ false = rw (bit_minus, h, bit_one n) refl in false≢true (sym z ∙ ap (bit n) e ∙ h)

  pub without_less : without m n < m
  without_less = omega (arith, le_or (without m n) (2 ^ n), without_or, without_differs)

-- what is not in m without n
pub without_out : (m n k : ℕ) → bit k (without m n) ≡ false → (bit k m ≡ false) ⊎ (k ≡ n)
without_out m n k h = go (bit k m) (bit k (2 ^ n)) refl refl (rw bit_minus at h)
  where
    go : (x y : Bool) → bit k m ≡ x → bit k (2 ^ n) ≡ y → x && not y ≡ false → (bit k m ≡ false) ⊎ (k ≡ n)
    go true true u v r = inr (bit_one_out k n v)
    go true false u v r = absurd (true≢false r)
    go false y u v r = inl u

-- a mask that is added twice
lt_pow : (n : ℕ) → n < 2 ^ n
lt_pow zero = omega arith
lt_pow (suc n) = rw pow-suc (omega (arith, lt_pow n))

pub or_twice : (a b : ℕ) → bit_or (bit_or a b) b ≡ bit_or a b
or_twice a b = bit_ext n (bit_or (bit_or a b) b) (bit_or a b) (lt_pow n) (lt_of_le_of_lt (le_or (bit_or a b) b) (lt_pow n)) (λ k l. rw (bit_or_lem, bit_or_lem) (go (bit k a) (bit k b)))
  where
    n : ℕ
    n = bit_or (bit_or a b) b

    go : (x y : Bool) → (x || y) || y ≡ x || y
    go true y = refl
    go false true = refl
    go false false = refl

-- the mask of a test, by one more number
pub mask_next : (f : ℕ → Bool) (n m : ℕ) (yes' : Bool) {r : ℕ} → m ≡ mask_of n f → yes' ≡ f n → r ≡ pick yes' (bit_or m (1 * 2 ^ n)) m → r ≡ mask_of (n + 1) f
unfolding mask_of
mask_next f n m yes' {r} e g h = rw (add-one, mask_of, ← g) (go yes' h)
  where
    go : (b : Bool) → r ≡ pick b (bit_or m (1 * 2 ^ n)) m → r ≡ mask_of n f + pick b (2 ^ n) 0
    go true h = h ∙ or_shifted_r 1 n m (rw e (mask_of_lt n f)) ∙ rw e (omega arith)
    go false h = h ∙ rw e (omega arith)
