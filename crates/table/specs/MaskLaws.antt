-- What is in a mask: `mask_of` holds what passes its test, and `members` lists what is held. So masks are sets: two with the same members are equal.
use Rattle.std.specs.Prelude.{ℕ, zero, suc, ◌+◌, ◌-◌, ◌*◌, ◌/◌, ◌%◌, ◌^◌, ◌<◌, ◌≤◌, ◌≡◌, refl, Bool, true, false, ◌↔◌, length, eqb}
use Rattle.std.proofs.Common.{arith, mod-lt, zero-lt-suc, div-one, add-zero, pow-suc, lt_of_lt_of_le, sym, ◌∙◌, ap, pow_pos, pow_mono, pow-add, shr-shr, eqb-true}
use Rattle.std.proofs.Math.Nat.{div-eq_of_lt, add-div_right, add-mul-div_right, add-mul-mod_self_right}
use Rattle.std.proofs.lemmas.Bool.{false≢true, eqb-false}
use mathlib.Core.List.Memᴰ
use mathlib.Core.List.{Memᴰ}
use Rattle.table.specs.Mask.{pick, bit, also, members_from, members, mask_of}

-- a number below 2^k has no bit k
pub bit_above : (k m : ℕ) → m < 2 ^ k → bit k m ≡ false
unfolding bit
bit_above k m l = ap (λ (x : ℕ). eqb (x % 2) 1) (div-eq_of_lt l)

-- adding 2^n gives a number below 2^n the bit n, and changes no bit below n
bit_added : (n m : ℕ) → m < 2 ^ n → bit n (m + 2 ^ n) ≡ true
unfolding bit
bit_added n m l = ap (λ (x : ℕ). eqb (x % 2) 1) (add-div_right m (pow_pos n) ∙ ap (λ (x : ℕ). x + 1) (div-eq_of_lt l))

bit_below : (k n m : ℕ) → k < n → bit k (m + 2 ^ n) ≡ bit k m
unfolding bit
bit_below k n m l =
    let d = n - suc k in
    let e : 2 ^ n ≡ 2 ^ suc d * 2 ^ k = ap (λ (x : ℕ). 2 ^ x) (omega arith) ∙ pow-add 2 (suc d) k in
    let h : (m + 2 ^ n) / 2 ^ k ≡ m / 2 ^ k + 2 ^ d * 2 = ap (λ (x : ℕ). (m + x) / 2 ^ k) e ∙ add-mul-div_right m (2 ^ suc d) (pow_pos k) ∙ ap (λ (x : ℕ). m / 2 ^ k + x) (pow-suc 2 d) in
    ap (λ (x : ℕ). eqb (x % 2) 1) h ∙ ap (λ (x : ℕ). eqb x 1) (add-mul-mod_self_right (m / 2 ^ k) (2 ^ d) 2)

-- ---- the mask of a test

-- it has its n places and no more
pub mask_of_lt : (n : ℕ) (f : ℕ → Bool) → mask_of n f < 2 ^ n
unfolding mask_of
mask_of_lt zero f = omega arith
mask_of_lt (suc n) f = go (f n) (mask_of_lt n f)
  where
    go : (b : Bool) → mask_of n f < 2 ^ n → mask_of n f + pick b (2 ^ n) 0 < 2 ^ suc n
    go true l = omega arith
    go false l = omega (arith, pow_pos n)

-- below n it holds what passes,
pub bit_mask_of : (n k : ℕ) (f : ℕ → Bool) → k < n → bit k (mask_of n f) ≡ f k
unfolding mask_of
bit_mask_of zero k f l = absurd (omega arith)
bit_mask_of (suc n) k f l = go (eqb k n) refl (λ j. bit_mask_of n k f j)
  where
    last : (b : Bool) → bit n (mask_of n f + pick b (2 ^ n) 0) ≡ b
    last true = bit_added n (mask_of n f) (mask_of_lt n f)
    last false = rw add-zero (bit_above n (mask_of n f) (mask_of_lt n f))

    other : (b : Bool) → k < n → bit k (mask_of n f + pick b (2 ^ n) 0) ≡ bit k (mask_of n f)
    other true j = bit_below k n (mask_of n f) j
    other false j = rw add-zero

    go : (b : Bool) → eqb k n ≡ b → (k < n → bit k (mask_of n f) ≡ f k) → bit k (mask_of n f + pick (f n) (2 ^ n) 0) ≡ f k
    go true e h = rw (eqb-true k n e) (last (f n))
    go false e h = let j : k < n = omega (arith, eqb-false k n e) in other (f n) j ∙ h j

-- from n on nothing
pub bit_mask_of_above : (n k : ℕ) (f : ℕ → Bool) → n ≤ k → bit k (mask_of n f) ≡ false
bit_mask_of_above n k f l = bit_above k (mask_of n f) (lt_of_lt_of_le (mask_of_lt n f) (pow_mono l))

-- ---- the list of the members

-- of the n numbers from j on, those in m are listed, and no others
from_in : (n j k m : ℕ) → j ≤ k → k < j + n → bit k m ≡ true → Memᴰ k (members_from n j m)
unfolding members_from
from_in zero j k m l u h = absurd (omega arith)
from_in (suc n) j k m l u h = go (eqb k j) refl (λ l. from_in n (suc j) k m l (omega arith) h)
  where
    later : (b : Bool) → Memᴰ k (members_from n (suc j) m) → Memᴰ k (also b j (members_from n (suc j) m))
    later true d = Memᴰ.tail d
    later false d = d

    go : (b : Bool) → eqb k j ≡ b → (suc j ≤ k → Memᴰ k (members_from n (suc j) m)) → Memᴰ k (also (bit j m) j (members_from n (suc j) m))
    go true e f = let z = eqb-true k j e in rw (← z, h) (Memᴰ.head refl)
    go false e f = later (bit j m) (f (omega (arith, eqb-false k j e)))

from_out : (n j k m : ℕ) → Memᴰ k (members_from n j m) → (bit k m ≡ true) × (k < j + n)
unfolding members_from
from_out zero j k m d = absurd (Memᴰ.not-nil d)
from_out (suc n) j k m d = go (bit j m) refl d (λ d. from_out n (suc j) k m d)
  where
    up : (bit k m ≡ true) × (k < suc j + n) → (bit k m ≡ true) × (k < j + suc n)
    up r = (r.0, omega (arith, r.1))

    go : (b : Bool) → bit j m ≡ b → Memᴰ k (also b j (members_from n (suc j) m)) → (Memᴰ k (members_from n (suc j) m) → (bit k m ≡ true) × (k < suc j + n)) → (bit k m ≡ true) × (k < j + suc n)
    go true e (Memᴰ.head i) f = (rw i e, omega arith)
    go true e (Memᴰ.tail d) f = up (f d)
    go false e d f = up (f d)

-- a number is listed if and only if it is in the mask and has one of the 32 places
pub members_is : (k m : ℕ) → Memᴰ k (members m) ↔ ((bit k m ≡ true) × (k < 32))
members_is k m = (from_out 32 0 k m, λ h. from_in 32 0 k m (omega arith) h.1 h.0)

-- so there are at most 32
from_few : (n k m : ℕ) → length (members_from n k m) ≤ n
unfolding members_from
from_few zero k m = omega arith
from_few (suc n) k m = go (bit k m) (from_few n (suc k) m)
  where
    go : (b : Bool) → length (members_from n (suc k) m) ≤ n → length (also b k (members_from n (suc k) m)) ≤ suc n
    go true h = omega arith
    go false h = omega arith

pub members_few : (m : ℕ) → length (members m) ≤ 32
members_few m = from_few 32 0 m

pub lt2 : (n : ℕ) → n % 2 < 2
lt2 n = mod-lt n (zero-lt-suc 1)

-- two masks with the same elements are equal
pub bit_half : (k m : ℕ) → bit k (m / 2) ≡ bit (suc k) m
unfolding bit
bit_half k m = ap (λ (x : ℕ). eqb (x % 2) 1) (shr-shr m 1 k ∙ ap (λ (x : ℕ). m / 2 ^ x) (omega arith))

pub one_bit : (x : ℕ) → bit 0 x ≡ eqb (x % 2) 1
unfolding bit
one_bit x = ap (λ (y : ℕ). eqb (y % 2) 1) (div-one x)

pub bit_ext : (n a b : ℕ) → a < 2 ^ n → b < 2 ^ n → ((k : ℕ) → k < n → bit k a ≡ bit k b) → a ≡ b
bit_ext zero a b p q h = omega arith
bit_ext (suc n) a b p q h =
    let e : a / 2 ≡ b / 2 = bit_ext n (a / 2) (b / 2) (half p) (half q) (λ k l. bit_half k a ∙ h (suc k) (omega arith) ∙ sym (bit_half k b)) in
    let f : a % 2 ≡ b % 2 = low in
    omega arith
  where
    half : {x : ℕ} → x < 2 ^ suc n → x / 2 < 2 ^ n
    half {x} l = let l2 : x < 2 ^ n * 2 = rw pow-suc at l in omega arith

    low2 : (x y : ℕ) → x < 2 → y < 2 → eqb x 1 ≡ eqb y 1 → x ≡ y
    low2 zero zero r s e = refl
    low2 zero (suc zero) r s e = absurd (false≢true e)
    low2 zero (suc (suc y)) r s e = absurd (omega arith)
    low2 (suc zero) zero r s e = absurd (false≢true (sym e))
    low2 (suc zero) (suc zero) r s e = refl
    low2 (suc zero) (suc (suc y)) r s e = absurd (omega arith)
    low2 (suc (suc x)) y r s e = absurd (omega arith)

    low : a % 2 ≡ b % 2
    low = low2 (a % 2) (b % 2) (lt2 a) (lt2 b) (sym (one_bit a) ∙ h 0 (omega arith) ∙ one_bit b)
