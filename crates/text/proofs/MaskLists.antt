-- Masks and ascending lists say the same: the members of a list's set are the list, and the set of a mask's members is the mask.
use Rattle.std.specs.Prelude.{ℕ, zero, suc, ◌+◌, ◌/◌, ◌%◌, ◌^◌, ◌≤◌, ◌<◌, ◌≡◌, refl, List, [], ◌∷◌, Bool, true, false, ◌&&◌, ltb, leb, eqb}
use Rattle.std.proofs.Common.{◌∙◌, arith, mod-eq_of_lt, leb-true, ltb-true, lt-ltb, eqb-true, eq-eqb, ne_eqb}
use Rattle.std.proofs.lemmas.Nat.{mod-pow-add}
use Rattle.std.proofs.lemmas.Bool.{eqb-false}
use Rattle.table.specs.Cases.{cases}
use Rattle.table.specs.Mask.{bit, also, members_from, members, mask_of}
use Rattle.table.specs.MaskLaws.{bit_mask_of}
use Rattle.text.specs.Number.{every}
use Rattle.text.proofs.NumberLaws.{by_order, and_left, and_right}
use Rattle.text.specs.Value.{ascends, within}
use Rattle.text.specs.Format.{elem, set_of}

-- numbers that ascend strictly, from k on and below n
abbrev Rising : ℕ → ℕ → List ℕ → Type 0
Rising n k [] = Unit {0}
Rising n k (x ∷ xs) = (k ≤ x) × (x < n) × Rising n (suc x) xs

rising_down : (n k l : ℕ) (xs : List ℕ) → l ≤ k → Rising n k xs → Rising n l xs
rising_down n k l [] h r = tt
rising_down n k l (x ∷ xs) h r = (omega arith, r.1, r.2)

rising : (lo n : ℕ) (xs : List ℕ) → ascends xs ≡ true → within lo n xs ≡ true → Rising n lo xs
unfolding ascends every
rising lo n [] a w = tt
rising lo n (x ∷ xs) a w =
    let h = and_left (leb lo x && ltb x n) (within lo n xs) w in (
      leb-true lo x (and_left (leb lo x) (ltb x n) h),
      ltb-true x n (and_right (leb lo x) (ltb x n) h),
      rest xs a (λ b. rising lo n xs b (and_right (leb lo x && ltb x n) (within lo n xs) w)),
    )
  where
    rest : (ys : List ℕ) → ascends (x ∷ ys) ≡ true → (ascends ys ≡ true → Rising n lo ys) → Rising n (suc x) ys
    rest [] a f = tt
    rest (y ∷ ys) a f = let r = f (and_right (ltb x y) (ascends (y ∷ ys)) a) in (ltb-true x y (and_left (ltb x y) (ascends (y ∷ ys)) a), r.1, r.2)

rising_ascends : (n k : ℕ) (xs : List ℕ) → Rising n k xs → ascends xs ≡ true
unfolding ascends
rising_ascends n k [] r = refl
rising_ascends n k (x ∷ []) r = refl
rising_ascends n k (x ∷ y ∷ xs) r = rw (lt-ltb x y r.2.0, rising_ascends n (suc x) (y ∷ xs) r.2)

-- a list that begins later does not hold k
elem_later : (n k l : ℕ) (xs : List ℕ) → k < l → Rising n l xs → elem k xs ≡ false
unfolding elem
elem_later n k l [] h r = refl
elem_later n k l (x ∷ xs) h r = rw (ne_eqb k x (λ q. omega arith), elem_later n k (suc x) xs (omega arith) r.2)

-- ---- the members of a mask

-- they ascend,
from_rising : (e n k m : ℕ) → k + n ≤ e → Rising e k (members_from n k m)
unfolding members_from
from_rising e zero k m h = tt
from_rising e (suc n) k m h = go (bit k m) (from_rising e n (suc k) m (omega arith))
  where
    go : (b : Bool) → Rising e (suc k) (members_from n (suc k) m) → Rising e k (also b k (members_from n (suc k) m))
    go true r = (omega arith, omega arith, r)
    go false r = rising_down e (suc k) k (members_from n (suc k) m) (omega arith) r

pub members_ascends : (m : ℕ) → ascends (members m) ≡ true
members_ascends m = rising_ascends 32 0 (members m) (from_rising 32 32 0 m (omega arith))

-- hold the numbers that are in the mask,
elem_from : (n k m i : ℕ) → k ≤ i → i < k + n → elem i (members_from n k m) ≡ bit i m
unfolding members_from elem
elem_from zero k m i l u = absurd (omega arith)
elem_from (suc n) k m i l u = cases (eqb i k)
    (λ q. let p : i ≡ k = eqb-true i k q in rw p (here (bit k m)))
    (λ q. other q (bit k m) ∙ elem_from n (suc k) m i (omega (arith, eqb-false i k q)) (omega arith))
  where
    other : eqb i k ≡ false → (b : Bool) → elem i (also b k (members_from n (suc k) m)) ≡ elem i (members_from n (suc k) m)
    other q true = rw q
    other q false = refl

    here : (b : Bool) → elem k (also b k (members_from n (suc k) m)) ≡ b
    here true = rw (eq-eqb k k refl)
    here false = elem_later (suc k + n) k (suc k) (members_from n (suc k) m) (omega arith) (from_rising (suc k + n) n (suc k) m (omega arith))

-- and are the only list that ascends and holds those
from_list : (e n k m : ℕ) → e ≡ k + n → (xs : List ℕ) → Rising e k xs → ((j : ℕ) → k ≤ j → j < e → bit j m ≡ elem j xs) → members_from n k m ≡ xs
unfolding members_from elem
from_list e zero k m q [] r f = refl
from_list e zero k m q (x ∷ xs) r f = absurd (omega arith)
from_list e (suc n) k m q [] r f = rw (f k (omega arith) (omega arith)) (from_list e n (suc k) m (omega arith) [] tt (λ j l u. f j (omega arith) u))
from_list e (suc n) k m q (x ∷ xs) r f = by_order k x
    (λ h. rw (f k (omega arith) (omega arith), elem_later e k (suc k) (x ∷ xs) (omega arith) (h, r.1, r.2))
    (from_list e n (suc k) m (omega arith) (x ∷ xs) (h, r.1, r.2) (λ j l u. f j (omega arith) u)))
    (λ h.
    let p : k ≡ x = omega arith in
    let b : bit k m ≡ true = f k (omega arith) (omega arith) ∙ rw (eq-eqb k x p) in
    let ih = from_list e n (suc k) m (omega arith) xs (rising_down e (suc x) (suc k) xs (omega arith) r.2) (λ j l u. rw (ne_eqb j x (λ q. omega arith)) at (f j (omega arith) u)) in
    rw (b, ih, p))

-- the members of the set of a list that ascends, of numbers below 32, are the list
pub members_set : (lo : ℕ) (xs : List ℕ) → ascends xs ≡ true → within lo 32 xs ≡ true → members (set_of xs) ≡ xs
members_set lo xs a w = from_list 32 32 0 (set_of xs) refl xs (rising_down 32 lo 0 xs (omega arith) (rising lo 32 xs a w)) (λ j l u. bit_mask_of 32 j (λ i. elem i xs) u)

-- ---- the mask of a mask's members

pub mask_same : (n : ℕ) (f g : ℕ → Bool) → ((i : ℕ) → i < n → f i ≡ g i) → mask_of n f ≡ mask_of n g
unfolding mask_of
mask_same zero f g h = refl
mask_same (suc n) f g h = rw (mask_same n f g (λ i l. h i (omega arith)), h n (omega arith))

-- the first n bits of m make m, up to multiples of 2^n
pub mask_bits : (n m : ℕ) → mask_of n (λ i. bit i m) ≡ m % 2 ^ n
unfolding mask_of bit
mask_bits zero m = omega arith
mask_bits (suc n) m =
    let q : suc n ≡ 1 + n = omega arith in
    rw (mask_bits n m, q, mod-pow-add m 1 n) (cases (eqb (m / 2 ^ n % 2) 1)
    (λ e. let d = eqb-true (m / 2 ^ n % 2) 1 e in rw (e, d) (omega arith))
    (λ e. let d : m / 2 ^ n % 2 ≡ 0 = omega (arith, eqb-false (m / 2 ^ n % 2) 1 e) in rw (e, d) (omega arith)))

-- the set of the members of a mask of 32 places is the mask
pub set_members : (m : ℕ) → m < 2 ^ 32 → set_of (members m) ≡ m
set_members m h = mask_same 32 (λ i. elem i (members m)) (λ i. bit i m) (λ i l. elem_from 32 0 m i (omega arith) l) ∙ mask_bits 32 m ∙ mod-eq_of_lt h

-- of any mask they are its 32 places: the same bits there, the same members
pub bit_again : (m i : ℕ) → i < 32 → bit i (set_of (members m)) ≡ bit i m
bit_again m i l = bit_mask_of 32 i (λ i. elem i (members m)) l ∙ elem_from 32 0 m i (omega arith) l

pub members_again : (m : ℕ) → members (set_of (members m)) ≡ members m
members_again m = from_list 32 32 0 (set_of (members m)) refl (members m) (from_rising 32 32 0 m (omega arith)) (λ j l u. bit_mask_of 32 j (λ i. elem i (members m)) u)
