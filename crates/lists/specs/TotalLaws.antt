-- The set of numbers that ascend is the sum of their bits.
use Rattle.std.specs.Prelude.{ℕ, zero, suc, ◌+◌, ◌^◌, ◌≤◌, ◌<◌, ◌≡◌, refl, Bool, true, false, ◌&&◌, List, [], ◌∷◌, ltb, leb, eqb}
use Rattle.std.proofs.Common.{sym, ◌∙◌, arith, ltb-true, eqb-true, ne_eqb}
use Rattle.std.proofs.lemmas.Bool.{eqb-false}
use Rattle.table.specs.Cases.{cases}
use Rattle.table.specs.Mask.{pick, mask_of}
use Rattle.text.specs.Number.{every}
use Rattle.text.proofs.NumberLaws.{and_left, and_right}
use Rattle.text.specs.Value.{ascends, within}
use Rattle.text.specs.Format.{elem, set_of}

unfoldable pub total : List ℕ → ℕ
total [] = 0
total (x ∷ xs) = 2 ^ x + total xs

pub total_first : (x : ℕ) (xs : List ℕ) → total (x ∷ xs) ≡ 2 ^ x + total xs
unfolding total
total_first x xs = refl

pub mask_none : (n : ℕ) → mask_of n (λ i. false) ≡ 0
unfolding mask_of
mask_none zero = refl
mask_none (suc n) = rw (mask_none n)

mask_same : (n : ℕ) (f g : ℕ → Bool) → ((i : ℕ) → i < n → g i ≡ f i) → mask_of n g ≡ mask_of n f
unfolding mask_of
mask_same zero f g h = refl
mask_same (suc n) f g h = rw (h n (omega arith), mask_same n f g (λ i k. h i (omega arith)))

-- one number more
mask_more : (n x : ℕ) (f g : ℕ → Bool) → x < n → f x ≡ false → ((i : ℕ) → g i ≡ pick (eqb i x) true (f i)) → mask_of n g ≡ 2 ^ x + mask_of n f
unfolding mask_of
mask_more zero x f g l h k = absurd (omega arith)
mask_more (suc n) x f g l h k =
    cases (eqb n x)
    (λ e.
    let q : n ≡ x = eqb-true n x e in
    let a : g n ≡ true = k n ∙ rw e in
    let b : f n ≡ false = rw q h in
    let m : mask_of n g ≡ mask_of n f = mask_same n f g (λ i j. k i ∙ rw (ne_eqb i x (λ z. omega arith))) in
    rw (a, b, m, q) (omega arith))
    (λ e.
    let a : g n ≡ f n = k n ∙ rw e in
    let j : x < n = omega (arith, eqb-false n x e) in
    let m : mask_of n g ≡ 2 ^ x + mask_of n f = mask_more n x f g j h k in
    rw (a, m) (omega arith))

-- what is below the first of numbers that ascend is none of them
elem_below : (z x : ℕ) (xs : List ℕ) → z < x → ascends (x ∷ xs) ≡ true → elem z (x ∷ xs) ≡ false
unfolding elem ascends
elem_below z x [] l a = rw (ne_eqb z x (λ e. omega arith))
elem_below z x (y ∷ ys) l a =
    let k : x < y = ltb-true x y (and_left (ltb x y) (ascends (y ∷ ys)) a) in
    rw (ne_eqb z x (λ e. omega arith)) (elem_below z y ys (omega arith) (and_right (ltb x y) (ascends (y ∷ ys)) a))

elem_first : (x : ℕ) (xs : List ℕ) → ascends (x ∷ xs) ≡ true → elem x xs ≡ false
unfolding elem ascends
elem_first x [] a = refl
elem_first x (y ∷ ys) a =
    let k : x < y = ltb-true x y (and_left (ltb x y) (ascends (y ∷ ys)) a) in
    elem_below x y ys k (and_right (ltb x y) (ascends (y ∷ ys)) a)

ascends_rest : (x : ℕ) (xs : List ℕ) → ascends (x ∷ xs) ≡ true → ascends xs ≡ true
unfolding ascends
ascends_rest x [] a = refl
ascends_rest x (y ∷ ys) a = and_right (ltb x y) (ascends (y ∷ ys)) a

pub within_first : (lo n x : ℕ) (xs : List ℕ) → within lo n (x ∷ xs) ≡ (leb lo x && ltb x n) && within lo n xs
unfolding every
within_first lo n x xs = refl

pub total_is : (lo n : ℕ) (xs : List ℕ) → n ≤ 32 → ascends xs ≡ true → within lo n xs ≡ true → set_of xs ≡ total xs
unfolding total elem
total_is lo n [] u a w = mask_none 32
total_is lo n (x ∷ xs) u a w =
    let v : (leb lo x && ltb x n) && within lo n xs ≡ true = sym (within_first lo n x xs) ∙ w in
    let k : x < n = ltb-true x n (and_right (leb lo x) (ltb x n) (and_left (leb lo x && ltb x n) (within lo n xs) v)) in
    mask_more 32 x (λ i. elem i xs) (λ i. elem i (x ∷ xs)) (omega arith) (elem_first x xs a) (λ i. refl)
    ∙ rw (total_is lo n xs u (ascends_rest x xs a) (and_right (leb lo x && ltb x n) (within lo n xs) v))
