-- Sets of small numbers, held as a mask: bit k of m says whether k is in the set.
use Rattle.std.specs.Prelude.{ℕ, zero, suc, ◌+◌, ◌/◌, ◌%◌, ◌^◌, Bool, true, false, List, [], ◌∷◌, eqb}

abbrev pub pick {ℓ} : {A : Type ℓ} → Bool → A → A → A
pick true a b = a
pick false a b = b

-- k is in m
unfoldable pub bit : ℕ → ℕ → Bool
bit k m = eqb (m / 2 ^ k % 2) 1

abbrev pub also : Bool → ℕ → List ℕ → List ℕ
also true k l = k ∷ l
also false k l = l

-- those of the n numbers from k on that are in m, ascending
unfoldable pub members_from : ℕ → ℕ → ℕ → List ℕ
members_from zero k m = []
members_from (suc n) k m = also (bit k m) k (members_from n (suc k) m)

-- the numbers in m, which has 32 places
abbrev pub members : ℕ → List ℕ
members m = members_from 32 0 m

-- the set of the numbers below n that pass the test f
unfoldable pub mask_of : ℕ → (ℕ → Bool) → ℕ
mask_of zero f = 0
mask_of (suc n) f = mask_of n f + pick (f n) (2 ^ n) 0
