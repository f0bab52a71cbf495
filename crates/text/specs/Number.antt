-- Decimal numbers: how a number is spelt, and what digits say.
use Rattle.std.specs.Prelude.{ℕ, zero, suc, ◌+◌, ◌-◌, ◌*◌, ◌/◌, ◌%◌, List, [], ◌∷◌, ◌++◌, Bool, true, false, ◌&&◌, not, ltb, leb, eqb}
use Prim.Native.String.{String, [] as ε, ◌∷◌ as ◌▹◌}
use Prim.Native.Char.{code}

-- the bytes of a text
abbrev pub bytes : String → List ℕ
bytes ε = []
bytes (c ▹ s) = code c ∷ bytes s

-- the decimal digits of n, highest first; the first argument bounds their count
unfoldable pub digits_in : ℕ → ℕ → List ℕ
digits_in zero n = (48 + n) ∷ []
digits_in (suc f) n = elim (ltb n 10) [ true ↦ (48 + n) ∷ [] | false ↦ digits_in f (n / 10) ++ ((48 + n % 10) ∷ []) ]

unfoldable pub digits : ℕ → List ℕ
digits n = digits_in n n

-- all of some things pass a test
unfoldable pub every : {A : Type 0} → (A → Bool) → List A → Bool
every f [] = true
every f (x ∷ xs) = f x && every f xs

abbrev pub is_digit : ℕ → Bool
is_digit b = leb 48 b && leb b 57

unfoldable pub all_digits : List ℕ → Bool
all_digits [] = true
all_digits (b ∷ s) = is_digit b && all_digits s

-- spelt as a number: "Numbers have no needless leading zero"
unfoldable pub spelt : List ℕ → Bool
spelt [] = false
spelt (b ∷ []) = is_digit b
spelt (b ∷ c ∷ s) = not (eqb b 48) && all_digits (b ∷ c ∷ s)

-- the number that digits say, after those that say v
unfoldable pub value_from : ℕ → List ℕ → ℕ
value_from v [] = v
value_from v (b ∷ s) = value_from (v * 10 + (b - 48)) s

unfoldable pub value : List ℕ → ℕ
value s = value_from 0 s
