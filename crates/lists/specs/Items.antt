-- What the readers of a list's items answer.
use Rattle.std.specs.Prelude.{ℕ, suc, ◌+◌, ◌-◌, ◌^◌, ◌≤◌, ◌≡◌, Bool, ◌&&◌, List, [], ◌∷◌, ltb, leb, eqb, length, take, drop, Option, Some, None}
use Rattle.table.specs.Mask.{pick}
use Rattle.text.specs.Value.{split}
use Rattle.digits.specs.Read.{number_of}

-- the count of bytes before the next comma
unfoldable pub up_to : List ℕ → ℕ
up_to [] = 0
up_to (b ∷ s) = pick (eqb b 44) 0 (suc (up_to s))

-- the place of the next comma, or the end
abbrev pub next_comma : List ℕ → ℕ → ℕ
next_comma t from = from + up_to (drop from t)

pub record CommaAt (t : List ℕ) (from r : ℕ) : Type 0 where
  pub same : r ≡ next_comma t from
  pub from_on : from ≤ r
  pub within : r ≤ length t

-- the items behind the one that ends at a place
abbrev pub more : List ℕ → ℕ → List (List ℕ)
more t to = pick (ltb to (length t)) (split (drop (suc to) t)) []

abbrev pub inside : ℕ → ℕ → ℕ → Bool
inside lo n x = leb lo x && ltb x n

abbrev pub bit_of : ℕ → ℕ → ℕ → ℕ
bit_of lo n x = pick (inside lo n x) (2 ^ x) 0

abbrev pub part : List ℕ → ℕ → ℕ → List ℕ
part t from to = take (to - from) (drop from t)

-- the answer for an item that ends at a place
abbrev pub item_for : ℕ → ℕ → ℕ → Option ℕ → Option (ℕ × ℕ)
item_for lo n to (Some v) = Some (bit_of lo n v, to)
item_for lo n to None = None

-- the item from a place to the next comma
unfoldable pub item_of : ℕ → ℕ → List ℕ → ℕ → Option (ℕ × ℕ)
item_of lo n t from = item_for lo n (next_comma t from) (number_of (part t from (next_comma t from)))
