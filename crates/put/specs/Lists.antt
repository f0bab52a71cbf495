-- How a list is written, item by item.
use Rattle.std.specs.Prelude.{ℕ, ◌*◌, List, [], ◌∷◌, ◌++◌, map}
use Rattle.table.specs.Mask.{members}
use Rattle.masks.specs.Lowest.{above}
use Rattle.text.specs.Number.{digits}
use Rattle.text.specs.Value.{spell_list, commas}

-- the numbers in a mask, with commas between, and as a list is spelt
abbrev pub items_text : ℕ → List ℕ
items_text m = commas (map digits (members m))

abbrev pub list_text : ℕ → List ℕ
list_text m = spell_list (map digits (members m))

-- numbers, each behind a comma
unfoldable pub further : List ℕ → List ℕ
further [] = []
further (x ∷ xs) = 44 ∷ (digits x ++ further xs)

-- of the ten numbers with t tens those in a mask
abbrev pub ten_of : ℕ → ℕ → List ℕ
ten_of t m = above 10 (t * 10) m
