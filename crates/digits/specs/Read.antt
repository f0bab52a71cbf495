-- What the number reader answers.
use Rattle.std.specs.Prelude.{None, Option, Some, ℕ, ◌+◌, ◌-◌, min, Bool, true, false, cond, ◌&&◌, List, [], ◌∷◌, length, take, drop, nat_le}
use Rattle.digits.specs.declared.Lead.{Lead}
use Rattle.text.specs.Number.{is_digit, all_digits, spelt, value, value_from}

-- a digit's number; more than 9 for any other byte
unfoldable pub digit_of : ℕ → ℕ
digit_of b = cond (nat_le 48 b) (b - 48) (b + 208)

abbrev pub pick_num : Bool → ℕ → Option ℕ
pick_num true v = Some v
pick_num false v = None

-- the number, or 2^32 for any that is larger
abbrev pub capped : ℕ → ℕ
capped v = min v 4294967296

unfoldable pub digits_of : List ℕ → Option ℕ
digits_of t = pick_num (all_digits t) (capped (value t))

unfoldable pub number_of : List ℕ → Option ℕ
number_of t = pick_num (spelt t) (capped (value t))

-- ---- the digits at a place

-- the digits before the first byte that is none, or before the end
unfoldable pub leading_digits : List ℕ → List ℕ
leading_digits [] = []
leading_digits (b ∷ s) = cond (is_digit b) (b ∷ leading_digits s) []

-- behind digits that say v: the number that all say, at most 2^32, and where they end
unfoldable pub lead_from : ℕ → List ℕ → ℕ → Lead
lead_from v s at = record { value = capped (value_from v (leading_digits (drop at s))); end = at + length (leading_digits (drop at s)) }

abbrev pub lead_of : List ℕ → ℕ → Lead
lead_of s at = lead_from 0 s at

-- behind digits that say v: four more, if four stand there
unfoldable pub four_from : ℕ → List ℕ → ℕ → Lead
four_from v s at =
    cond (nat_le 4 (length s - at) && all_digits (take 4 (drop at s))) (record { value = value_from v (take 4 (drop at s)); end = at + 4 }) (record { value = v; end = at })

-- none, four or eight
unfoldable pub first_of : List ℕ → ℕ → Lead
first_of s at = four_from (four_from 0 s at).value s (four_from 0 s at).end
