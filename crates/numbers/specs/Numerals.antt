-- What the readers of numbers answer at a place.
use Rattle.std.specs.Prelude.{ℕ, ◌+◌, ◌-◌, ◌*◌, ◌≤◌, ◌<◌, ◌≡◌, ◌⊎◌, cond, List, Option, Some, None, Ok, Err, leb, eqb, length, take, drop, get_or}
use Rattle.text.specs.declared.Fault.{Fault}
use Rattle.text.specs.declared.Fault.TheVariants.{Misspelt, Ended}
use Rattle.text.specs.Number.{is_digit}
use Rattle.digits.specs.Read.{digits_of, number_of}
use Rattle.scan.specs.Place.{Answer, RunEnd}

-- ---- the number that a value spells

-- a value that is digits, and what they say
pub record DigitsTo (s : List ℕ) (at e v : ℕ) : Type 0 where
  pub run : RunEnd s at e
  pub inside : e < length s
  pub same : digits_of (take (e - at) (drop at s)) ≡ Some v

pub record NumeralTo (s : List ℕ) (at e : ℕ) (w : Option ℕ) : Type 0 where
  pub run : RunEnd s at e
  pub inside : e < length s
  pub same : w ≡ number_of (take (e - at) (drop at s))

-- the fault: a value that spells none, or one that the text's end breaks off
abbrev pub NumeralFault : List ℕ → ℕ → Fault → Type 0
NumeralFault s at f = ((f ≡ Misspelt) × ((e : ℕ) × NumeralTo s at e None)) ⊎ ((f ≡ Ended) × ((e : ℕ) × RunEnd s at e × (length s ≤ e)))

abbrev pub NumeralIs : List ℕ → ℕ → Answer ℕ → Type 0
NumeralIs s at (Ok p) = NumeralTo s at p.1 (Some p.0)
NumeralIs s at (Err f) = NumeralFault s at f

pub record NumeralAt (s : List ℕ) (at : ℕ) (r : Answer ℕ) : Type 0 where
  pub is : NumeralIs s at r

-- ---- numbers of one or two digits

-- a digit that no digit follows, or two with no needless zero; and where they end
abbrev pub short_bytes : ℕ → ℕ → ℕ → Option (ℕ × ℕ)
short_bytes at a b =
    cond (is_digit a) (cond (is_digit b) (cond (eqb a 48) None (Some ((a - 48) * 10 + (b - 48), at + 2))) (Some (a - 48, at + 1))) None

-- those at a place, where three bytes are left
unfoldable pub short_of : List ℕ → ℕ → Option (ℕ × ℕ)
short_of u at = cond (leb 3 (length u - at)) (short_bytes at (get_or u at 0) (get_or u (at + 1) 0)) None

-- those that a space ends
abbrev pub before_space : List ℕ → Option (ℕ × ℕ) → Option (ℕ × ℕ)
before_space s (Some p) = cond (eqb (get_or s p.1 0) 32) (Some p) None
before_space s None = None

unfoldable pub short_value_of : List ℕ → ℕ → Option (ℕ × ℕ)
short_value_of s at = before_space s (short_of s at)
