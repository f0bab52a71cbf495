-- The members of a mask, the lowest first.
use mathlib.Core.Path.{◌≡◌, sym, ap}
use mathlib.Core.List.{List}
use Prim.Native.Nat.{ℕ, suc, ◌-◌, ◌<◌}
use Rattle.std.specs.Prelude.{slice_get, Some, None}
use lib.Bits.{bit_and}
use lib.Count.{count_trailing_zeros}
use Rattle.table.specs.Mask.{members}
use Rattle.masks.specs.Lowest.{members_none, members_lowest}

-- ---- the numbers in a mask: none, or the lowest and then the others

pub nth_none : (i : ℕ) → slice_get (members 0) i ≡ None
nth_none i = ap (λ (l : List ℕ). slice_get l i) members_none

module _ (m : ℕ) (fits : m < 4294967296) (some_in : m ≡ 0 → ⊥) where
  pub nth_lowest : Some (count_trailing_zeros 32 m) ≡ slice_get (members m) 0
  nth_lowest = sym (ap (λ (l : List ℕ). slice_get l 0) (members_lowest m fits some_in).1)

  pub nth_others : (i : ℕ) → slice_get (members m) (suc i) ≡ slice_get (members (bit_and m (m - 1))) i
  nth_others i = ap (λ (l : List ℕ). slice_get l (suc i)) (members_lowest m fits some_in).1
