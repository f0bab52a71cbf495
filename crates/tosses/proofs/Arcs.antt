-- The targets of an arc: the lowest by its trailing zeros, and whether there are more.
use mathlib.Core.Path.{◌≡◌, refl, sym, ◌∙◌, ap}
use mathlib.Core.Bool.{Bool}
use mathlib.Core.List.{List, [], ◌∷◌}
use Prim.Native.Nat.{ℕ, ◌-◌, ◌/◌, ◌%◌, ◌^◌, ◌<◌}
use native.Mathlib.Omega.{arith}
use lib.Bits.{bit_and, and_le_l}
use lib.Count.{count_trailing_zeros}
use lib.IntN.{ℤ, pos, negsuc}
use mir.Syntax.{w32}
use mir.Val.{SFits, of_z}
use borrow.Author.Tests.{eq-eqb, ne_eqb}
use Rattle.table.specs.Mask.{pick, bit, members}
use Rattle.table.specs.MaskLaws.{members_few}
use Rattle.masks.specs.Lowest.{members_none, members_lowest}
use Rattle.std.proofs.lemmas.Option.{slice_get_past}
use Rattle.std.specs.Prelude.{slice_get, Result, Ok}
use Rattle.tosses.specs.declared.Stop.{Stop}
use Rattle.tosses.specs.declared.Target.{Target}
use Rattle.tosses.specs.declared.Target.TheVariants.{Nowhere}
use Rattle.tosses.specs.Tosses.{meeting, target_at, tossed, arrived_among, arrived_of, one_kept, straight_of}

module _ (m : ℕ) (fits : m < 4294967296) (some_in : m ≡ 0 → ⊥) where
  abbrev low : ℕ
  low = count_trailing_zeros 32 m

  abbrev others : ℕ
  others = bit_and m (m - 1)

  pub low_lt : low < 32
  low_lt = (members_lowest m fits some_in).0

  low_is : members m ≡ low ∷ members others
  low_is = (members_lowest m fits some_in).1

  pub one_target : others ≡ 0 → members m ≡ low ∷ []
  one_target h = low_is ∙ ap (λ (k : ℕ). low ∷ members k) h ∙ ap (λ (l : List ℕ). low ∷ l) members_none

  pub more_targets : (others ≡ 0 → ⊥) → (a b : ℕ) × (l : List ℕ) × (members m ≡ a ∷ b ∷ l)
  more_targets h =
      let next = (members_lowest others (omega (arith, and_le_l m (m - 1))) h).1 in
      (low, count_trailing_zeros 32 others, members (bit_and others (others - 1)), low_is ∙ ap (λ (l : List ℕ). low ∷ l) next)

-- a negative value is past every target when its bits are taken
pub target_is : (m : ℕ) (x : ℤ) → SFits w32 x → slice_get (members m) (of_z w32 x) ≡ target_at (members m) x
target_is m (pos i) f = refl
target_is m (negsuc i) f = slice_get_past (members m) (of_z w32 (negsuc i)) (omega (arith, members_few m, f.sfits))

-- ---- an arc taken, by the number of its targets

module _ (arc keep : ℕ) (vs : List ℤ) (used : ℕ) where
  pub arrives_nowhere : arc ≡ 0 → Ok (Nowhere, used) ≡ arrived_of arc keep vs used
  arrives_nowhere e = sym (ap (λ (ms : List ℕ). arrived_among ms keep vs used) (ap members e ∙ members_none))

  pub arrives_at : {o : Target} (j : ℕ) → members arc ≡ j ∷ [] → o ≡ meeting keep j → Ok (o, used) ≡ arrived_of arc keep vs used
  arrives_at j e h = ap (λ (o : Target). Ok (o, used)) h ∙ sym (ap (λ (ms : List ℕ). arrived_among ms keep vs used) e)

  pub arrives_tossed : {r : Result (Target × ℕ) Stop} (a b : ℕ) (l : List ℕ) → members arc ≡ a ∷ b ∷ l → r ≡ tossed (members arc) keep used (slice_get vs used) → r ≡ arrived_of arc keep vs used
  arrives_tossed a b l e h = h ∙ ap (λ (ms : List ℕ). tossed ms keep used (slice_get vs used)) e ∙ sym (ap (λ (ms : List ℕ). arrived_among ms keep vs used) e)

-- ---- the one target of an arc, where it is kept

module _ (arc keep : ℕ) where
  pub straight_none : arc ≡ 0 → 0 ≡ straight_of arc keep
  straight_none z = sym (ap (one_kept keep) (ap members z ∙ members_none))

  pub straight_more : (a b : ℕ) (l : List ℕ) → members arc ≡ a ∷ b ∷ l → 0 ≡ straight_of arc keep
  straight_more a b l e = sym (ap (one_kept keep) e)

  module _ (j : ℕ) (one : members arc ≡ j ∷ []) where
    pub straight_kept : keep / 2 ^ j % 2 ≡ 1 → j ≡ straight_of arc keep
    unfolding bit
    straight_kept h = sym (ap (one_kept keep) one ∙ ap (λ (b : Bool). pick b j 0) (eq-eqb (keep / 2 ^ j % 2) 1 h))

    pub straight_dropped : (keep / 2 ^ j % 2 ≡ 1 → ⊥) → 0 ≡ straight_of arc keep
    unfolding bit
    straight_dropped h = sym (ap (one_kept keep) one ∙ ap (λ (b : Bool). pick b j 0) (ne_eqb (keep / 2 ^ j % 2) 1 h))
