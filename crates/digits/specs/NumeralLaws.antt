-- What a number's answer says of a numeral.
use Rattle.std.specs.Prelude.{None, Option, Some, ◌≡◌, ℕ, Bool, true, false, List, refl}
use Rattle.std.proofs.Common.{sym, ◌∙◌, arith}
use Rattle.std.proofs.Math.Option.{none, some}
use Rattle.text.specs.Number.{spelt, value}
use Rattle.text.specs.Value.{numeral}
use Rattle.digits.specs.Read.{pick_num, capped, number_of}

pick_bad : (b : Bool) (x : ℕ) → pick_num b x ≡ None → b ≡ false
pick_bad true x e = absurd (let z : ◌≡◌ {A = ℕ} 0 1 = cc in omega arith)
pick_bad false x e = refl

pub pick_good : (b : Bool) (x : ℕ) {v : ℕ} → pick_num b x ≡ Some v → (b ≡ true) × (x ≡ v)
pick_good true x e = (refl, cc)
pick_good false x e = absurd (let z : ◌≡◌ {A = ℕ} 0 1 = cc in omega arith)

module _ (t : List ℕ) {w : Option ℕ} (d : w ≡ number_of t) where
  pub spelt_bad : w ≡ None → spelt t ≡ false
  unfolding number_of
  spelt_bad h = pick_bad (spelt t) (capped (value t)) (sym d ∙ h)

  pub spelt_good : {v : ℕ} → w ≡ Some v → (spelt t ≡ true) × (capped (value t) ≡ v)
  unfolding number_of
  spelt_good h = pick_good (spelt t) (capped (value t)) (sym d ∙ h)

  pub numeral_bad : w ≡ None → numeral t ≡ none
  numeral_bad h = rw (spelt_bad h)

  pub numeral_good : {v : ℕ} → w ≡ Some v → numeral t ≡ some (value t)
  numeral_good h = rw (spelt_good h).0
