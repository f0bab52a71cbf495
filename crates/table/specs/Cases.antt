-- By what a test says.
use Rattle.std.specs.Prelude.{◌≡◌, refl, Bool, true, false}

-- the two cases of a test, each with its equation
abbrev pub cases {ℓ} : {P : Type ℓ} (b : Bool) → (b ≡ true → P) → (b ≡ false → P) → P
cases true f g = f refl
cases false f g = g refl
