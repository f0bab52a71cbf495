-- A value that went through its bits.
use Rattle.std.proofs.Common.{◌≡◌, ℤ, ap, ◌∙◌, to_z-of_z, w32, SFits, to_z, of_z}

pub again : (x : ℤ) → SFits w32 x → to_z w32 (of_z w32 x) ≡ x
again x p = to_z-of_z p

pub twice : (g : ℤ → ℤ → ℤ) (x y : ℤ) {a b : ℤ} → SFits w32 x → SFits w32 y → x ≡ a → y ≡ b → g (to_z w32 (of_z w32 x)) (to_z w32 (of_z w32 y)) ≡ g a b
twice g x y {a} p q e h = ap (λ (z : ℤ). g z (to_z w32 (of_z w32 y))) (to_z-of_z p ∙ e) ∙ ap (g a) (to_z-of_z q ∙ h)
