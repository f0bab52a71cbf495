-- Laws of signed numbers and their bits.
use Rattle.std.proofs.Common.{◌≡◌, ℕ, ◌%◌, ℤ, pos, negsuc, refl, arith, w32, SFits, of_z, to_z-of_z}
use lib.Signed.{shr_z, mag_shr}
use Rattle.table.specs.Values.{mod32}

pub mod_bits : (b : ℤ) → SFits w32 b → of_z w32 b % 32 ≡ mod32 b
mod_bits (pos n) f = refl
mod_bits (negsuc n) f = omega (arith, f.sfits)

pub shr_fits : (a : ℤ) (m : ℕ) → SFits w32 a → SFits w32 (shr_z a m)
shr_fits a m f = record { sfits = omega (arith, mag_shr a m, f.sfits) }

-- a value that went through its bits
pub ruleset signed = (to_z-of_z)
