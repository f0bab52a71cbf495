-- Document 01, "The table text": values are signed 32-bit, and what each operation gives.
use Rattle.std.specs.Prelude.{ℕ, zero, suc, ◌-◌, ◌%◌, ◌^◌, Bool, true, false, eqb, ℤ, pos, negsuc, ◌+ℤ◌, ◌-ℤ◌}
use Rattle.std.specs.Int.Signed.{shr_z, lt_z}
use Rattle.std.specs.Int.Bits as Bits
use Rattle.std.specs.Int.{w32}
use Rattle.std.proofs.Common.{to_z, of_z}
use Rattle.table.specs.declared.Op.{Op}
use Rattle.table.specs.declared.Op.TheVariants.{Add, Sub, And, Or, Xor, Shr, Lt, Eq}

-- z mod 2^32, from 0
abbrev pub residue : ℤ → ℕ
residue (pos n) = n % 4294967296
residue (negsuc n) = 4294967295 - n % 4294967296

-- "taken modulo 2^32 back into that range"
abbrev pub wrap : ℤ → ℤ
wrap z = to_z w32 (residue z)

-- "and, or, xor work on two's complement": on the bits of the two values
abbrev pub on_bits : (ℕ → ℕ → ℕ) → ℤ → ℤ → ℤ
on_bits f a b = to_z w32 (f (of_z w32 a) (of_z w32 b))

-- "b mod 32 is never negative"
abbrev pub mod32 : ℤ → ℕ
mod32 (pos n) = n % 32
mod32 (negsuc n) = 31 - n % 32

-- "a divided by 2 to the power of b mod 32, rounded down"
unfoldable pub shr : ℤ → ℤ → ℤ
shr a b = shr_z a (2 ^ mod32 b)

-- "lt and eq give 1 or 0"
abbrev pub truth : Bool → ℤ
truth true = pos 1
truth false = pos 0

abbrev pub eq_z : ℤ → ℤ → Bool
eq_z (pos a) (pos b) = eqb a b
eq_z (pos a) (negsuc b) = false
eq_z (negsuc a) (pos b) = false
eq_z (negsuc a) (negsuc b) = eqb a b

unfoldable pub apply : Op → ℤ → ℤ → ℤ
apply Add a b = wrap (a +ℤ b)
apply Sub a b = wrap (a -ℤ b)
apply And a b = on_bits Bits.bit_and a b
apply Or a b = on_bits Bits.bit_or a b
apply Xor a b = on_bits Bits.bit_xor a b
apply Shr a b = shr a b
apply Lt a b = truth (lt_z a b)
apply Eq a b = truth (eq_z a b)

-- a test goes to `yes` at 1, to `no` at 0
abbrev pub holds : ℤ → Bool
holds (pos zero) = false
holds (pos (suc n)) = true
holds (negsuc n) = true
