-- m & !p and m ^ (m & p) both take from m what it shares with p.
use Rattle.std.proofs.Common.{ℕ, ◌-◌, ◌^◌, ◌<◌, ◌≡◌, sym, ◌∙◌, ap, arith, bit_and, one-mul, mod-eq_of_lt}
use Rattle.std.proofs.Math.Pow.{pow-lt}
use Rattle.std.specs.Int.Bits.{bit_xor, xor_add_and, and_self}
use Rattle.std.proofs.lemmas.Nat.{and_comm, and-not, and_assoc}
use Rattle.masks.proofs.minus.Goals as goal

cleared : (m p : ℕ) → m < 2 ^ 32 → p < 2 ^ 32 → bit_and m (2 ^ 32 - 1 - p) ≡ bit_xor m (bit_and m p)
cleared m p h k =
    let a : bit_and m (bit_and m p) ≡ bit_and m p = sym (and_assoc p m m) ∙ ap (λ (x : ℕ). bit_and x p) (and_self m) in
    omega (arith, and-not 32 p m k h, and_comm m (2 ^ 32 - 1 - p), and_comm m p, xor_add_and m (bit_and m p), a)

pub returns : goal.returns
returns c =
    let p : 2 ^ c.args.n < 2 ^ 32 = pow-lt {i = c.args.n} {j = 32} c.requires in
    rw (one-mul, mod-eq_of_lt p) (cleared c.args.m (2 ^ c.args.n) c.ranges.m.fits p)
