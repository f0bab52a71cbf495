use Rattle.std.proofs.Common.{ℕ, ◌%◌, ◌^◌, ℤ, ap, ◌∙◌, to_z-of_z, w32, to_z, of_z}
use lib.Signed.{shr_z}
use Rattle.table.specs.Values.{shr}
use Rattle.values.proofs.Signed.{mod_bits, shr_fits}
use Rattle.values.proofs.shr.Goals as goal

pub returns : goal.returns
unfolding shr
returns c = let a = c.args.a in
    let b = c.args.b in
    let f = c.ranges.a in
    let m = c.cast_unsigned.result % 32 in
    ap (λ (z : ℤ). to_z w32 (of_z w32 (shr_z z (2 ^ m)))) (to_z-of_z f) ∙
    to_z-of_z (shr_fits a (2 ^ m) f) ∙
    ap (λ (k : ℕ). shr_z a (2 ^ k)) (ap (λ (k : ℕ). k % 32) (c.cast_unsigned.ensures ∙ ap (of_z w32) (to_z-of_z c.ranges.b)) ∙ mod_bits b c.ranges.b)
