-- What is left to do for a loop that ends: c masks that only grow, and a number up to k that goes down as long as they stay.
use Rattle.std.specs.Prelude.{ℕ, suc, ◌+◌, ◌*◌, ◌-◌, ◌^◌, ◌<◌, ◌≤◌, ◌≡◌, refl, Bool, true, false, List, eqb}
use Rattle.std.proofs.Common.{arith, suc-mul, mul-le-mul_right, eqb-true}
use Rattle.std.proofs.lemmas.Bool.{eqb-false}
use Rattle.masks.specs.Cells.{sum}

abbrev pub left : ℕ → ℕ → List ℕ → ℕ → ℕ
left c k l w = (c * 2 ^ 32 - sum l) * suc k + w

pub less_left : (c k : ℕ) (l l' : List ℕ) (w w1 w' : ℕ) → sum l' ≤ c * 2 ^ 32 → w' ≤ k → sum l ≤ sum l' → (sum l' ≡ sum l → w' ≡ w1) → w1 < w → left c k l' w' < left c k l w
less_left c k l l' w w1 w' hl hw up stays f = go (eqb (sum l') (sum l)) refl
  where
    go : (b : Bool) → eqb (sum l') (sum l) ≡ b → left c k l' w' < left c k l w
    go true e =
        let z = eqb-true (sum l') (sum l) e in
        let s : w' ≡ w1 = stays z in
        rw z (omega arith)
    go false e =
        let z = eqb-false (sum l') (sum l) e in
        let h : sum l < sum l' = omega arith in
        let d : suc (c * 2 ^ 32 - sum l') * suc k ≤ (c * 2 ^ 32 - sum l) * suc k = mul-le-mul_right (suc k) (omega arith) in
        omega (arith, rw suc-mul at d)
