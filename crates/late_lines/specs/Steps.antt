-- The set of a procedure's nodes, as the code finds it.
use Rattle.std.specs.Prelude.{List, map, length, ℕ, suc, ◌+◌, ◌^◌, ◌≤◌, ◌<◌, ◌≡◌, Bool}
use Rattle.std.proofs.lemmas.List.{length-map}
use Rattle.std.proofs.Common.{sym, ◌∙◌, arith, lt_of_lt_of_le, pow_mono}
use Rattle.table.specs.Mask.{pick, mask_of}
use Rattle.table.specs.MaskLaws.{mask_of_lt}

pub mask_more : (f : ℕ → Bool) (n : ℕ) {m b : ℕ} → m ≡ mask_of n f → b ≡ pick (f n) (2 ^ n) 0 → m + b ≡ mask_of (n + 1) f
unfolding mask_of
mask_more f n p h = let e : n + 1 ≡ suc n = omega arith in rw (e, p, h)

pub mask_fits : (f : ℕ → Bool) (n : ℕ) {m b : ℕ} → n < 32 → m ≡ mask_of n f → b ≡ pick (f n) (2 ^ n) 0 → m + b < 4294967296
mask_fits f n l p h = rw (mask_more f n p h) (lt_of_lt_of_le (mask_of_lt (n + 1) f) (pow_mono (up l)))
  where
    up : {k : ℕ} → k < 32 → k + 1 ≤ 32
    up u = omega arith

-- an array's list has its length as a list of machine values
pub values_long : {A B : Type 0} (f : A → B) (xs : List A) (n : ℕ) → length (map f xs) ≡ n → length xs ≡ n
values_long f xs n e = sym (length-map xs f) ∙ e
