-- A list that is made place by place is the list that `map_from` makes.
use Prim.Native.Nat.{ℕ, zero, suc, ◌+◌, ◌<◌}
use Rattle.std.proofs.Common.{arith, zero-add, add-suc, suc-add, ◌∙◌}
use Rattle.std.proofs.Math.Nat.{add-zero}
use Rattle.std.specs.Prelude.{◌≡◌, length, get_or}
use Rattle.std.proofs.Math.Path.{refl, sym, ap, ap₂}
use mathlib.Core.List.{List, [], ◌∷◌}
use Rattle.closing.specs.Close.{map_from}

module _ {A B : Type 0} (f : ℕ → A → B) (a : A) (b : B) where
  from : (i : ℕ) (xs : List A) (ys : List B) → length ys ≡ length xs → ((k : ℕ) → k < length xs → get_or ys k b ≡ f (i + k) (get_or xs k a)) → ys ≡ map_from f i xs
  unfolding map_from
  from i [] [] e h = refl
  from i [] (y ∷ ys) e h = absurd (omega arith)
  from i (x ∷ xs) [] e h = absurd (omega arith)
  from i (x ∷ xs) (y ∷ ys) e h = ap₂ (λ (z : B) (zs : List B). z ∷ zs) (rw add-zero at (h zero (omega arith)))
      (from (suc i) xs ys (omega arith) (λ k l. h (suc k) (omega arith) ∙ ap (λ (j : ℕ). f j (get_or xs k a)) (add-suc i k ∙ sym (suc-add i k))))

  pub mapped : (xs : List A) (ys : List B) → length ys ≡ length xs → ((k : ℕ) → k < length xs → get_or ys k b ≡ f k (get_or xs k a)) → ys ≡ map_from f zero xs
  mapped xs ys e h = from zero xs ys e (λ k l. h k l ∙ ap (λ (j : ℕ). f j (get_or xs k a)) (sym (zero-add k)))
