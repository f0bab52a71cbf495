-- Lists that are made by `for_each` and `up_to`: what all their elements have, and what is among them.
use Rattle.std.specs.Prelude.{ℕ, zero, suc, ◌<◌, refl, eqb}
use Rattle.std.proofs.Common.{arith, eqb-true}
use mathlib.Core.List.Memᴰ
use mathlib.Core.List.{List, [], ◌∷◌, ◌++◌, map, Memᴰ}
use Rattle.std.proofs.lemmas.Bool.{eqb-false}
use Rattle.closing.specs.Closing.{for_each, up_to}
use Rattle.table.specs.Cases.{cases}

-- ---- every element of a list has P
module _ {A : Type 0} (P : A → Type 0) where
  abbrev pub All : List A → Type 0
  All l = (e : A) → Memᴰ e l → P e

  pub all_nil : All []
  all_nil e m = absurd (Memᴰ.not-nil m)

  pub all_cons : (x : A) (xs : List A) → P x → All xs → All (x ∷ xs)
  all_cons x xs p f e (Memᴰ.head k) = rw k p
  all_cons x xs p f e (Memᴰ.tail m) = f e m

  pub all_append : (xs ys : List A) → All xs → All ys → All (xs ++ ys)
  all_append [] ys f g = g
  all_append (x ∷ xs) ys f g = all_cons x (xs ++ ys) (f x (Memᴰ.head refl)) (all_append xs ys (λ e m. f e (Memᴰ.tail m)) g)

  pub all_map : {B : Type 0} (h : B → A) (xs : List B) → ((x : B) → Memᴰ x xs → P (h x)) → All (map h xs)
  all_map h [] f = all_nil
  all_map h (x ∷ xs) f = all_cons (h x) (map h xs) (f x (Memᴰ.head refl)) (all_map h xs (λ e m. f e (Memᴰ.tail m)))

  pub all_each : {B : Type 0} (xs : List B) (h : B → List A) → ((x : B) → Memᴰ x xs → All (h x)) → All (for_each xs h)
  unfolding for_each
  all_each [] h f = all_nil
  all_each (x ∷ xs) h f = all_append (h x) (for_each xs h) (f x (Memᴰ.head refl)) (all_each xs h (λ e m. f e (Memᴰ.tail m)))

pub up_to_lt : (n : ℕ) → All (λ i. i < n) (up_to n)
unfolding up_to
up_to_lt zero = all_nil (λ i. i < zero)
up_to_lt (suc n) = all_cons (λ i. i < suc n) n (up_to n) (omega arith) (λ e m. omega (arith, up_to_lt n e m))

-- ---- what is in a list
pub in_each : {A B : Type 0} (h : A → List B) (x : A) (y : B) (xs : List A) → Memᴰ x xs → Memᴰ y (h x) → Memᴰ y (for_each xs h)
unfolding for_each
in_each h x y xs (Memᴰ.head {x = z} {xs = r} k) m = Memᴰ.append_left (for_each r h) (rw k at m)
in_each h x y xs (Memᴰ.tail {x = z} {xs = r} n) m = Memᴰ.append_right (h z) (in_each h x y r n m)

pub in_up_to : (i n : ℕ) → i < n → Memᴰ i (up_to n)
unfolding up_to
in_up_to i zero l = absurd (omega arith)
in_up_to i (suc n) l = cases (eqb i n)
    (λ k. Memᴰ.head (eqb-true i n k))
    (λ k. Memᴰ.tail (in_up_to i n (omega (arith, eqb-false i n k))))
