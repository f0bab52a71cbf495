-- Laws of the words, one after another.
use Rattle.std.specs.Prelude.{ℕ, zero, suc, ◌-◌, ◌≡◌, refl, List, [], ◌∷◌}
use Rattle.std.proofs.Math.Option.{Option, none, some}
use Rattle.std.proofs.Common.{arith}
use Rattle.machine.specs.Words.{Words, asks, unread, next, last, given}

module _ {W R A : Type 0} (w : W) (f : List ℕ → Option A) (go : A → List (List ℕ) → Words W R) (x : List ℕ) (xs : List (List ℕ)) where
  pub next_missing : (n : ℕ) → n ≡ 0 → next w f (given n (x ∷ xs)) go ≡ unread w
  next_missing n h = rw h

  pub next_unread : (n : ℕ) → (n ≡ 0 → ⊥) → f x ≡ none → next w f (given n (x ∷ xs)) go ≡ unread w
  next_unread zero h e = absurd (h refl)
  next_unread (suc n) h e = rw e

  pub next_said : (n : ℕ) {a : A} → (n ≡ 0 → ⊥) → f x ≡ some a → next w f (given n (x ∷ xs)) go ≡ go a (given (n - 1) xs)
  next_said zero h e = absurd (h refl)
  next_said (suc n) h e = let z : suc n - 1 ≡ n = omega arith in rw (z, e)

module _ {W R : Type 0} (w : W) (q : R) where
  pub last_asks : (n : ℕ) → n ≡ 1 → last w q (given (n - 1) []) ≡ asks q
  last_asks n h = rw h

  pub last_further : (n : ℕ) → (n ≡ 0 → ⊥) → (n ≡ 1 → ⊥) → last w q (given (n - 1) []) ≡ unread w
  last_further zero h g = absurd (h refl)
  last_further (suc zero) h g = absurd (g refl)
  last_further (suc (suc n)) h g = let z : suc (suc n) - 1 ≡ suc n = omega arith in rw z
