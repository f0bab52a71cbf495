-- Lists whose places are set, one after another or several at a time.
use Rattle.std.specs.Prelude.{ℕ, suc, ◌+◌, ◌≤◌, ◌<◌, ◌≡◌, refl, Bool, true, false, List, [], ◌∷◌, ◌++◌, length, get_or, set, eqb}
use Rattle.std.proofs.Common.{arith, add-zero, add-suc, suc-add, ◌∙◌, length-set, get_or-set_same, get_or-set_other, eqb-true}
use Rattle.std.proofs.lemmas.List.Edits.{sets}
use Rattle.std.proofs.Math.Seq.{set_out}
use Rattle.std.proofs.lemmas.Bool.{eqb-false}

-- r has n places, and f's values at those before i
abbrev pub Filled : {A : Type 0} → A → ℕ → (ℕ → A) → List A → ℕ → Type 0
Filled d n f r i = (length r ≡ n) × ((j : ℕ) → j < i → get_or r j d ≡ f j)

pub fill : {A : Type 0} (d : A) (n : ℕ) (f : ℕ → A) (r : List A) (i : ℕ) (x : A) → i < n → x ≡ f i → Filled d n f r i → Filled d n f (set r i x) (i + 1)
fill d n f r i x low e h = (length-set r i x ∙ h.0, λ j k. go j k (eqb j i) refl)
  where
    go : (j : ℕ) → j < i + 1 → (b : Bool) → eqb j i ≡ b → get_or (set r i x) j d ≡ f j
    go j k true y = rw (eqb-true j i y) (get_or-set_same r i x d (omega (arith, h.0)) ∙ e)
    go j k false y = let z = eqb-false j i y in get_or-set_other r i j x d z ∙ h.1 j (omega (arith, z))

-- ---- several places

pub sets_append : {A : Type 0} (t u l : List A) (at : ℕ) → sets l at (t ++ u) ≡ sets (sets l at t) (at + length t) u
sets_append [] u l at = rw add-zero
sets_append (b ∷ t) u l at = sets_append t u _ (suc at) ∙ rw (suc-add, ← add-suc at (length t))

-- behind the end nothing is set
pub sets_out : {A : Type 0} (t l : List A) (at : ℕ) → length l ≤ at → sets l at t ≡ l
sets_out [] l at h = refl
sets_out (b ∷ t) l at h = rw (set_out l at b h) (sets_out t l (suc at) (omega arith))
