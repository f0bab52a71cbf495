-- What the proofs of the small functions lean on.
use mathlib.Core.Path.{◌≡◌, refl, sym, ap, ◌∙◌}
use mathlib.Core.Bool.{Bool, true, false}
use mathlib.Core.Logic.{◌⊎◌, inl, inr}
use mathlib.Core.List.{List, [], ◌∷◌}
use Prim.Native.Nat.{ℕ, zero, suc, ◌<◌, ◌≤◌}
use native.Mathlib.Omega.{arith}
use lib.ListN.{length, get_or, set}
use lib.Dec.{ltb}
use lib.IntN.{ℤ, pos, negsuc}
use mir.Syntax.{w32}
use mir.Val.{SFits, to_z, of_z}
use borrow.Author.Tests.{le-ltb, lt-ltb}
use Rattle.table.specs.Mask.{pick}
use Rattle.table.specs.Values.{holds}
use Rattle.table.specs.declared.Args.{Args}
use Rattle.text.specs.Reader.{concat_from}
use Rattle.machine.specs.State.{var_at}
use Rattle.machine.specs.Step.{entering}
use Rattle.values.proofs.Again.{again}
use Rattle.run_step.specs.Steps.{shifted_of}

pub holds_no : (z : ℤ) → SFits w32 z → of_z w32 z ≡ 0 → holds z ≡ false
holds_no (pos zero) f h = refl
holds_no (pos (suc n)) f h = absurd (omega arith)
holds_no (negsuc n) f h = absurd (omega (arith, f.sfits))

pub holds_yes : (z : ℤ) → (of_z w32 z ≡ 0 → ⊥) → holds z ≡ true
holds_yes (pos zero) h = absurd (h refl)
holds_yes (pos (suc n)) h = refl
holds_yes (negsuc n) h = refl

-- ---- the frame that a call opens: four parameters and no more
abbrev four : ℤ → ℤ → ℤ → ℤ → List ℤ
four a b c d = a ∷ b ∷ c ∷ d ∷ pos 0 ∷ pos 0 ∷ pos 0 ∷ pos 0 ∷ pos 0 ∷ pos 0 ∷ pos 0 ∷ pos 0 ∷ pos 0 ∷ pos 0 ∷ pos 0 ∷ pos 0 ∷ []

abbrev passing : List ℤ → ℕ → ℕ → ℕ → ℤ
passing l len i v = pick (ltb i len) (var_at l v) (pos 0)

pub entering_is : (l : List ℤ) (q : ℕ) (xs : Args) {a b c d : ℤ} → xs.len ≤ 4
    → a ≡ passing l xs.len 0 xs.a0 → b ≡ passing l xs.len 1 xs.a1 → c ≡ passing l xs.len 2 xs.a2 → d ≡ passing l xs.len 3 xs.a3
    → four a b c d ≡ (entering l q xs).vars
unfolding concat_from
entering_is l q xs h e f g k =
    (λ i. four (e i) (f i) (g i) (k i)) ∙
    rw (le-ltb 4 xs.len (omega arith), le-ltb 5 xs.len (omega arith), le-ltb 6 xs.len (omega arith), le-ltb 7 xs.len (omega arith), le-ltb 8 xs.len (omega arith), le-ltb 9 xs.len (omega arith), le-ltb 10 xs.len (omega arith), le-ltb 11 xs.len (omega arith), le-ltb 12 xs.len (omega arith), le-ltb 13 xs.len (omega arith), le-ltb 14 xs.len (omega arith), le-ltb 15 xs.len (omega arith)) refl

-- a parameter is passed, or beyond the arguments
pub passed : (l : List ℤ) (len i v : ℕ) (a : ℤ) → SFits w32 a → i < len → a ≡ var_at l v → to_z w32 (of_z w32 a) ≡ passing l len i v
passed l len i v a p h e = rw (lt-ltb i len h) (again a p ∙ e)

pub beyond : (l : List ℤ) (len i v : ℕ) → len ≤ i → pos 0 ≡ passing l len i v
beyond l len i v h = rw (le-ltb i len h) refl

-- ---- queues

pub popped_is : (l : List ℤ) {a b c d e f g : ℤ} → length l ≡ 16
    → a ≡ get_or l 1 (pos 0) → b ≡ get_or (set l 0 a) 2 (pos 0) → c ≡ get_or (set (set l 0 a) 1 b) 3 (pos 0) → d ≡ get_or (set (set (set l 0 a) 1 b) 2 c) 4 (pos 0) → e ≡ get_or (set (set (set (set l 0 a) 1 b) 2 c) 3 d) 5 (pos 0) → f ≡ get_or (set (set (set (set (set l 0 a) 1 b) 2 c) 3 d) 4 e) 6 (pos 0) → g ≡ get_or (set (set (set (set (set (set l 0 a) 1 b) 2 c) 3 d) 4 e) 5 f) 7 (pos 0)
    → set (set (set (set (set (set (set (set l 0 a) 1 b) 2 c) 3 d) 4 e) 5 f) 6 g) 7 (pos 0) ≡ shifted_of l
popped_is (x ∷ y ∷ z ∷ u ∷ v ∷ w ∷ s ∷ t ∷ l) k ea eb ec ed ee ef eg = λ i. ea i ∷ eb i ∷ ec i ∷ ed i ∷ ee i ∷ ef i ∷ eg i ∷ pos 0 ∷ l
popped_is [] k ea eb ec ed ee ef eg = absurd (omega arith)
popped_is (x ∷ []) k ea eb ec ed ee ef eg = absurd (omega arith)
popped_is (x ∷ y ∷ []) k ea eb ec ed ee ef eg = absurd (omega arith)
popped_is (x ∷ y ∷ z ∷ []) k ea eb ec ed ee ef eg = absurd (omega arith)
popped_is (x ∷ y ∷ z ∷ u ∷ []) k ea eb ec ed ee ef eg = absurd (omega arith)
popped_is (x ∷ y ∷ z ∷ u ∷ v ∷ []) k ea eb ec ed ee ef eg = absurd (omega arith)
popped_is (x ∷ y ∷ z ∷ u ∷ v ∷ w ∷ []) k ea eb ec ed ee ef eg = absurd (omega arith)
popped_is (x ∷ y ∷ z ∷ u ∷ v ∷ w ∷ s ∷ []) k ea eb ec ed ee ef eg = absurd (omega arith)

-- ---- a test's arc

pub branch_is : (z x : ℤ) (y n m : ℕ) → SFits w32 z → z ≡ x → ((of_z w32 z ≡ 0) × (m ≡ n)) ⊎ ((of_z w32 z ≡ 0 → ⊥) × (m ≡ y)) → m ≡ pick (holds x) y n
branch_is z x y n m f e (inl h) = h.1 ∙ ap (λ (b : Bool). pick b y n) (sym (ap holds (sym e) ∙ holds_no z f h.0))
branch_is z x y n m f e (inr h) = h.1 ∙ ap (λ (b : Bool). pick b y n) (sym (ap holds (sym e) ∙ holds_yes z h.0))
