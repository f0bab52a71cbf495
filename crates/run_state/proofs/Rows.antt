-- A row of variables whose first are inputs.
use mathlib.Core.Path.{◌≡◌, refl, sym, ◌∙◌, ap}
use mathlib.Core.List.{List, [], ◌∷◌}
use Prim.Native.Nat.{ℕ, zero, suc, ◌+◌, ◌≤◌}
use native.Mathlib.Omega.{arith}
use lib.ListN.{length, get_or, take, drop, length-drop}
use lib.Seq.{get_or-drop}
use lib.Dec.{ltb}
use lib.IntN.{ℤ, pos}
use Rattle.table.specs.Mask.{pick}
use Rattle.run_state.specs.Begins.{input_row}

abbrev four : ℤ → ℤ → ℤ → ℤ → List ℤ
four a b c d = a ∷ b ∷ c ∷ d ∷ pos 0 ∷ pos 0 ∷ pos 0 ∷ pos 0 ∷ pos 0 ∷ pos 0 ∷ pos 0 ∷ pos 0 ∷ pos 0 ∷ pos 0 ∷ pos 0 ∷ pos 0 ∷ []

abbrev or_zero : ℕ → ℕ → List ℤ → ℤ
or_zero i m l = pick (ltb i m) (get_or l i (pos 0)) (pos 0)

padded : (m : ℕ) (l : List ℤ) → m ≤ 4 → m ≤ length l → four (or_zero 0 m l) (or_zero 1 m l) (or_zero 2 m l) (or_zero 3 m l) ≡ input_row (take m l)
padded zero l h k = refl
padded (suc zero) [] h k = absurd (omega arith)
padded (suc zero) (a ∷ l) h k = refl
padded (suc (suc zero)) [] h k = absurd (omega arith)
padded (suc (suc zero)) (a ∷ []) h k = absurd (omega arith)
padded (suc (suc zero)) (a ∷ b ∷ l) h k = refl
padded (suc (suc (suc zero))) [] h k = absurd (omega arith)
padded (suc (suc (suc zero))) (a ∷ []) h k = absurd (omega arith)
padded (suc (suc (suc zero))) (a ∷ b ∷ []) h k = absurd (omega arith)
padded (suc (suc (suc zero))) (a ∷ b ∷ c ∷ l) h k = refl
padded (suc (suc (suc (suc zero)))) [] h k = absurd (omega arith)
padded (suc (suc (suc (suc zero)))) (a ∷ []) h k = absurd (omega arith)
padded (suc (suc (suc (suc zero)))) (a ∷ b ∷ []) h k = absurd (omega arith)
padded (suc (suc (suc (suc zero)))) (a ∷ b ∷ c ∷ []) h k = absurd (omega arith)
padded (suc (suc (suc (suc zero)))) (a ∷ b ∷ c ∷ d ∷ l) h k = refl
padded (suc (suc (suc (suc (suc m))))) l h k = absurd (omega arith)

abbrev input_at : List ℤ → ℕ → ℕ → ℕ → ℤ
input_at vs at i m = pick (ltb i m) (get_or vs at (pos 0)) (pos 0)

moved : (vs : List ℤ) (used i m : ℕ) → input_at vs (used + i) i m ≡ or_zero i m (drop used vs)
moved vs used i m = ap (λ (x : ℤ). pick (ltb i m) x (pos 0)) (sym (get_or-drop used vs i (pos 0)))

-- the four inputs, or 0
pub row_is : (m used : ℕ) (vs : List ℤ) {a b c d : ℤ} → m ≤ 4 → used + m ≤ length vs
    → a ≡ input_at vs used 0 m → b ≡ input_at vs (used + 1) 1 m → c ≡ input_at vs (used + 2) 2 m → d ≡ input_at vs (used + 3) 3 m
    → four a b c d ≡ input_row (take m (drop used vs))
row_is m used vs h k ea eb ec ed =
    let z : used + 0 ≡ used = omega arith in
    let fa = ea ∙ ap (λ (u : ℕ). input_at vs u 0 m) (sym z) ∙ moved vs used 0 m in
    let fb = eb ∙ moved vs used 1 m in
    let fc = ec ∙ moved vs used 2 m in
    let fd = ed ∙ moved vs used 3 m in
    (λ ι. four (fa ι) (fb ι) (fc ι) (fd ι)) ∙ padded m (drop used vs) h (omega (arith, length-drop used vs))
