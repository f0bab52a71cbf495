-- Reachability in a finite graph that is given by the list of its edges: the least set, and a function that computes it.
use Rattle.std.specs.Prelude.{ℕ, zero, suc, Bool, true, false, length}
use mathlib.Core.List.{List, [], ◌∷◌, Memᴰ}

-- The least set that has the sources and, with an edge's first end, its second.
pub data Reach {A : Type 0} (src : List A) (es : List (A × A)) : A → Type 0 where
  source : {a : A} → Memᴰ a src → Reach src es a
  edge : {a b : A} → Memᴰ (a, b) es → Reach src es a → Reach src es b

module _ {A : Type 0} (same : A → A → Bool) where
  unfoldable pub mem : A → List A → Bool
  mem x [] = false
  mem x (y ∷ s) = elim (same x y) [ true ↦ true | false ↦ mem x s ]

  unfoldable pub add : A → List A → List A
  add x s = elim (mem x s) [ true ↦ s | false ↦ x ∷ s ]

  -- One sweep over the edges: the set grown by the edges that apply, and the edges that did not.
  unfoldable pub grown : List A → List (A × A) → List A
  grown s [] = s
  grown s (e ∷ es) = elim (mem e.0 s) [ true ↦ grown (add e.1 s) es | false ↦ grown s es ]

  unfoldable pub rest : List A → List (A × A) → List (A × A)
  rest s [] = []
  rest s (e ∷ es) = elim (mem e.0 s) [ true ↦ rest (add e.1 s) es | false ↦ let r = rest s es in e ∷ r ]

  unfoldable pub stuck : List A → List (A × A) → Bool
  stuck s [] = true
  stuck s (e ∷ es) = elim (mem e.0 s) [ true ↦ false | false ↦ stuck s es ]

  -- Sweeps until no edge applies. An edge that applied is not looked at again, so there are at most as many sweeps as edges.
  unfoldable pub sweeps : ℕ → List A → List (A × A) → List A
  sweeps zero s es = s
  sweeps (suc d) s es = elim (stuck s es) [ true ↦ s | false ↦ sweeps d (grown s es) (rest s es) ]

  unfoldable pub closure : List A → List (A × A) → List A
  closure s es = sweeps (length es) s es
