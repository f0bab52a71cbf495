-- Whether bytes are a word, as `==` of slices tells.
use Rattle.std.specs.Prelude.{ℕ, ◌≡◌, refl, List, [], ◌∷◌, ◌&&◌, eqb}
use Rattle.std.proofs.Common.{ap}
use Rattle.std.specs.Cmp.Lexicographic.{pointwise}
use Rattle.text.specs.Value.{same}

pub word_same : (word t : List ℕ) → pointwise eqb word t ≡ same word t
unfolding same
word_same [] [] = refl
word_same [] (y ∷ t) = refl
word_same (x ∷ word) [] = refl
word_same (x ∷ word) (y ∷ t) = ap (λ b. eqb x y && b) (word_same word t)
