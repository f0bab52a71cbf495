-- The words of a program, read from the left.
use Rattle.std.specs.Prelude.{ℕ, Bool, List, [], ◌∷◌, ◌++◌, eqb, leb, take}
use Rattle.std.proofs.Math.Option.{Option, none, some}
use Rattle.table.specs.Mask.{pick}
use Rattle.text.specs.Value.{numeral}

-- ---- what a word says, spelt as in a table's text

-- what was said, if it passes a test
abbrev pub filtered : {A : Type 0} → (A → Bool) → Option A → Option A
filtered f none = none
filtered f (some a) = pick (f a) (some a) none

-- a number up to m
unfoldable pub said_up_to : ℕ → List ℕ → Option ℕ
said_up_to m s = filtered (λ n. leb n m) (numeral s)

-- the word that a file stands for: its bytes, with a comma for each LF, but none for an LF at the end
unfoldable pub file_word : List ℕ → List ℕ
file_word [] = []
file_word (b ∷ []) = pick (eqb b 10) [] (b ∷ [])
file_word (b ∷ c ∷ s) = pick (eqb b 10) 44 b ∷ file_word (c ∷ s)

-- ---- what words ask for: W names a word, R is a request

pub data Words (W R : Type 0) : Type 0 where
  asks : R → Words W R
  -- the first word that can't be read, is missing or is too many
  unread : W → Words W R

module _ {W R : Type 0} where
  abbrev pub or_unread : {A : Type 0} → W → Option A → (A → Words W R) → Words W R
  or_unread w none go = unread w
  or_unread w (some a) go = go a

  -- the next word, then those after it
  abbrev pub next : {A : Type 0} → W → (List ℕ → Option A) → List (List ℕ) → (A → List (List ℕ) → Words W R) → Words W R
  next w f [] go = unread w
  next w f (x ∷ xs) go = or_unread w (f x) (λ a. go a xs)

  -- no further word
  abbrev pub last : W → R → List (List ℕ) → Words W R
  last w q [] = asks q
  last w q (x ∷ xs) = unread w

-- n words, of which the first are given; of any further it counts only that there is one
abbrev pub given : ℕ → List (List ℕ) → List (List ℕ)
given n ws = take n (ws ++ ([] ∷ []))

-- ---- what a program answers: a text that it prints, or what it says in its place on the standard error stream

pub data Answer : Type 0 where
  prints : List ℕ → Answer
  says : List ℕ → Answer
