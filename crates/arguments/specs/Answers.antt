-- What the readers of the words answer, and a program.
use Rattle.std.specs.Prelude.{ℕ, List, [], ◌∷◌, leb, length, None, Some}
use Rattle.std.specs.Prelude.{Option as Heard}
use Rattle.std.proofs.Math.Option.{Option, none, some}
use Rattle.table.specs.Mask.{pick}
use Rattle.text.specs.Number.{bytes, all_digits, value}
use Rattle.text.specs.Value.{same, split}
use Rattle.put.specs.Put.{Put}
use Rattle.machine.specs.Words.{filtered, prints, says}
use Rattle.machine.specs.Words.{Answer as Answered}
use Rattle.arguments.specs.declared.Answer.{Answer}
use Rattle.arguments.specs.declared.Answer.TheVariants.{Prints, Says}

-- what a word says, as the code's option
abbrev pub answer_of : {A : Type 0} → Option A → Heard A
answer_of none = None
answer_of (some a) = Some a

-- how many items a list has
abbrev pub count_of : {A : Type 0} → Option (List A) → Option ℕ
count_of none = none
count_of (some xs) = some (length xs)

-- the number that digits say, if it is at most m
unfoldable pub digits_up_to : ℕ → List ℕ → Option ℕ
digits_up_to m t = filtered (λ n. leb n m) (pick (all_digits t) (some (value t)) none)

-- what the items say, before the first that says nothing
abbrev pub before : {A : Type 0} → Option A → List A → List A
before none xs = []
before (some x) xs = x ∷ xs

unfoldable pub leading_of : {A : Type 0} → (List ℕ → Option A) → List (List ℕ) → List A
leading_of f [] = []
leading_of f (s ∷ ss) = before (f s) (leading_of f ss)

abbrev pub leading : {A : Type 0} → (List ℕ → Option A) → List ℕ → List A
leading f s = pick (same (bytes "none") s) [] (leading_of f (split s))

-- the text, of at most k bytes, or what is said in its place, stands in the buffer, as far as that reaches
abbrev pub AnswerPut : ℕ → List ℕ → Answered → List ℕ → Answer → Type 0
AnswerPut k l (prints t) m (Prints n) = Put k l 0 t m n
AnswerPut k l (prints t) m (Says n) = ⊥
AnswerPut k l (says t) m (Prints n) = ⊥
AnswerPut k l (says t) m (Says n) = Put k l 0 t m n

abbrev pub length_of : Answer → ℕ
length_of (Prints n) = n
length_of (Says n) = n
