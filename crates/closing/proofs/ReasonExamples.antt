-- What the closing program says of a text that ends early, of a misspelt number, and of a table that is closed already.
use Rattle.std.specs.Prelude.{ℕ, ◌≡◌, refl, List, [], ◌∷◌, ◌++◌}
use Rattle.text.specs.Number.{bytes}
use Rattle.closing.specs.Program.{printed}
use Rattle.closing.specs.Reasons.{reason, explained}
use Rattle.closing.proofs.Computing.{computing}
use Rattle.closing.proofs.Examples.{joined}

-- what is printed for a text, and what is said of it
abbrev Says : List ℕ → List ℕ → List ℕ → Type 0
Says s out words = (printed s ≡ out) × (explained out ≡ words)

cut : Says (joined ("trap=1 form=open" ∷ "tasks=1 procs=1 sems=0 queues=0" ∷ []) ++ bytes "task=0 to") (bytes "refused=20 line=3\n") (bytes "line 3: the text ends early, or carries on after its last line\n")
unfolding computing explained reason
cut = (refl, refl)

misspelt : Says (joined ("trap=1 form=open" ∷ "tasks=01 procs=1 sems=0 queues=0" ∷ [])) (bytes "refused=19 line=2\n") (bytes "line 2: misspelt number, operand or list, or a list out of order\n")
unfolding computing explained reason
misspelt = (refl, refl)

closed_already : Says (joined ("trap=1 form=closed" ∷ "tasks=1 procs=1 sems=0 queues=0" ∷ "task=0 top=0" ∷ "proc=0 params=0 vars=0 nodes=2 drop=none" ∷ "node=0 kind=start to=1" ∷ "node=1 kind=return" ∷ []))
    (bytes "refused=9 line=0\n")
    (bytes "the table has the wrong form: an open one can be closed, a closed one explored\n")
unfolding computing explained reason
closed_already = (refl, refl)
