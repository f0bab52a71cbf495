-- What calls of a closure write, for the functions that call it. The first argument is the closure's `pre` or `post`: after the closure it
-- takes the buffer, then a place and a row's number where there are such, and then the place after and the buffer after.
use Rattle.std.specs.Prelude.{ℕ, ◌+◌, ◌*◌, ◌≤◌, ◌<◌, ◌≡◌, List, length}
use Rattle.std.specs.Borrow.{MutBor}
use Rattle.put.specs.Put.{Put}

-- n rows of at most k bytes each: each may be written behind those before it, is no longer than k, and row i is f i
abbrev pub TakesRows : (MutBor (List ℕ) → ℕ → ℕ → Type 0) → ℕ → ℕ → ℕ → Type 0
TakesRows pre k n at = (i : ℕ) (o : MutBor (List ℕ)) (p : ℕ) → i < n → p ≤ at + k * i → pre o p i

abbrev pub ShortRows : (MutBor (List ℕ) → ℕ → ℕ → ℕ → MutBor (List ℕ) → Type 0) → ℕ → ℕ → Type 0
ShortRows post k n = (i : ℕ) (o : MutBor (List ℕ)) (p r : ℕ) (q : MutBor (List ℕ)) → i < n → post o p i r q → r ≤ p + k

abbrev pub WritesRows : (MutBor (List ℕ) → ℕ → ℕ → ℕ → MutBor (List ℕ) → Type 0) → ℕ → ℕ → (ℕ → List ℕ) → Type 0
WritesRows post k n f = (i : ℕ) (o : MutBor (List ℕ)) (p r : ℕ) (q : MutBor (List ℕ)) → i < n → post o p i r q → Put k o.now p (f i) q.now r

-- a text of at most k bytes at the start of a buffer of n: it may be written there, is no longer than n, and is t
abbrev pub TakesBuffer : (MutBor (List ℕ) → Type 0) → ℕ → Type 0
TakesBuffer pre n = (o : MutBor (List ℕ)) → length o.now ≡ n → pre o

abbrev pub FillsShort : (MutBor (List ℕ) → ℕ → MutBor (List ℕ) → Type 0) → ℕ → Type 0
FillsShort post n = (o : MutBor (List ℕ)) (r : ℕ) (q : MutBor (List ℕ)) → length o.now ≡ n → post o r q → r ≤ n

abbrev pub Fills : (MutBor (List ℕ) → ℕ → MutBor (List ℕ) → Type 0) → ℕ → ℕ → List ℕ → Type 0
Fills post n k t = (o : MutBor (List ℕ)) (r : ℕ) (q : MutBor (List ℕ)) → length o.now ≡ n → post o r q → Put k o.now 0 t q.now r
