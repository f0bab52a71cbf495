-- What an exploration prints into a buffer, unless its bound is met.
use Rattle.std.specs.Prelude.{ℕ, ◌≡◌, List, Option, Some, None}
use Rattle.table.specs.declared.Table.{Table}
use Rattle.exploring.specs.Explore.{explore}
use Rattle.exploring.specs.Program.{explored_text}
use Rattle.put.specs.Put.{Put}

-- the answer is printed, and it is not 18
pub record Answered (t : Table) (depth bound : ℕ) (out out' : List ℕ) (len : ℕ) : Type 0 where
  pub printed : Put 131072 out 0 (explored_text t depth bound) out' len
  pub enough : (explore t depth bound).number ≡ 18 → ⊥

-- or it is 18, and the buffer is as before
pub record Met (t : Table) (depth bound : ℕ) (out out' : List ℕ) : Type 0 where
  pub met : (explore t depth bound).number ≡ 18
  pub same : out' ≡ out

abbrev pub Prints : Table → ℕ → ℕ → List ℕ → List ℕ → Option ℕ → Type 0
Prints t depth bound out out' (Some len) = Answered t depth bound out out' len
Prints t depth bound out out' None = Met t depth bound out out'
