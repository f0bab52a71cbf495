-- The masks of the nodes that count as kept.
use Rattle.std.specs.Prelude.{ℕ, ◌<◌, ◌≡◌, Bool, true, false, List, get_or, replicate}
use Rattle.std.proofs.Common.{sym, ◌∙◌, ap}
use Rattle.table.specs.Mask.{bit}
use Rattle.table.specs.declared.Table.{Table}
use Rattle.machine.specs.Step.{kept_of, kept_in}
use Rattle.machine.proofs.KeptLaws.{masks_closed}
use Rattle.analysis.specs.Decides.{KeptMasks}

-- bit n of mask p says whether node n of procedure p counts as kept
pub record Keeps (t : Table) (r : List ℕ) : Type 0 where
  pub keeps : (p n : ℕ) → p < 8 → n < 32 → bit n (get_or r p 0) ≡ kept_in t p n

-- "in a closed table every node counts as kept"
pub all_kept : (t : Table) → t.closed ≡ true → Keeps t (replicate 8 4294967295)
all_kept t e = record { keeps = masks_closed t e }

pub open_kept : (t : Table) (r : List ℕ) → t.closed ≡ false → KeptMasks t r → Keeps t r
open_kept t r e k = record { keeps = λ p n l m. k.right p n l m ∙ ap (λ (b : Bool). kept_of t b p n) (sym e) }
