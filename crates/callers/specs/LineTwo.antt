-- What `line_two` answers, and line 2 of the sheet.
use Rattle.std.specs.Prelude.{ℕ, ◌≡◌}
use Rattle.std.proofs.Common.{◌∙◌, ap}
use Rattle.table.specs.declared.Table.{Table}
use Rattle.closing.specs.declared.Closing.{Closing}
use Rattle.closing.specs.Close.{close}
use Rattle.exploring.specs.declared.Found.TheVariants.{Nothing}
use Rattle.exploring.specs.declared.Exploring.{Exploring}
use Rattle.exploring.specs.Explore.{explore}
use Rattle.promise.specs.Explored.{Clear}
use Rattle.promise.proofs.Calls.{explored_calls}
use Rattle.callers.specs.declared.Sheet.{Sheet}

abbrev pub sheet : ℕ → Exploring → Sheet
sheet n r = record { number = n; explored = r }

abbrev pub sheet_of : Table → ℕ → ℕ → Sheet
sheet_of t depth bound = let c = close t in sheet c.number (explore c.table depth bound)

-- the closer accepts the table, and nothing is found
abbrev pub Clears : Table → ℕ → Sheet → Type 0
Clears t depth r = r.number ≡ 0 → r.explored.number ≡ 0 → r.explored.found ≡ Nothing → Clear t depth

-- from what the two calls ensure
module _ (t : Table) (depth bound : ℕ) {c : Closing} {r : Exploring} (closed : c ≡ close t) (explored : r ≡ explore c.table depth bound) where
  pub sheet_is : sheet c.number r ≡ sheet_of t depth bound
  sheet_is = ap (sheet c.number) explored ∙ ap (λ (c : Closing). sheet c.number (explore c.table depth bound)) closed

  pub sheet_clears : Clears t depth (sheet c.number r)
  sheet_clears ok sound none = explored_calls t c closed ok depth bound r explored sound none
