-- A value of a list, and the places from which a list is written.
use Rattle.std.specs.Prelude.{ℕ, ◌≤◌, List, ◌∷◌, eqb, ℤ}
use Rattle.table.specs.Mask.{pick}
use Rattle.machine.specs.Report.{spell_value}

-- a place from which a list of values ends low
abbrev pub ValuesAt : ℕ → Type 0
ValuesAt at = at ≤ 950000000

-- value i of a list, behind a comma but for the first
abbrev pub item_text : ℕ → ℤ → List ℕ
item_text i z = pick (eqb i 0) (spell_value z) (44 ∷ spell_value z)
