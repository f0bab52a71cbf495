-- What the reader of short numbers that ascend answers.
use Rattle.std.specs.Prelude.{ℕ, zero, suc, ◌+◌, List, leb, eqb, length, get_or, Option, Some, None}
use Rattle.table.specs.Mask.{pick}
use Rattle.text.specs.Line.{stops}
use Rattle.numbers.specs.Numerals.{short_of}
use Rattle.lists.specs.Items.{bit_of}

-- an item that is short goes on as said; any other is read another way
abbrev pub on_short : Option (ℕ × ℕ) → (ℕ → ℕ → Option (ℕ × ℕ)) → Option (ℕ × ℕ)
on_short (Some (v, to)) f = f v to
on_short None f = None

-- behind the items up to a place, of the set m: the list ends before the byte c, or goes on behind a comma
abbrev pub ended_by : ℕ → ℕ → ℕ → Option (ℕ × ℕ) → Option (ℕ × ℕ)
ended_by c m to rest = pick (stops c) (Some (m, to)) (pick (eqb c 44) rest None)

-- the items from a place on, of which each is short and above the set m of those before; the first argument bounds their count
unfoldable pub quick_from : ℕ → ℕ → ℕ → List ℕ → ℕ → ℕ → Option (ℕ × ℕ)
quick_from zero lo n u from m = None
quick_from (suc k) lo n u from m =
    on_short (short_of u from) (λ v to.
    pick (leb (bit_of lo n v) m) None (ended_by (get_or u to 0) (m + bit_of lo n v) to (quick_from k lo n u (to + 1) (m + bit_of lo n v))))

-- the list at a text's start
unfoldable pub quick_of : ℕ → ℕ → List ℕ → Option (ℕ × ℕ)
quick_of lo n u = quick_from (length u) lo n u 0 0
