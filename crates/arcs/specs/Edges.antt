-- The places from which arcs are written.
use Rattle.std.specs.Prelude.{ℕ, ◌≤◌}

-- Bounds of a place, so that the place after what is written there stays a small number: for an arc, and for all of a node's.
abbrev pub ArcAt : ℕ → Type 0
ArcAt at = at ≤ 999000000

abbrev pub NodeAt : ℕ → Type 0
NodeAt at = at ≤ 998000000
