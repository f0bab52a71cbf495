use Rattle.std.proofs.Common.{ℕ, ◌≤◌, ◌<◌, ◌+◌, length, replicate}
use Rattle.text.specs.Line.{Parser}
use Rattle.rows.specs.Rows.{RowAt}
use Rattle.rows.specs.RowLaws.{Rowing}
use Rattle.rows.proofs.rows.Given as goal

abbrev pub invariant-loop-i : goal.invariant-loop-i
invariant-loop-i g l = record {
  place : l.p ≤ length l.s;
  lines : l.l ≤ l.line + l.i;
  rows : (f : ℕ → Parser g.row.T.Denot) → ((p i : ℕ) (r : _) → p ≤ length l.s → i < l.n → goal.F-post g l.row p i r → RowAt (f i) l.s p r) → Rowing f l.n (replicate g.row.N l.fn.none) l.s l.at l.line l.places l.p l.l l.i;
}
