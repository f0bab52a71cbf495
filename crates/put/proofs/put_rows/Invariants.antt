use Rattle.std.proofs.Common.{ℕ, List, ◌≤◌, ◌+◌, ◌*◌}
use Rattle.put.specs.Calls.{WritesRows}
use Rattle.put.specs.RowLaws.{PutRows}
use Rattle.put.proofs.put_rows.Given as goal

abbrev pub invariant-loop-i : goal.invariant-loop-i
invariant-loop-i g l = (l.p ≤ l.at + g.row.MOST * l.i) × ((f : ℕ → List ℕ) → WritesRows (goal.F-post g l.row) g.row.MOST l.n f → PutRows g.row.MOST f l.fn.out l.at l.out l.p l.i)
