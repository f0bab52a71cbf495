use Rattle.std.proofs.Common.{◌+◌, ◌≤◌}
use Rattle.table.specs.Table.{node_in}
use Rattle.late_lines.specs.Places.{node_late_by}
use Rattle.late_lines.specs.Walks.{Walked}
use Rattle.late_lines.proofs.nodes.Given as goal

abbrev pub invariant-loop-s : goal.invariant-loop-s
invariant-loop-s l = (l.l ≤ l.line + l.s-index) × Walked (λ n. node_late_by l.c l.m (node_in l.fn.q n)) l.fn.q.nodes l.line l.l l.s-index
