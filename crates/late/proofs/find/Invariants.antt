use Rattle.std.proofs.Common.{◌+◌, ◌*◌, ◌≤◌}
use Rattle.text.specs.Reader.{proc_late}
use Rattle.late_lines.specs.Walks.{Walked}
use Rattle.late.proofs.find.Given as goal

abbrev pub invariant-loop-q : goal.invariant-loop-q
invariant-loop-q l = (l.line ≤ 517 + 33 * l.q-index) × Walked (proc_late l.fn.t) l.fn.t.procs l.initial.line l.line l.q-index
