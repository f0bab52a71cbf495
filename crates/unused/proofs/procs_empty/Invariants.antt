use Rattle.std.proofs.Common.{◌≡◌, ℕ, ◌<◌, true, get_or}
use Rattle.table.specs.Table.{outside}
use Rattle.text.specs.Writer.{proc_empty}
use Rattle.unused.proofs.procs_empty.Given as goal

abbrev pub invariant-loop-q : goal.invariant-loop-q
invariant-loop-q l = (k : ℕ) → k < l.q-index → proc_empty (get_or l.procs k outside) ≡ true
