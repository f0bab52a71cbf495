-- The faults after all lines, with their lines, as the code finds them.
use Rattle.std.specs.Prelude.{ℕ, ◌≤◌, ◌<◌, Result, Ok, Err}
use Rattle.table.specs.Table.{proc_at}
use Rattle.table.specs.declared.Table.{Table}
use Rattle.text.specs.Reader.{Result as Reading, good, bad}
use Rattle.late_lines.specs.declared.At.{At}

-- what `late` asks of a table: its counts are in range
pub record Counted (t : Table) : Type 0 where
  pub tasks : t.tasks ≤ 4
  pub procs : t.procs ≤ 8
  pub nodes : (p : ℕ) → p < t.procs → (proc_at t p).nodes ≤ 32

abbrev pub late_in : Table → Result (Unit {0}) At → Reading
late_in t (Ok u) = good t
late_in t (Err a) = bad a.fault a.line
