-- What writing a state and a report asks for.
use Rattle.std.specs.Prelude.{ℕ, ◌*◌, ◌<◌, ◌≤◌, List, length}
use Rattle.table.specs.declared.Table.{Table}
use Rattle.machine.specs.declared.State.{State}
use Rattle.machine.specs.declared.Running.{Running}
use Rattle.report_steps.specs.Entries.{Entered}
use Rattle.report_tasks.specs.Rows.{Few}

-- no count passes its array
pub record Shown (t : Table) (s : State) : Type 0 where
  pub tasks : t.tasks ≤ 4
  pub sems : t.sems ≤ 8
  pub queues : t.queues ≤ 8
  pub depth : Few s.depth

-- and each step is in the log, of at most 100,000
pub record Reportable (t : Table) (r : Running) (log : List ℕ) : Type 0 where
  pub shown : Shown t r.state
  pub steps : r.steps ≤ 100000
  pub logged : 8 * r.steps ≤ length log
  pub entries : (i : ℕ) → i < r.steps → Entered log i
