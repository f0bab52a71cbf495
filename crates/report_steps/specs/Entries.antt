-- What an entry of a run's log has: a task, a procedure and a flag of one digit, and a node of at most two.
use Rattle.std.specs.Prelude.{ℕ, ◌<◌, List}
use Rattle.machine.specs.Report.{logged}

pub record Entered (log : List ℕ) (i : ℕ) : Type 0 where
  pub task : logged log i 0 < 10
  pub proc : logged log i 1 < 10
  pub node : logged log i 2 < 100
  pub flag : logged log i 3 < 10
