use Rattle.std.proofs.Common.{rules}
use Rattle.text.specs.Reader.{task_row}
use Rattle.rows.proofs.task_rows.Goals as goal

pub returns : goal.returns
returns c = c.rows.ensures (task_row c.args.procs) (λ p i r h k e. search rules)
