use Rattle.std.proofs.Common.{rules}
use Rattle.text.specs.Reader.{sem_row}
use Rattle.rows.proofs.sem_rows.Goals as goal

pub returns : goal.returns
returns c = c.rows.ensures sem_row (λ p i r h k e. search rules)
