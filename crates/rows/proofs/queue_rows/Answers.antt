use Rattle.std.proofs.Common.{rules}
use Rattle.text.specs.Reader.{queue_row}
use Rattle.rows.proofs.queue_rows.Goals as goal

pub returns : goal.returns
returns c = c.rows.ensures (queue_row c.args.closed) (λ p i r h k e. search rules)
