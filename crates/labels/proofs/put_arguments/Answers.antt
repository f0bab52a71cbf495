use Rattle.std.proofs.Common.{rules}
use Rattle.labels.specs.Label.{argument_text}
use Rattle.labels.proofs.put_arguments.Goals as goal

pub returns : goal.returns
returns c = c.put_rows.ensures.rows (argument_text c.args.x) (search rules)
