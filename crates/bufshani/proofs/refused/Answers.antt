use Rattle.closed_text.specs.CloseLaws.{refusal_is}
use Rattle.bufshani.proofs.refused.Goals as goal

pub returns : goal.returns
returns c = refusal_is c.args.n c.no_table-table.result c.no_table-table.ensures
