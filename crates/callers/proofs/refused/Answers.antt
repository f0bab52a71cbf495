-- `callers::refused` answers a refusal's number with a table all 0, which is that of an empty text.
use Rattle.std.proofs.Common.{ap}
use Rattle.table.specs.declared.Table.{Table}
use Rattle.callers.specs.WrittenAndReadLaws.{empty_table}
use Rattle.callers.proofs.refused.Goals as goal

pub returns : goal.returns
returns c = ap (λ (x : Table). record { number = c.args.number; line = 0; table = x }) (empty_table c.read-none.ensures)
