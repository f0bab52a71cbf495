use Rattle.std.proofs.Common.{rules}
use Rattle.writer.specs.Table.{procs_bytes}
use Rattle.writer.specs.TableLaws.{table_rows}
use Rattle.writer.proofs.put_table.Goals as goal

pub returns : goal.returns
returns c = table_rows c.args.t c.requires c.put_front-p.ensures (c.put_rows.ensures.rows (procs_bytes c.args.t.closed c.args.t.proc) (search rules))
