use Rattle.closer.specs.TableLaws.{table_is}
use Rattle.closer.proofs.closed_table.Goals as goal

pub returns : goal.returns
returns c = table_is _ c.requires _ c.dirty_cells-cells.ensures _ _ c.closed_procs.ensures c.closed_queues.ensures
