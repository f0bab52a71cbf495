-- `reader::refused` answers a fault's number and line with a table all 0.
use Rattle.reader.specs.ReaderLaws.{refused_is}
use Rattle.reader.proofs.refused.Goals as goal

pub returns : goal.returns
returns c = refused_is _ c.number.ensures c.blank_table.ensures
