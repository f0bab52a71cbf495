-- `reader::blank_table` is all 0, also where it is stored into.
use Rattle.std.specs.Prelude.{◌%◌}
use Rattle.reader.specs.ReaderLaws.{blank_is, blank_made}
use Rattle.reader.proofs.blank_table.Goals as goal

pub returns : goal.returns
returns c = blank_is (c.args.k % 4) (blank_made (c.args.k % 32))
