-- `reader::front_of` refuses a text that is too long, and reads the lines before the procedures of any other.
use Rattle.std.proofs.Common.{rules}
use Rattle.reader.specs.ReaderLaws.{front_long, front_lines}
use Rattle.reader.proofs.front_of.Goals as goal

pub returns-then-s-gt65536 : goal.returns-then-s-gt65536
returns-then-s-gt65536 c = search (rules, front_long)

pub returns : goal.returns
returns c = search (rules, front_lines)
