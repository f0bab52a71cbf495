-- `explore_words::word_line` writes the line of a word.
use Rattle.std.proofs.Common.{arith}
use Rattle.explore_words.specs.WordsLaws.{line_of}
use Rattle.explore_words.proofs.word_line.Goals as goal

pub returns-in-Depth : goal.returns-in-Depth
returns-in-Depth c = line_of c.in-Depth.is (omega arith) c.put_bytes.ensures

pub returns-in-Bound : goal.returns-in-Bound
returns-in-Bound c = line_of c.in-Bound.is (omega arith) c.put_bytes-in-Bound.ensures

pub returns-in-Further : goal.returns-in-Further
returns-in-Further c = line_of c.in-Further.is (omega arith) c.put_bytes-in-Further.ensures
