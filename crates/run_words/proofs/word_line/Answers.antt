-- `run_words::word_line` writes the line of a word.
use Rattle.std.proofs.Common.{arith}
use Rattle.run_words.specs.WordsLaws.{line_of}
use Rattle.run_words.proofs.word_line.Goals as goal

pub returns-in-Schedule : goal.returns-in-Schedule
returns-in-Schedule c = line_of c.in-Schedule.is (omega arith) c.put_bytes.ensures

pub returns-in-Values : goal.returns-in-Values
returns-in-Values c = line_of c.in-Values.is (omega arith) c.put_bytes-in-Values.ensures

pub returns-in-Most : goal.returns-in-Most
returns-in-Most c = line_of c.in-Most.is (omega arith) c.put_bytes-in-Most.ensures

pub returns-in-Log : goal.returns-in-Log
returns-in-Log c = line_of c.in-Log.is (omega arith) c.put_bytes-in-Log.ensures

pub returns-in-Further : goal.returns-in-Further
returns-in-Further c = line_of c.in-Further.is (omega arith) c.put_bytes-in-Further.ensures
