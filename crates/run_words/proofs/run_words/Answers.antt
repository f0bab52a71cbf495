-- `run_words::run_words` answers as the definition says: the two steps together.
use Rattle.run_words.specs.WordsLaws.{answer_run, answer_unread}
use Rattle.run_words.proofs.run_words.Goals as goal

pub returns-in-Ok : goal.returns-in-Ok
returns-in-Ok c = answer_run _ _ _ _ _ c.in-Ok.ensures.says c.run_asked.ensures

pub returns-in-Err : goal.returns-in-Err
returns-in-Err c = answer_unread _ _ c.ask.new.schedule c.ask.new.values _ c.in-Err.ensures.says c.word_line.ensures
