-- `explore_words::explore_words` answers as the definition says: the two steps together.
use Rattle.explore_words.specs.WordsLaws.{answer_search, answer_unread}
use Rattle.explore_words.proofs.explore_words.Goals as goal

pub returns-in-Ok : goal.returns-in-Ok
returns-in-Ok c = answer_search _ _ _ c.in-Ok.ensures c.explore_asked.ensures

pub returns-in-Err : goal.returns-in-Err
returns-in-Err c = answer_unread _ _ _ c.in-Err.ensures c.word_line.ensures
