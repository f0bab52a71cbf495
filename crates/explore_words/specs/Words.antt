-- What the code finds that the words ask for.
use Rattle.std.specs.Prelude.{Result, Ok, Err}
use Rattle.machine.specs.Words.{Words, asks, unread}
use Rattle.exploring.specs.Program.{Word, Request, depth, bound, further}
use Rattle.explore_words.specs.declared.Word.{Word as Found}
use Rattle.explore_words.specs.declared.Word.TheVariants.{Depth, Bound, Further}
use Rattle.explore_words.specs.declared.Asked.{Asked}

-- a word by its name
abbrev pub word_of : Found → Word
word_of Depth = depth
word_of Bound = bound
word_of Further = further

abbrev pub asked_words : Result Asked Found → Words Word Request
asked_words (Ok a) = asks (record { depth = a.depth; bound = a.bound })
asked_words (Err w) = unread (word_of w)
