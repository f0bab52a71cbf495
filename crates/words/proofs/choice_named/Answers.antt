use Rattle.std.proofs.Common.{rules}
use Rattle.words.specs.WordLaws.{named_laws}
use Rattle.words.proofs.choice_named.Goals as goal

pub returns-then-is_word : goal.returns-then-is_word
returns-then-is_word c = search (rules, named_laws) depth 8

pub returns-then-is_word-2 : goal.returns-then-is_word-2
returns-then-is_word-2 c = search (rules, named_laws) depth 8

pub returns-else-is_word-2 : goal.returns-else-is_word-2
returns-else-is_word-2 c = search (rules, named_laws) depth 8
