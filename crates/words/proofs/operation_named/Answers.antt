use Rattle.std.proofs.Common.{rules}
use Rattle.words.specs.WordLaws.{named_laws}
use Rattle.words.proofs.operation_named.Goals as goal

pub returns-then-is_word : goal.returns-then-is_word
returns-then-is_word c = search (rules, named_laws) depth 20

pub returns-then-is_word-2 : goal.returns-then-is_word-2
returns-then-is_word-2 c = search (rules, named_laws) depth 20

pub returns-then-is_word-3 : goal.returns-then-is_word-3
returns-then-is_word-3 c = search (rules, named_laws) depth 20

pub returns-then-is_word-4 : goal.returns-then-is_word-4
returns-then-is_word-4 c = search (rules, named_laws) depth 20

pub returns-then-is_word-5 : goal.returns-then-is_word-5
returns-then-is_word-5 c = search (rules, named_laws) depth 20

pub returns-then-is_word-6 : goal.returns-then-is_word-6
returns-then-is_word-6 c = search (rules, named_laws) depth 20

pub returns-then-is_word-7 : goal.returns-then-is_word-7
returns-then-is_word-7 c = search (rules, named_laws) depth 20

pub returns-then-is_word-8 : goal.returns-then-is_word-8
returns-then-is_word-8 c = search (rules, named_laws) depth 20

pub returns-else-is_word-8 : goal.returns-else-is_word-8
returns-else-is_word-8 c = search (rules, named_laws) depth 20
