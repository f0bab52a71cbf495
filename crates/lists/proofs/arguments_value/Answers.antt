use Rattle.std.proofs.Common.{rules}
use Rattle.lists.specs.PassingLaws.{passed_none, passed_some}
use Rattle.lists.proofs.arguments_value.Goals as goal

pub returns-then-is_word : goal.returns-then-is_word
returns-then-is_word c = search (rules, passed_none)

pub returns-else-is_word : goal.returns-else-is_word
returns-else-is_word c = search (rules, passed_some)
