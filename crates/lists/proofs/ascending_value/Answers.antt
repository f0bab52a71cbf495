use Rattle.std.proofs.Common.{rules}
use Rattle.lists.specs.ListLaws.{list_none, list_rising}
use Rattle.lists.proofs.ascending_value.Goals as goal

pub returns-then-is_word : goal.returns-then-is_word
returns-then-is_word c = search (rules, list_none)

pub returns-else-is_word : goal.returns-else-is_word
returns-else-is_word c = search (rules, list_rising)
