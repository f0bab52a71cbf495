use Rattle.std.proofs.Common.{rules}
use Rattle.lists.specs.ShortLaws.{many_fits, many_is}
use Rattle.lists.proofs.many.Goals as goal

pub overflow_add-result : goal.overflow_add-result
overflow_add-result c = search (rules, many_fits)

pub returns-in-Some : goal.returns-in-Some
returns-in-Some c = search (rules, many_is)
