use Rattle.std.proofs.Common.{rules}
use Rattle.words.specs.WordLaws.{op_told, op_untold}
use Rattle.words.proofs.any_operation.Goals as goal

pub returns-in_err-o : goal.returns-in_err-o
returns-in_err-o c = search (rules, op_untold c.in_ok-from.ensures c.operation_named.ensures c.in_err-o.ensures.value)

pub returns : goal.returns
returns c = op_told c.in_ok-from.ensures c.operation_named.ensures c.in_ok-o.ensures.value
