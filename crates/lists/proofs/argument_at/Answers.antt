use Rattle.std.proofs.Common.{rules}
use Rattle.lists.specs.PassingLaws.{argument_part, argument_fault}
use Rattle.lists.proofs.argument_at.Goals as goal

pub returns-in_err-v : goal.returns-in_err-v
returns-in_err-v c = search (rules, argument_fault c.args.closed c.args.vars c.comma-to.ensures c.in_err-v.ensures)

pub returns : goal.returns
returns c = argument_part _ _ c.comma-to.ensures c.in_ok-v.ensures
