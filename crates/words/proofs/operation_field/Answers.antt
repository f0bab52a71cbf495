use Rattle.std.proofs.Common.{rules}
use Rattle.words.specs.WordLaws.{field_missing, field_stops, field_fails, field_is}
use Rattle.text.specs.Value.{operation, check}
use Rattle.words.proofs.operation_field.Goals as goal

pub returns-in_err-b : goal.returns-in_err-b
returns-in_err-b c = search (rules, field_missing (operation c.args.test) c.in_err-b.ensures)

pub returns-in_err-o : goal.returns-in_err-o
returns-in_err-o c = search (rules, field_stops c.in_ok-b.ensures (operation c.args.test) (c.in_err-o.ensures.read c.args.test))

pub returns-in_err-operation_check : goal.returns-in_err-operation_check
unfolding check
returns-in_err-operation_check c = search (rules, field_fails c.in_ok-b.ensures (operation c.args.test) (c.in_ok-o.ensures.read c.args.test) c.in_err-operation_check.ensures)

pub returns : goal.returns
unfolding check
returns c = field_is c.in_ok-b.ensures (operation c.args.test) (c.in_ok-o.ensures.read c.args.test) c.in_ok-operation_check.ensures
