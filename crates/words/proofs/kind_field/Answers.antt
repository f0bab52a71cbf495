use Rattle.std.proofs.Common.{rules}
use Rattle.words.specs.WordLaws.{field_missing, field_stops, field_fails, field_is}
use Rattle.text.specs.Value.{kind, check}
use Rattle.words.proofs.kind_field.Goals as goal

pub returns-in_err-b : goal.returns-in_err-b
returns-in_err-b c = search (rules, field_missing (kind c.args.closed c.args.j) c.in_err-b.ensures)

pub returns-in_err-k : goal.returns-in_err-k
returns-in_err-k c = search (rules, field_stops c.in_ok-b.ensures (kind c.args.closed c.args.j) (c.in_err-k.ensures.read c.args.closed c.args.j))

pub returns-in_err-kind_check : goal.returns-in_err-kind_check
unfolding check
returns-in_err-kind_check c = search (rules, field_fails c.in_ok-b.ensures (kind c.args.closed c.args.j) (c.in_ok-k.ensures.read c.args.closed c.args.j) c.in_err-kind_check.ensures)

pub returns : goal.returns
unfolding check
returns c = field_is c.in_ok-b.ensures (kind c.args.closed c.args.j) (c.in_ok-k.ensures.read c.args.closed c.args.j) c.in_ok-kind_check.ensures
