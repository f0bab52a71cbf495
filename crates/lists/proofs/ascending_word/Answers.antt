use Rattle.std.proofs.Common.{rules}
use Rattle.text.specs.Value.{ascending}
use Rattle.text.specs.Format.{set_of}
use Rattle.lists.specs.ListLaws.{field_missing, field_value}
use Rattle.lists.proofs.ascending_word.Goals as goal

pub returns-in_err-from : goal.returns-in_err-from
returns-in_err-from c = search (rules, field_missing (ascending c.args.one c.args.lo c.args.below) set_of c.in_err-from.ensures)

pub returns : goal.returns
returns c = field_value (ascending c.args.one c.args.lo c.args.below) set_of c.in_ok-from.ensures c.ascending_at.ensures
