use Rattle.std.proofs.Common.{rules}
use Rattle.lists.specs.ListLaws.{single_bad, single_one}
use Rattle.lists.proofs.single.Goals as goal

pub returns-in_err-v : goal.returns-in_err-v
returns-in_err-v c = search (rules, single_bad c.args.t.now c.args.e c.args.lo c.args.below c.number.ensures c.in_err-v.ensures.value)

pub returns : goal.returns
returns c = single_one c.args.lo c.args.below c.args.t.now c.number.ensures c.in_ok-v.ensures.value c.requires c.one_of.ensures
