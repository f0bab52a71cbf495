use Rattle.std.proofs.Common.{rules}
use Rattle.digits.specs.LessLaws.{less_value}
use Rattle.digits.proofs.less.Goals as goal

pub returns : goal.returns
returns c = search (rules, less_value c.args.a.now c.args.b.now c.requires.0 c.requires.1)
