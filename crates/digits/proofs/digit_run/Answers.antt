use Rattle.std.proofs.Common.{rules}
use Rattle.digits.specs.ReadLaws.{starts, leaves, turns, ends}
use Rattle.digits.proofs.digit_run.Goals as goal

pub loop-b-init : goal.loop-b-init
loop-b-init c = starts _

pub returns-then-not-is_ascii_digit : goal.returns-then-not-is_ascii_digit
returns-then-not-is_ascii_digit c = search (rules, leaves)

pub loop-b-preserved : goal.loop-b-preserved
loop-b-preserved c = search (rules, turns)

pub returns : goal.returns
returns c = search (rules, ends)
