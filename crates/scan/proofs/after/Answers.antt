use Rattle.std.proofs.Common.{rules}
use Rattle.scan.specs.PlaceLaws.{matching_short, matching_differs, matching_turn, matching_end}
use Rattle.scan.proofs.after.Goals as goal

pub returns-then-s-i : goal.returns-then-s-i
returns-then-s-i c = search (rules, matching_short)

pub returns-then-b-s : goal.returns-then-b-s
returns-then-b-s c = search (rules, matching_differs)

pub loop-j-preserved : goal.loop-j-preserved
loop-j-preserved c = search (rules, matching_turn)

pub returns : goal.returns
returns c = search (rules, matching_end)
