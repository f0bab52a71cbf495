-- The words, behind their line where there is one.
use Rattle.std.proofs.Common.{rules}
use Rattle.reasons.specs.ReasonLaws.{unplaced, placed}
use Rattle.reasons.proofs.put_refusal.Goals as goal

pub returns-then-line-eq0 : goal.returns-then-line-eq0
returns-then-line-eq0 c = search (rules, unplaced)

pub returns : goal.returns
returns c = search (rules, placed)
