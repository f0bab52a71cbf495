-- The words, behind the steps completed.
use Rattle.std.proofs.Common.{rules}
use Rattle.reasons.specs.ReasonLaws.{stop_placed}
use Rattle.reasons.proofs.put_stop.Goals as goal

pub returns : goal.returns
returns c = search (rules, stop_placed)
