-- What is said is said by the line that was read.
use Rattle.reasons.specs.ReasonLaws.{stop_said, stop_unsaid}
use Rattle.reasons.proofs.explain_stop.Goals as goal

pub returns-in-Some : goal.returns-in-Some
returns-in-Some c = stop_said c.in-Some.ensures c.put_stop.ensures

pub returns-in-None : goal.returns-in-None
returns-in-None c = stop_unsaid c.in-None.ensures
