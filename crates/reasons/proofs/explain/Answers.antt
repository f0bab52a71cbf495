-- What is said is said by the line that was read.
use Rattle.reasons.specs.ReasonLaws.{refusal_said, refusal_unsaid}
use Rattle.reasons.proofs.explain.Goals as goal

pub returns-in-Some : goal.returns-in-Some
returns-in-Some c = refusal_said c.in-Some.ensures c.put_refusal.ensures

pub returns-in-None : goal.returns-in-None
returns-in-None c = refusal_unsaid c.in-None.ensures c.explain_stop.ensures
