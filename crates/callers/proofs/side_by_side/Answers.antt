-- `callers::side_by_side` answers both runs, and demand 3 holds of them: `closed_calls` is applied to what `close` and `run` ensure.
use Rattle.callers.specs.SideBySideLaws.{beside_is, beside_log, beside_agrees}
use Rattle.callers.proofs.side_by_side.Goals as goal

pub returns : goal.returns
returns c = record { answer = beside_is _ _ c.close-c.ensures _ _ _ _ _ _ (record { answered = c.run-original.ensures.answer; logged = c.run-original.ensures.log }) _ _ _ _ _ (record { answered = c.run-closed.ensures.answer; logged = c.run-closed.ensures.log }); log = c.run-original.ensures.log; log2 = beside_log _ _ c.close-c.ensures _ _ _ _ _ _ (record { answered = c.run-original.ensures.answer; logged = c.run-original.ensures.log }) _ _ _ _ _ (record { answered = c.run-closed.ensures.answer; logged = c.run-closed.ensures.log }); demand_3 = beside_agrees _ _ c.close-c.ensures _ _ _ _ _ _ (record { answered = c.run-original.ensures.answer; logged = c.run-original.ensures.log }) _ _ _ _ _ (record { answered = c.run-closed.ensures.answer; logged = c.run-closed.ensures.log }) }
