use Rattle.std.proofs.Common.{refl}
use Rattle.fields.specs.FieldLaws.{feed_last, feed_stop}
use Rattle.records.proofs.open_queue.Goals as goal

pub returns-in_err-e : goal.returns-in_err-e
returns-in_err-e c = feed_stop c.in_err-e.ensures c.from_residual.ensures.1

pub returns : goal.returns
returns c = feed_last c.in_ok-e.ensures refl
