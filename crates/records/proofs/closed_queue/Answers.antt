use Rattle.std.proofs.Common.{refl}
use Rattle.fields.specs.FieldLaws.{word_next, word_stop, feed_last, feed_stop}
use Rattle.records.proofs.closed_queue.Goals as goal

pub returns-in_err-blank : goal.returns-in_err-blank
returns-in_err-blank c = word_stop c.in_err-blank.ensures c.from_residual.ensures.1

pub returns-in_err-e : goal.returns-in_err-e
returns-in_err-e c = word_next c.in_ok-blank.ensures (feed_stop c.in_err-e.ensures c.from_residual-in_err-e.ensures.1)

pub returns : goal.returns
returns c = word_next c.in_ok-blank.ensures (feed_last c.in_ok-e.ensures refl)
