use Rattle.std.proofs.Common.{refl}
use Rattle.fields.specs.FieldLaws.{number_next, number_stop, feed_last, feed_stop}
use Rattle.records.proofs.sem_line.Goals as goal

pub returns-in_err-a : goal.returns-in_err-a
returns-in_err-a c = number_stop c.in_err-a.ensures c.from_residual.ensures.1

pub returns-in_err-n : goal.returns-in_err-n
returns-in_err-n c = number_next c.in_ok-a.ensures (number_stop c.in_err-n.ensures c.from_residual-in_err-n.ensures.1)

pub returns-in_err-e : goal.returns-in_err-e
returns-in_err-e c = number_next c.in_ok-a.ensures (number_next c.in_ok-n.ensures (feed_stop c.in_err-e.ensures c.from_residual-in_err-e.ensures.1))

pub returns : goal.returns
returns c = number_next c.in_ok-a.ensures (number_next c.in_ok-n.ensures (feed_last c.in_ok-e.ensures refl))
