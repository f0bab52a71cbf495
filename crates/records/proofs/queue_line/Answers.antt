use Rattle.fields.specs.FieldLaws.{number_next, number_stop}
use Rattle.records.specs.LineLaws.{queue_form}
use Rattle.records.proofs.queue_line.Goals as goal

pub returns-in_err-a : goal.returns-in_err-a
returns-in_err-a c = record { is = number_stop c.in_err-a.ensures c.from_residual.ensures.1 }

pub returns-in_err-cap : goal.returns-in_err-cap
returns-in_err-cap c = record { is = number_next c.in_ok-a.ensures (number_stop c.in_err-cap.ensures c.from_residual-in_err-cap.ensures.1) }

pub returns-then-closed : goal.returns-then-closed
returns-then-closed c = queue_form c.if-closed.true (record { is = number_next c.in_ok-a.ensures (number_next c.in_ok-cap.ensures (c.closed_queue.ensures)) })

pub returns : goal.returns
returns c = queue_form c.if-closed.false (record { is = number_next c.in_ok-a.ensures (number_next c.in_ok-cap.ensures (c.open_queue.ensures)) })
