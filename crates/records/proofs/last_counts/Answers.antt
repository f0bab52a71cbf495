use Rattle.std.proofs.Common.{refl, rules}
use Rattle.std.proofs.lemmas.Result.{IfOk-from_err}
use Rattle.fields.specs.FieldLaws.{number_below, number_next, number_stop, feed_last, feed_stop}
use Rattle.records.proofs.last_counts.Goals as goal

pub returns-in_err-sems : goal.returns-in_err-sems
returns-in_err-sems c = record { is = number_stop c.in_err-sems.ensures c.from_residual.ensures.1; fit = IfOk-from_err _ _ c.from_residual.ensures.0 }

pub returns-in_err-queues : goal.returns-in_err-queues
returns-in_err-queues c = record { is = number_next c.in_ok-sems.ensures (number_stop c.in_err-queues.ensures c.from_residual-in_err-queues.ensures.1); fit = IfOk-from_err _ _ c.from_residual-in_err-queues.ensures.0 }

pub returns-in_err-e : goal.returns-in_err-e
returns-in_err-e c = record { is = number_next c.in_ok-sems.ensures (number_next c.in_ok-queues.ensures (feed_stop c.in_err-e.ensures c.from_residual-in_err-e.ensures.1)); fit = IfOk-from_err _ _ c.from_residual-in_err-e.ensures.0 }

pub returns : goal.returns
returns c = record { is = number_next c.in_ok-sems.ensures (number_next c.in_ok-queues.ensures (feed_last c.in_ok-e.ensures refl)); fit = record { tasks = search rules; procs = search rules; sems = number_below c.in_ok-sems.ensures; queues = number_below c.in_ok-queues.ensures } }
