use Rattle.std.proofs.Common.{sym}
use Rattle.fields.specs.FieldLaws.{list_next, list_stop, feed_last, feed_stop}
use Rattle.nodes.proofs.targets_end.Goals as goal

pub returns-in_err-to : goal.returns-in_err-to
returns-in_err-to c = list_stop c.in_err-to.ensures c.from_residual.ensures.1

pub returns-in_err-e : goal.returns-in_err-e
returns-in_err-e c = list_next c.in_ok-to.ensures (λ x0 h0. feed_stop c.in_err-e.ensures c.from_residual-in_err-e.ensures.1)

pub returns : goal.returns
returns c = list_next c.in_ok-to.ensures (λ x0 h0. feed_last c.in_ok-e.ensures (sym h0))
