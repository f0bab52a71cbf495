use Rattle.text.specs.Format.{node_of}
use Rattle.fields.specs.FieldLaws.{variable_next, variable_stop}
use Rattle.nodes.specs.NodeLaws.{last_got, last_stop, assert_to}
use Rattle.nodes.proofs.assert_node.Goals as goal

pub returns-in_err-var : goal.returns-in_err-var
unfolding node_of
returns-in_err-var c = record { is = variable_stop c.in_err-var.ensures c.from_residual.ensures.1 }

pub returns-in_err-to : goal.returns-in_err-to
unfolding node_of
returns-in_err-to c = record { is = variable_next c.in_ok-var.ensures (λ x0 h0. last_stop c.in_err-to.ensures c.from_residual-in_err-to.ensures.1) }

pub returns : goal.returns
unfolding node_of
returns c = record { is = variable_next c.in_ok-var.ensures (λ x0 h0. last_got c.in_ok-to.ensures (λ x h. assert_to h0 h)) }
