use Rattle.text.specs.Format.{node_of}
use Rattle.fields.specs.FieldLaws.{number_next, number_stop}
use Rattle.nodes.specs.NodeLaws.{last_got, last_stop, wait_to}
use Rattle.nodes.proofs.wait_node.Goals as goal

pub returns-in_err-sem : goal.returns-in_err-sem
unfolding node_of
returns-in_err-sem c = record { is = number_stop c.in_err-sem.ensures c.from_residual.ensures.1 }

pub returns-in_err-to : goal.returns-in_err-to
unfolding node_of
returns-in_err-to c = record { is = number_next c.in_ok-sem.ensures (last_stop c.in_err-to.ensures c.from_residual-in_err-to.ensures.1) }

pub returns : goal.returns
unfolding node_of
returns c = record { is = number_next c.in_ok-sem.ensures (last_got c.in_ok-to.ensures (λ x h. wait_to h)) }
