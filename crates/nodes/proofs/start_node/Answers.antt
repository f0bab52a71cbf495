use Rattle.text.specs.Format.{node_of}
use Rattle.nodes.specs.NodeLaws.{last_got, last_stop, start_to}
use Rattle.nodes.proofs.start_node.Goals as goal

pub returns-in_err-to : goal.returns-in_err-to
unfolding node_of
returns-in_err-to c = record { is = last_stop c.in_err-to.ensures c.from_residual.ensures.1 }

pub returns : goal.returns
unfolding node_of
returns c = record { is = last_got c.in_ok-to.ensures (λ x h. start_to h) }
