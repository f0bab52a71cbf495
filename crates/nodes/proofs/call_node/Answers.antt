use Rattle.text.specs.Format.{node_of}
use Rattle.fields.specs.FieldLaws.{number_next, number_stop, list_next, list_stop}
use Rattle.nodes.specs.NodeLaws.{last_got, last_stop, call_to}
use Rattle.nodes.proofs.call_node.Goals as goal

pub returns-in_err-callee : goal.returns-in_err-callee
unfolding node_of
returns-in_err-callee c = record { is = number_stop c.in_err-callee.ensures c.from_residual.ensures.1 }

pub returns-in_err-args : goal.returns-in_err-args
unfolding node_of
returns-in_err-args c = record { is = number_next c.in_ok-callee.ensures (list_stop c.in_err-args.ensures c.from_residual-in_err-args.ensures.1) }

pub returns-in_err-to : goal.returns-in_err-to
unfolding node_of
returns-in_err-to c = record { is = number_next c.in_ok-callee.ensures (list_next c.in_ok-args.ensures (λ x1 h1. last_stop c.in_err-to.ensures c.from_residual-in_err-to.ensures.1)) }

pub returns : goal.returns
unfolding node_of
returns c = record { is = number_next c.in_ok-callee.ensures (list_next c.in_ok-args.ensures (λ x1 h1. last_got c.in_ok-to.ensures (λ x h. call_to h1 h))) }
