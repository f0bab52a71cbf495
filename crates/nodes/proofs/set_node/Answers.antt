use Rattle.text.specs.Format.{node_of}
use Rattle.fields.specs.FieldLaws.{number_next, number_stop, word_next, word_stop}
use Rattle.nodes.proofs.set_node.Goals as goal

pub returns-in_err-var : goal.returns-in_err-var
unfolding node_of
returns-in_err-var c = record { is = number_stop c.in_err-var.ensures c.from_residual.ensures.1 }

pub returns-in_err-op : goal.returns-in_err-op
unfolding node_of
returns-in_err-op c = record { is = number_next c.in_ok-var.ensures (word_stop c.in_err-op.ensures c.from_residual-in_err-op.ensures.1) }

pub returns : goal.returns
unfolding node_of
returns c = record { is = number_next c.in_ok-var.ensures (word_next c.in_ok-op.ensures (c.set_operands.ensures)) }
