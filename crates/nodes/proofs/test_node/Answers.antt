use Rattle.text.specs.Format.{node_of}
use Rattle.fields.specs.FieldLaws.{word_next, word_stop}
use Rattle.nodes.proofs.test_node.Goals as goal

pub returns-in_err-op : goal.returns-in_err-op
unfolding node_of
returns-in_err-op c = record { is = word_stop c.in_err-op.ensures c.from_residual.ensures.1 }

pub returns : goal.returns
unfolding node_of
returns c = record { is = word_next c.in_ok-op.ensures (c.test_operands.ensures) }
