use Rattle.std.proofs.Common.{refl}
use Rattle.text.specs.Format.{node_of}
use Rattle.fields.specs.FieldLaws.{feed_last, feed_stop}
use Rattle.nodes.proofs.return_node.Goals as goal

pub returns-in_err-e : goal.returns-in_err-e
unfolding node_of
returns-in_err-e c = record { is = feed_stop c.in_err-e.ensures c.from_residual.ensures.1 }

pub returns : goal.returns
unfolding node_of
returns c = record { is = feed_last c.in_ok-e.ensures refl }
