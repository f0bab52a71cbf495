use Rattle.std.proofs.Common.{refl}
use Rattle.fields.specs.FieldLaws.{number_below, number_next, number_stop, word_next, word_stop}
use Rattle.nodes.specs.NodeLaws.{body_got, body_stop, node_numbered}
use Rattle.nodes.proofs.node_line.Goals as goal

pub returns-in-Err : goal.returns-in-Err
returns-in-Err c = record { is = number_stop c.in-Err.ensures refl; fits = refl }

pub returns-in-Err-kind_field : goal.returns-in-Err-kind_field
returns-in-Err-kind_field c = record { is = number_next c.in-Ok.ensures (word_stop c.in-Err-kind_field.ensures refl); fits = refl }

pub returns-in-Err-node_body : goal.returns-in-Err-node_body
returns-in-Err-node_body c = record { is = number_next c.in-Ok.ensures (word_next c.in-Ok-kind_field.ensures (body_stop c.in-Err-node_body.ensures)); fits = refl }

pub returns-in-Ok-node_body : goal.returns-in-Ok-node_body
returns-in-Ok-node_body c = record { is = number_next c.in-Ok.ensures (word_next c.in-Ok-kind_field.ensures (body_got c.in-Ok-node_body.ensures (λ w h. node_numbered h))); fits = number_below c.in-Ok.ensures }
