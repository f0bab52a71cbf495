use Rattle.std.proofs.Common.{refl, sym, ◌∙◌, arith}
use Rattle.put.specs.PutLaws.{put_after, put_more}
use Rattle.labels.specs.Graph.{node_text}
use Rattle.dot.proofs.put_node.Goals as goal

pub returns-then-absent : goal.returns-then-absent
unfolding node_text
returns-then-absent c = rw (sym c.absent.ensures ∙ c.if-absent.true) (record { few = omega arith; bytes = refl; same = refl; next = omega arith })

pub returns : goal.returns
unfolding node_text
returns c = rw (sym c.absent.ensures ∙ c.if-absent.false) (put_more (omega arith) (put_after c.put_box-a.ensures c.put_arcs.ensures))
