use Rattle.std.proofs.Common.{sym, ◌∙◌, arith}
use Rattle.put.specs.PutLaws.{put_more}
use borrow.Author.Tests.{eq-eqb}
use Rattle.arcs.specs.ListedLaws.{arc_edges}
use Rattle.labels.specs.Graph.{arc_text}
use Rattle.arcs.proofs.put_arc.Goals as goal

pub returns-then-k-eq0 : goal.returns-then-k-eq0
unfolding arc_text
returns-then-k-eq0 c = rw (eq-eqb _ 0 (sym c.count-k.ensures ∙ c.if-k-eq0.true)) (put_more (omega arith) c.put_dead_end.ensures)

pub returns : goal.returns
returns c = arc_edges c.args.p c.args.n _ c.args.to c.count-k.ensures c.if-k-eq0.false c.put_edges.ensures
