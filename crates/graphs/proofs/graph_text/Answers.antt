use Rattle.graphs.specs.GraphLaws.{read_sound, drawable, refused_printed, graph_printed_lem}
use Rattle.graphs.proofs.graph_text.Goals as goal

pub returns-then-n-ne0 : goal.returns-then-n-ne0
returns-then-n-ne0 c = record { len = (refused_printed _ c.read-r.ensures c.if-n-ne0.true c.put_refused.ensures).0; most = (refused_printed _ c.read-r.ensures c.if-n-ne0.true c.put_refused.ensures).1.0; bytes = (refused_printed _ c.read-r.ensures c.if-n-ne0.true c.put_refused.ensures).1.1 }

pub kept-keep-requires : goal.kept-keep-requires
kept-keep-requires c = read_sound _ c.read-r.ensures c.if-n-ne0.false

pub put_graph-requires : goal.put_graph-requires
put_graph-requires c = drawable _ (read_sound _ c.read-r.ensures c.if-n-ne0.false)

pub returns : goal.returns
returns c = record { len = (graph_printed_lem _ c.read-r.ensures c.if-n-ne0.false c.kept-keep.ensures c.put_graph.ensures).0; most = (graph_printed_lem _ c.read-r.ensures c.if-n-ne0.false c.kept-keep.ensures c.put_graph.ensures).1.0; bytes = (graph_printed_lem _ c.read-r.ensures c.if-n-ne0.false c.kept-keep.ensures c.put_graph.ensures).1.1 }
