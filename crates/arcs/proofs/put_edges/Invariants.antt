use Rattle.arcs.specs.ListedLaws.{Listed}
use Rattle.labels.specs.Graph.{edge_text}
use Rattle.arcs.proofs.put_edges.Given as goal

abbrev pub invariant-loop-m : goal.invariant-loop-m
invariant-loop-m l = Listed 54 (edge_text l.p l.n l.word l.toss) l.to l.initial.out l.at l.out l.a l.i l.m
