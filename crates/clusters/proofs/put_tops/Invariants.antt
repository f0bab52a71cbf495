use Rattle.labels.specs.Graph.{top_text}
use Rattle.arcs.specs.ListedLaws.{Listed}
use Rattle.clusters.proofs.put_tops.Given as goal

abbrev pub invariant-loop-k : goal.invariant-loop-k
invariant-loop-k l = Listed 18 (top_text l.several) l.m l.initial.out l.at l.out l.a l.i l.k
