use Rattle.closer.specs.Parts.{Sorted, Upto}
use Rattle.closer.proofs.closed_proc.Given as goal

abbrev pub invariant-loop-n : goal.invariant-loop-n
invariant-loop-n l = Sorted l.fn.q l.base l.cells l.n l.kept l.gone l.ends

abbrev pub invariant-loop-k : goal.invariant-loop-k
invariant-loop-k l = Upto l.fn.q l.base l.kept l.cells l.arcs l.k l.c
