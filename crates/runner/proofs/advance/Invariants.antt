use Rattle.std.proofs.Common.{drop}
use Rattle.runner.proofs.Turns.{Turning}
use Rattle.runner.proofs.advance.Given as goal

abbrev pub invariant-loop-k : goal.invariant-loop-k
invariant-loop-k l = Turning l.keep l.code l.words l.most l.values l.schedule l.given l.initial.marks l.initial.cells l.initial.log l.marks l.cells l.log (drop l.k-index l.schedule) l.at l.used
