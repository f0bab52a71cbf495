use Rattle.std.proofs.Common.{◌*◌}
use Rattle.analysis.specs.Steps.{kept_in}
use Rattle.analysis.specs.Marked.{Marked}
use Rattle.table.specs.Table.{proc_at}
use Rattle.analysis.proofs.kept_masks.Given as goal

abbrev pub invariant-loop-p : goal.invariant-loop-p
invariant-loop-p l = Marked l.t (λ j. kept_in (proc_at l.t j) (j * 32) l.cells) l.p l.r
