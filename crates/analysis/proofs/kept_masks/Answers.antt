use Rattle.std.proofs.Common.{arith}
use Rattle.analysis.specs.KeptLaws.{kept_masks}
use Rattle.analysis.specs.Marked.{marked_start, marked_next}
use Rattle.analysis.proofs.kept_masks.Goals as goal

pub loop-p-init : goal.loop-p-init
loop-p-init c = marked_start _ _

pub loop-p-preserved : goal.loop-p-preserved
loop-p-preserved c = let h = c.loop-p in marked_next h.p (omega (arith, c.loop-p-test.true, c.requires.procs_few)) c.kept_mask.ensures h.invariant

pub returns : goal.returns
returns c = kept_masks _ c.requires _ c.dirty_cells-cells.ensures (omega (arith, c.loop-p-test.false)) c.loop-p.invariant
