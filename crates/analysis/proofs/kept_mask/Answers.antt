use Rattle.std.proofs.Common.{refl, ◌+◌, ◌∙◌, ap}
use Rattle.table.specs.Mask.{mask_of}
use Rattle.table.specs.declared.Node.{Node}
use Rattle.masks.specs.Cells.{cell}
use Rattle.masks.specs.Bits.{mask_next}
use Rattle.flow.specs.Flow.{kept_with}
use Rattle.analysis.specs.Marked.{front_node}
use Rattle.analysis.proofs.kept_mask.Goals as goal

pub loop-n-init : goal.loop-n-init
unfolding mask_of
loop-n-init c = refl

pub loop-n-preserved : goal.loop-n-preserved
loop-n-preserved c =
    let h = c.loop-n in
    mask_next _ h.n h.m _ h.invariant (c.kept_node.ensures ∙ ap (λ (x : Node). kept_with x (cell c.args.cells.now (c.args.base + h.n))) (front_node c.args.q h.n c.loop-n-test.true)) c.with-m.ensures
