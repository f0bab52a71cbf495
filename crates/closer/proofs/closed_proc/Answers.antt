-- The first loop finds which nodes are kept, which are gone and their targets; the second closes each node in its place.
use Rattle.std.proofs.Common.{◌+◌, ◌*◌, ◌∙◌, ap, arith}
use Rattle.table.specs.declared.Node.{Node}
use Rattle.masks.specs.Cells.{cell}
use Rattle.flow.specs.Flow.{kept_with}
use Rattle.analysis.specs.Marked.{front_node}
use Rattle.closer.specs.Parts.{end_of}
use Rattle.closer.specs.SlotLaws.{upto_none, upto_next, sorted_none, sorted_next, sorted_gone, made}
use Rattle.text.proofs.ShapeLaws.{proc_long}
use Rattle.closer.proofs.closed_proc.Goals as goal

pub loop-n-init : goal.loop-n-init
loop-n-init c = sorted_none _ _ _

pub loop-n-preserved : goal.loop-n-preserved
loop-n-preserved c =
    let h = c.loop-n in
    let x = front_node c.args.q h.n c.loop-n-test.true in
    sorted_next _ _ _ _ (omega arith) h.invariant (c.kept_node-yes.ensures ∙ ap (λ (y : Node). kept_with y (cell c.args.cells.now (c.args.p * 32 + h.n))) x) c.with-kept.ensures c.with-gone.ensures (c.end_of.ensures ∙ ap (λ (y : Node). end_of y h.n) x)

pub reach-arcs-requires : goal.reach-arcs-requires
reach-arcs-requires c = sorted_gone _ _ _ c.loop-n.invariant

pub loop-k-init : goal.loop-k-init
loop-k-init c = upto_none _ _ _ _ _ (proc_long c.args.q (_, c.well_formed.0))

pub loop-k-preserved : goal.loop-k-preserved
loop-k-preserved c = let h = c.loop-k in upto_next _ _ _ _ _ h.k _ h.c (omega arith) h.invariant c.has-yes.ensures c.closed_slot.ensures

pub returns : goal.returns
returns c = let h = c.loop-n in let g = c.loop-k in made c.requires.1 (omega arith) (omega arith) h.invariant c.reach-arcs.ensures g.invariant
