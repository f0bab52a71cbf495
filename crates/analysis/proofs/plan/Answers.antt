use Rattle.std.proofs.Common.{refl, ◌∙◌, ap}
use Rattle.table.specs.Mask.{mask_of}
use Rattle.table.specs.declared.Node.{Node}
use Rattle.masks.specs.Bits.{mask_next}
use Rattle.flow.specs.Flow.{pass_of}
use Rattle.analysis.specs.Marked.{front_node}
use Rattle.analysis.specs.Sources.{is_read, is_recv}
use Rattle.analysis.specs.Plans.{stored_from, stored_next}
use Rattle.analysis.proofs.plan.Goals as goal

pub loop-n-init : goal.loop-n-init
unfolding mask_of stored_from
loop-n-init c = record { plans = refl; reads = refl; recvs = refl }

pub loop-n-preserved : goal.loop-n-preserved
loop-n-preserved c =
    let h = c.loop-n in
    let x = front_node c.args.q h.n c.loop-n-test.true in
    record {
      plans = stored_next _ _ h.n _ h.invariant.plans (c.pass_of.ensures ∙ ap (λ (y : Node). pass_of y h.n) x);
      reads = mask_next _ h.n h.reads _ h.invariant.reads (c.is_read.ensures ∙ ap is_read x) c.with-reads.ensures;
      recvs = mask_next _ h.n h.recvs _ h.invariant.recvs (c.is_recv.ensures ∙ ap is_recv x) c.with-recvs.ensures;
    }
