use Rattle.std.proofs.Common.{length-set, get_or, get_or-set_other, Bool, ◌∙◌, ap₂, arith}
use Rattle.masks.specs.Cells.{set_more}
use Rattle.table.specs.Table.{no_queue}
use Rattle.table.specs.declared.Queue.{Queue}
use Rattle.closer.specs.Parts.{queue_with}
use Rattle.closer.proofs.closed_queues.Goals as goal

pub loop-i-preserved : goal.loop-i-preserved
loop-i-preserved c =
    let h = c.loop-i in
    record {
      size = simp length-set h.invariant.size;
      done = set_more no_queue (λ a. queue_with c.args.b a (get_or c.args.queues a no_queue)) h.i _ h.q-items (omega (arith, h.invariant.size))
          (ap₂ (λ (x : Queue) (y : Bool). record { cap = x.cap; blank = y }) (h.invariant.rest h.i (omega arith)) c.has-q.ensures) h.invariant.done;
      rest = λ a l. get_or-set_other h.q-items h.i a _ no_queue (omega arith) ∙ h.invariant.rest a (omega arith);
    }
