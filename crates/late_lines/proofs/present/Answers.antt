use Rattle.std.proofs.Common.{refl, not, arith}
use Rattle.table.specs.Mask.{mask_of}
use Rattle.table.specs.Table.{node_in, is_absent}
use Rattle.late_lines.specs.Steps.{mask_more, mask_fits}
use Rattle.late_lines.proofs.present.Goals as goal

pub loop-n-init : goal.loop-n-init
unfolding mask_of
loop-n-init c = refl

pub overflow_add-m : goal.overflow_add-m
overflow_add-m c = record { fits = mask_fits (λ i. not (is_absent (node_in c.args.q i))) _ (omega arith) c.loop-n.invariant c.present_bit-m.ensures }

pub loop-n-preserved : goal.loop-n-preserved
loop-n-preserved c = mask_more (λ i. not (is_absent (node_in c.args.q i))) _ c.loop-n.invariant c.present_bit-m.ensures
