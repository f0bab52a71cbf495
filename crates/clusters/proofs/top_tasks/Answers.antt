use Rattle.std.proofs.Common.{◌≡◌, refl, arith}
use Rattle.table.specs.Mask.{mask_of}
use Rattle.masks.specs.Bits.{mask_next}
use Rattle.clusters.proofs.top_tasks.Goals as goal

pub loop-i-init : goal.loop-i-init
unfolding mask_of
loop-i-init c = refl

pub loop-i-preserved : goal.loop-i-preserved
loop-i-preserved c = mask_next _ c.loop-i.i c.loop-i.m _ c.loop-i.invariant refl c.with-m.ensures

pub returns : goal.returns
returns c = let z : c.loop-i.i ≡ c.args.n = omega arith in rw z at c.loop-i.invariant
