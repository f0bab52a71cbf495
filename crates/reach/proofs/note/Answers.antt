use Rattle.reach.specs.ReachLaws.{noted_is}
use Rattle.masks.specs.Bits.{one_shl}
use Rattle.reach.proofs.note.Goals as goal

pub returns : goal.returns
returns c = noted_is _ _ _ c.first.ensures c.second.ensures (one_shl 32 _ c.requires) c.grow.ensures.list c.grow-2.ensures.list
