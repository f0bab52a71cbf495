-- `unfolding computing` opens every definition of this crate that an example computes with.
use Rattle.std.specs.Prelude.{ℕ}
use Rattle.table.specs.Mask.{bit, members_from, mask_of}
use Rattle.table.specs.Values.{shr, apply}
use Rattle.table.specs.Table.{parts, map_node}

unfoldable pub computing : ℕ
unfolding bit members_from mask_of shr apply parts map_node
computing = 0
