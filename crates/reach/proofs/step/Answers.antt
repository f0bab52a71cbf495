use Rattle.std.proofs.Common.{length, ◌<◌, arith}
use Rattle.masks.specs.Cells.{grown_flag}
use Rattle.reach.specs.ReachLaws.{joined_is}
use Rattle.reach.proofs.step.Goals as goal

pub returns : goal.returns
returns c =
    let g = c.grow.ensures in
    let l : c.args.i < length c.args.cells.now = omega arith in
    record { list = joined_is _ _ _ _ _ c.first-f.ensures c.second-s.ensures g.list; flag = rw (g.list, g.new) (grown_flag _ _ _ l) }
