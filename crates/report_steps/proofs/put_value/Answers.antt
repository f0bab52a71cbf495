use Rattle.std.proofs.Common.{◌≡◌, w32, to_z, of_z, to_z-of_z}
use Rattle.put.specs.PutLaws.{put_after}
use Rattle.report_steps.proofs.put_value.Goals as goal

pub returns : goal.returns
returns c = let e : to_z w32 (of_z w32 c.args.v) ≡ c.args.v = to_z-of_z {w = w32} c.ranges.v in
    put_after c.put_text-a.ensures (rw e at c.put_constant.ensures)
