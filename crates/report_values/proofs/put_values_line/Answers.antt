use Rattle.std.proofs.Common.{arith}
use Rattle.put.specs.PutLaws.{put_after, put_more}
use Rattle.report_values.proofs.put_values_line.Goals as goal

pub returns : goal.returns
returns c = put_more (omega (arith, c.requires.1)) (put_after c.put_text-a.ensures (put_after c.put_values-b.ensures c.put_byte.ensures))
