use Rattle.std.proofs.Common.{arith}
use Rattle.put.specs.PutLaws.{put_more, field_then}
use Rattle.report.proofs.put_queue_line.Goals as goal

pub returns : goal.returns
returns c = put_more (omega arith) (field_then c.put_count-a.ensures c.put_values_line.ensures)
