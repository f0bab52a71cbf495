use Rattle.std.proofs.Common.{arith}
use Rattle.put.specs.PutLaws.{put_more, field_then}
use Rattle.clusters.proofs.put_cluster.Goals as goal

pub returns : goal.returns
returns c = put_more (omega arith) (field_then c.put_count-a.ensures (field_then c.put_label-b.ensures c.put_tops.ensures))
