use Rattle.std.proofs.Common.{arith}
use Rattle.put.specs.PutLaws.{put_more}
use Rattle.clusters.proofs.put_label.Goals as goal

pub returns-then-closed : goal.returns-then-closed
returns-then-closed c = rw c.if-closed.true (record { put = put_more (omega arith) c.put_count.ensures.put })

pub returns : goal.returns
returns c = rw c.if-closed.false (record { put = put_more (omega arith) c.put_count-2.ensures.put })
