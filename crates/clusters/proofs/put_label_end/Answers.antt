use Rattle.std.proofs.Common.{arith}
use Rattle.put.specs.PutLaws.{put_more, field_then}
use Rattle.clusters.proofs.put_label_end.Goals as goal

pub returns-then-closed : goal.returns-then-closed
returns-then-closed c = rw c.if-closed.true (put_more (omega arith) (field_then c.put_list-a.ensures c.put_text.ensures))

pub returns : goal.returns
returns c = rw c.if-closed.false (put_more (omega arith) c.put_text-2.ensures)
