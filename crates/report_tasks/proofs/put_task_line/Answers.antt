use Rattle.std.proofs.Common.{arith}
use Rattle.put.specs.PutLaws.{put_more, field_then}
use Rattle.report_tasks.proofs.put_task_line.Goals as goal

pub returns-then-lost : goal.returns-then-lost
returns-then-lost c = rw c.if-lost.true (put_more (omega arith) (field_then c.put_count-a.ensures (field_then c.put_count-b.ensures c.put_text.ensures)))

pub returns : goal.returns
returns c = rw c.if-lost.false (put_more (omega arith) (field_then c.put_count-a.ensures (field_then c.put_count-b.ensures c.put_text-2.ensures)))
