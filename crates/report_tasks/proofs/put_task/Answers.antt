use Rattle.std.proofs.Common.{arith, rules}
use Rattle.put.specs.PutLaws.{put_after, put_more}
use Rattle.report_tasks.specs.Rows.{frame_row}
use Rattle.report_tasks.proofs.put_task.Goals as goal

pub returns : goal.returns
returns c = put_more (omega (arith, c.requires.2)) (put_after c.put_task_line-a.ensures (c.put_rows.ensures.rows (frame_row c.args.frames c.args.counts c.args.k) (search rules)))
