use Rattle.std.proofs.Common.{arith, rules}
use Rattle.put.specs.PutLaws.{put_after, put_more}
use Rattle.writer.specs.Table.{slot_bytes}
use Rattle.writer.proofs.put_proc.Goals as goal

pub returns : goal.returns
returns c = put_more (omega arith) (put_after c.put_proc_line-a.ensures (c.put_rows.ensures.rows (slot_bytes c.args.q.slots) (search rules)))
