use Rattle.std.proofs.Common.{get_or, rules}
use Rattle.table.specs.Table.{no_task, no_sem, no_queue}
use Rattle.writer.specs.Table.{task_bytes, sem_bytes, queue_bytes}
use Rattle.writer.specs.TableLaws.{front_put}
use Rattle.writer.proofs.put_front.Goals as goal

pub returns : goal.returns
returns c =
    let f = c.args.f in
    front_put f c.requires c.put_head_line-a.ensures c.put_counts_line-b.ensures
    (c.put_rows-c.ensures.rows (λ i. task_bytes i (get_or f.task i no_task)) (search rules))
    (c.put_rows-d.ensures.rows (λ i. sem_bytes i (get_or f.sem i no_sem)) (search rules))
    (c.put_rows.ensures.rows (λ i. queue_bytes f.closed i (get_or f.queue i no_queue)) (search rules))
