use Rattle.std.proofs.Common.{rules}
use Rattle.table.specs.Table.{sem_at, queue_at}
use Rattle.labels.specs.Graph.{sem_text, queue_text}
use Rattle.captions.specs.CaptionLaws.{caption_put}
use Rattle.captions.proofs.put_caption.Goals as goal

pub returns : goal.returns
returns c =
    let t = c.args.t in
    caption_put t c.requires.1 c.requires.2 c.put_count-a.ensures c.put_form-b.ensures
    (c.put_rows-c.ensures.rows (λ i. sem_text i (sem_at t i)) (search rules))
    (c.put_rows-d.ensures.rows (λ i. queue_text t.closed i (queue_at t i)) (search rules))
    c.put_text.ensures
