-- The parts of a caption make it up.
use Rattle.std.specs.Prelude.{ℕ, ◌*◌, ◌≤◌, List}
use Rattle.std.proofs.Common.{arith}
use Rattle.table.specs.Table.{sem_at, queue_at}
use Rattle.table.specs.declared.Table.{Table}
use Rattle.text.specs.Number.{bytes, digits}
use Rattle.text.specs.Reader.{concat_from}
use Rattle.put.specs.Put.{Put, PutField}
use Rattle.put.specs.PutLaws.{put_after, put_more, field_then}
use Rattle.labels.specs.Graph.{form_text, sem_text, queue_text, caption_text}

pub caption_put : {l m n o u v : List ℕ} {at a b c d r : ℕ} (t : Table) → t.sems ≤ 8 → t.queues ≤ 8 → PutField 15 l at (bytes "label=\"trap ") (digits t.trap) m a → Put 10 m a (form_text t.closed) n b
    → Put (20 * t.sems) n b (concat_from (λ i. sem_text i (sem_at t i)) t.sems 0) o c → Put (32 * t.queues) o c (concat_from (λ i. queue_text t.closed i (queue_at t i)) t.queues 0) u d
    → Put 3 u d (bytes "\";\n") v r → Put 444 l at (caption_text t) v r
unfolding caption_text
caption_put t f g x y z w e = put_more (omega arith) (field_then x (put_after y (put_after z (put_after w e))))
