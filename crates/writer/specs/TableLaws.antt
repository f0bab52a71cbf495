-- Laws of a table's lines, one after another.
use Rattle.std.specs.Prelude.{ℕ, ◌+◌, ◌*◌, ◌≤◌, ◌<◌, ◌≡◌, refl, List, [], ◌∷◌, ◌++◌, length, get_or, drop}
use Rattle.std.proofs.Common.{◌∙◌, ap, append_assoc, arith, lt-ltb, le-ltb}
use Rattle.std.proofs.lemmas.List.Edits.{sets-eq}
use Rattle.table.specs.Table.{no_task, no_sem, no_queue, task_at, sem_at, queue_at, proc_at, node_in}
use Rattle.table.specs.declared.Table.{Table}
use Rattle.text.specs.Line.{write}
use Rattle.text.specs.Format.{task_line, sem_line, queue_line, describe, task_vals, sem_vals}
use Rattle.text.specs.Reader.{concat_from}
use Rattle.text.specs.Writer.{text, proc_text, scope, node_text, queue_vals, fitted}
use Rattle.text.specs.Fault.{number}
use Rattle.put.specs.Put.{Put}
use Rattle.put.specs.PutLaws.{put_after, put_more}
use Rattle.put.specs.RowLaws.{concat_same, PutRows, rows_end}
use Rattle.lines.specs.Lines.{head_text, counts_text}
use Rattle.lines.specs.LineLaws.{head_text_lem, counts_text_lem, task_text, sem_text, queue_text_lem, proc_text_lem, node_scope}
use Rattle.writer.specs.declared.Front.{Front}
use Rattle.writer.specs.Table.{task_bytes, sem_bytes, queue_bytes, slot_bytes, procs_bytes, FrontIn, front_of, front_bytes, Counts, WrittenAs}

-- ---- the whole text

proc_bytes : (t : Table) (i : ℕ) → proc_text t i ≡ procs_bytes t.closed t.proc i
proc_bytes t i =
    let q = proc_at t i in
    rw (proc_text_lem t.closed i q, concat_same (λ j. node_text (scope t q) j (describe (scope t q) (node_in q j))) (slot_bytes q.slots) (λ j. node_scope (scope t q) j (node_in q j)) q.nodes 0)

regroup : (a b c d e f : List ℕ) → a ++ (b ++ (c ++ (d ++ (e ++ f)))) ≡ (a ++ (b ++ (c ++ (d ++ e)))) ++ f
regroup a b c d e f = simp append_assoc

table_text : (t : Table) → text t ≡ front_bytes (front_of t) ++ concat_from (procs_bytes t.closed t.proc) t.procs 0
unfolding text front_bytes
table_text t = rw (
  head_text_lem t.trap t.closed,
  counts_text_lem t.tasks t.procs t.sems t.queues,
  concat_same (λ i. write (task_line t.procs i) (task_vals t.procs i (task_at t i))) (λ i. task_bytes i (task_at t i)) (λ i. task_text t.procs i (task_at t i).top) t.tasks 0,
  concat_same (λ i. write (sem_line i) (sem_vals i (sem_at t i))) (λ i. sem_bytes i (sem_at t i)) (λ i. sem_text i (sem_at t i).count) t.sems 0,
  concat_same (λ i. write (queue_line t.closed i) (queue_vals t.closed i (queue_at t i))) (λ i. queue_bytes t.closed i (queue_at t i)) (λ i. queue_text_lem t.closed i (queue_at t i)) t.queues 0,
  concat_same (proc_text t) (procs_bytes t.closed t.proc) (proc_bytes t) t.procs 0,
) (regroup (head_text t.trap t.closed) (counts_text t.tasks t.procs t.sems t.queues)
    (concat_from (λ i. task_bytes i (task_at t i)) t.tasks 0) (concat_from (λ i. sem_bytes i (sem_at t i)) t.sems 0) (concat_from (λ i. queue_bytes t.closed i (queue_at t i)) t.queues 0)
    (concat_from (procs_bytes t.closed t.proc) t.procs 0))

-- the parts, one after another, are the text
module _ {l m n o i j : List ℕ} {p q r s u : ℕ} where
  pub front_put : (f : Front) → FrontIn f → Put 40 l 0 (head_text f.trap f.closed) m p
      → Put 40 m p (counts_text f.tasks f.procs f.sems f.queues) n q
      → Put (40 * f.tasks) n q (concat_from (λ a. task_bytes a (get_or f.task a no_task)) f.tasks 0) o r
      → Put (40 * f.sems) o r (concat_from (λ a. sem_bytes a (get_or f.sem a no_sem)) f.sems 0) i s
      → Put (40 * f.queues) i s (concat_from (λ a. queue_bytes f.closed a (get_or f.queue a no_queue)) f.queues 0) j u
      → Put 880 l 0 (front_bytes f) j u
  unfolding front_bytes
  front_put f h a b c d w = put_more (omega (arith, h.tasks, h.sems, h.queues)) (put_after a (put_after b (put_after c (put_after d w))))

pub table_rows : {l m n : List ℕ} {p r : ℕ} (t : Table) → Counts t → Put 880 l 0 (front_bytes (front_of t)) m p
    → Put (7820 * t.procs) m p (concat_from (procs_bytes t.closed t.proc) t.procs 0) n r → Put 65536 l 0 (text t) n r
table_rows t h a b = rw (table_text t) (put_more (omega (arith, h.procs.count)) (put_after a b))

-- the same, where a loop writes the procedures
pub table_put : {l m n : List ℕ} {p r i : ℕ} (t : Table) → Counts t → Put 880 l 0 (front_bytes (front_of t)) m p → PutRows 7820 (procs_bytes t.closed t.proc) m p n r i → i ≤ t.procs → t.procs ≤ i → Put 65536 l 0 (text t) n r
table_put t h a b f g = table_rows t h a (rows_end b f g)

-- ---- the answer

none_left : (m : List ℕ) → length m ≡ 0 → m ≡ []
none_left [] h = refl
none_left (b ∷ m) h = absurd (omega arith)

-- measured in an empty part of the buffer, which stays as it was
measured : {s l m : List ℕ} {r : ℕ} → Put 65536 [] 0 s m r → (m ++ l ≡ l) × (r ≡ length s)
measured {l = l} {m = m} a = (ap (λ (x : List ℕ). x ++ l) (none_left m a.same), omega (arith, a.next))

short_as : (s l : List ℕ) → length l < length s → WrittenAs s l l (record { number = 8; line = 0; len = 0 })
unfolding number
short_as s l h = record { answer = rw (lt-ltb (length l) (length s) h, fitted); buffer = rw (lt-ltb (length l) (length s) h, fitted) }

whole_as : (s l k : List ℕ) (q : ℕ) → length s ≤ length l → Put 65536 l 0 s k q → WrittenAs s l k (record { number = 0; line = 0; len = q })
whole_as s l k q h a =
    let e : q ≡ length s = omega (arith, a.next) in
    let z : 0 + length s ≡ length s = omega arith in
    let b : k ≡ s ++ drop (length s) l = a.bytes ∙ sets-eq s l 0 (omega arith) ∙ ap (λ (i : ℕ). s ++ drop i l) z in
    record { answer = rw (le-ltb (length l) (length s) h, fitted, e); buffer = rw (le-ltb (length l) (length s) h, fitted) b }

pub ready_large : {s l k : List ℕ} {q : ℕ} → 65536 ≤ length l → Put 65536 l 0 s k q → WrittenAs s l k (record { number = 0; line = 0; len = q })
ready_large {s} {l} {k} {q} h a = whole_as s l k q (omega (arith, a.few)) a

pub ready_short : {s l m : List ℕ} {r : ℕ} → Put 65536 [] 0 s m r → length (m ++ l) < r → WrittenAs s l (m ++ l) (record { number = 8; line = 0; len = 0 })
ready_short {s} {l} {m} a h = let e = measured {l = l} a in rw e.0 (short_as s l (rw (e.0, e.1) at h))

pub ready_whole : {s l m k : List ℕ} {r q : ℕ} → Put 65536 [] 0 s m r → r ≤ length (m ++ l) → Put 65536 (m ++ l) 0 s k q → WrittenAs s l k (record { number = 0; line = 0; len = q })
ready_whole {s} {l} {m} {k} {r} {q} a h b = let e = measured {l = l} a in whole_as s l k q (rw (e.0, e.1) at h) (rw e.0 at b)
