-- A table's graphs drawn by masks, and what the graph program prints, case by case.
use Rattle.std.specs.Prelude.{ℕ, zero, suc, ◌*◌, ◌≤◌, ◌<◌, ◌≡◌, refl, Bool, List, length, get_or}
use Rattle.std.proofs.Common.{sym, ◌∙◌, ap, arith}
use Rattle.std.proofs.lemmas.List.Edits.{sets}
use Rattle.table.specs.Table.{proc_at, no_slot}
use Rattle.table.specs.declared.Task.{Task}
use Rattle.table.specs.declared.Proc.{Proc}
use Rattle.table.specs.declared.Table.{Table}
use Rattle.text.specs.declared.Reading.{Reading}
use Rattle.text.specs.Number.{bytes}
use Rattle.text.specs.Reader.{concat_from, read}
use Rattle.text.specs.Writer.{fault}
use Rattle.text.proofs.RoundTrip.{read_good, read_fault}
use Rattle.closing.specs.Program.{refused_line}
use Rattle.machine.specs.Step.{kept_in}
use Rattle.put.specs.Put.{Put}
use Rattle.put.specs.PutLaws.{put_after, put_more}
use Rattle.writer.specs.CountsLaws.{counts}
use Rattle.keeps.specs.Keeps.{Keeps}
use Rattle.labels.specs.Graph.{node_text, slot_text, proc_text, caption_text, opening, graph, after_reading, graph_printed}
use Rattle.reached.specs.Reached.{is_reached}
use Rattle.clusters.specs.ClusterLaws.{concat_below}
use Rattle.graphs.specs.Graphs.{mask_kept, mask_procs, proc_calls, Drawable}

-- ---- the nodes that count as kept, by masks or not

proc_kept : (closed : Bool) (tasks : List Task) (n p : ℕ) (f g seen : ℕ → Bool) (q : Proc) → q.nodes ≤ 32 → ((j : ℕ) → j < 32 → f j ≡ g j) → proc_text closed tasks n p f seen q ≡ proc_text closed tasks n p g seen q
proc_kept closed tasks n p f g seen q u h = rw (concat_below (slot_text p f seen q.slots) (slot_text p g seen q.slots) q.nodes 0 (λ j l. ap (λ (b : Bool). node_text p j b (seen j) (get_or q.slots j no_slot).node) (h j (omega arith))))

pub graph_kept : (t : Table) (keep : List ℕ) → Drawable t → Keeps t keep → graph t (mask_kept keep) ≡ graph t (kept_in t)
unfolding graph
graph_kept t keep d k = rw (concat_below
    (λ p. proc_text t.closed t.task t.tasks p (mask_kept keep p) (is_reached (proc_at t p)) (proc_at t p))
    (λ p. proc_text t.closed t.task t.tasks p (kept_in t p) (is_reached (proc_at t p)) (proc_at t p))
    t.procs
    0
    (λ p l. proc_kept t.closed t.task t.tasks p (mask_kept keep p) (kept_in t p) (is_reached (proc_at t p)) (proc_at t p) (d.procs.each p (omega arith)).within.count (λ j m. k.keeps p j (omega (arith, d.procs.count)) m)))

-- ---- the whole

pub graph_put : {l m n o u v : List ℕ} {a b c d r : ℕ} (t : Table) (keep : List ℕ) → Drawable t → Put 125 l 0 opening m a → Put 444 m a (caption_text t) n b
    → Put (115177 * t.procs) n b (concat_from (mask_procs t.closed t.task t.tasks keep t.proc) t.procs 0) o c
    → Put (1728 * t.procs) o c (concat_from (proc_calls t.proc) t.procs 0) u d → Put 2 u d (bytes "}\n") v r → Put 936000 l 0 (graph t (mask_kept keep)) v r
unfolding graph
graph_put t keep d x y z w e = put_more (omega (arith, d.procs.count)) (put_after x (put_after y (put_after z (put_after w e))))

-- a table without a fault can be drawn
pub drawable : (t : Table) → fault t ≡ 0 → Drawable t
drawable t e = record { tasks = (counts t e).front.tasks; sems = (counts t e).front.sems; queues = (counts t e).front.queues; procs = (counts t e).procs }

-- an accepted text's table has no fault
pub read_sound : (s : List ℕ) {r : Reading} → r ≡ read s → r.number ≡ 0 → fault r.table ≡ 0
read_sound s e h = let z = rw e at h in rw e (read_fault s (read s).table (read_good s z))

-- the answer: the length, its bound, and the buffer
abbrev pub Printed : List ℕ → List ℕ → List ℕ → ℕ → Type 0
Printed s l o r = (r ≡ length (graph_printed s)) × ((r ≤ 936000) × (o ≡ sets l 0 (graph_printed s)))

printed_put : {l o u : List ℕ} {r : ℕ} (s : List ℕ) → u ≡ graph_printed s → Put 936000 l 0 u o r → Printed s l o r
printed_put s e w =
    let z = rw e at w in
    (omega (arith, z.next), (omega (arith, z.few, z.next), z.bytes))

after_refused : (n : ℕ) (r : Reading) → (n ≡ 0 → ⊥) → refused_line n r.line ≡ after_reading n r
after_refused zero r h = absurd (h refl)
after_refused (suc n) r h = refl

printed_is : (s : List ℕ) (r : Reading) → r ≡ read s → after_reading r.number r ≡ graph_printed s
unfolding graph_printed
printed_is s r e = rw e

pub refused_printed : {l o : List ℕ} {a : ℕ} (s : List ℕ) {r : Reading} → r ≡ read s → (r.number ≡ 0 → ⊥) → Put 38 l 0 (refused_line r.number r.line) o a → Printed s l o a
refused_printed s {r} e h w = printed_put s (after_refused r.number r h ∙ printed_is s r e) (put_more (omega arith) w)

pub graph_printed_lem : {l o keep : List ℕ} {a : ℕ} (s : List ℕ) {r : Reading} → r ≡ read s → r.number ≡ 0 → Keeps r.table keep → Put 936000 l 0 (graph r.table (mask_kept keep)) o a → Printed s l o a
graph_printed_lem {keep = keep} s {r} e h k w =
    let good : after_reading 0 r ≡ after_reading r.number r = ap (λ (n : ℕ). after_reading n r) (sym h) in
    printed_put s (graph_kept r.table keep (drawable r.table (read_sound s e h)) k ∙ good ∙ printed_is s r e) w
