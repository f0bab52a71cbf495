-- A node is drawn by its bits, and the parts of a procedure's cluster make it up.
use Rattle.std.specs.Prelude.{ℕ, zero, suc, ◌+◌, ◌*◌, ◌%◌, ◌<◌, ◌≤◌, ◌≡◌, refl, Bool, List, eqb, ltb, length, get_or}
use Rattle.std.proofs.Common.{◌∙◌, ap, arith}
use Rattle.table.specs.Mask.{bit, members, mask_of}
use Rattle.table.specs.MaskLaws.{bit_mask_of}
use Rattle.table.specs.Table.{no_task, no_slot}
use Rattle.table.specs.declared.Node.{Node}
use Rattle.table.specs.declared.Task.{Task}
use Rattle.table.specs.declared.Proc.{Proc}
use Rattle.text.specs.Number.{bytes}
use Rattle.text.specs.Reader.{concat_from}
use Rattle.reached.specs.Reached.{is_reached}
use Rattle.put.specs.Put.{Put}
use Rattle.put.specs.PutLaws.{put_after, put_more}
use Rattle.labels.specs.Graph.{node_text, top_text, tops_text, sizes_text, cluster_text, slot_text}
use Rattle.clusters.specs.Clusters.{mask_nodes, mask_proc}

-- rows that agree where they stand
pub concat_below : (f g : ℕ → List ℕ) (n i : ℕ) → ((k : ℕ) → k < i + n → f k ≡ g k) → concat_from f n i ≡ concat_from g n i
unfolding concat_from
concat_below f g zero i h = refl
concat_below f g (suc n) i h = rw (h i (omega arith), concat_below f g n (suc i) (λ k l. h k (omega arith)))

pub node_put : {l o : List ℕ} {at a : ℕ} {b d : Bool} (p keep seen j : ℕ) (x : Node) → j < 32 → b ≡ bit (j % 32) keep → d ≡ bit (j % 32) seen → Put 3576 l at (node_text p j b d x) o a
    → Put 3576 l at (node_text p j (bit j keep) (bit j seen) x) o a
node_put p keep seen j x h e f w =
    let z : j % 32 ≡ j = omega arith in
    rw (e ∙ ap (λ (i : ℕ). bit i keep) z, f ∙ ap (λ (i : ℕ). bit i seen) z) at w

-- the nodes that are reached, by their mask or not
pub nodes_reached : (p keep : ℕ) (q : Proc) (n seen : ℕ) → n ≤ 32 → seen ≡ mask_of 32 (is_reached q) → concat_from (mask_nodes p keep seen q.slots) n 0 ≡ concat_from (slot_text p (λ j. bit j keep) (is_reached q) q.slots) n 0
nodes_reached p keep q n seen h e = concat_below (mask_nodes p keep seen q.slots) (slot_text p (λ j. bit j keep) (is_reached q) q.slots) n 0
    (λ j l. ap (λ (b : Bool). node_text p j (bit j keep) b (get_or q.slots j no_slot).node) (ap (bit j) e ∙ bit_mask_of 32 j (is_reached q) (omega arith)))

-- the tasks m, n of them
pub tops_put : {l o : List ℕ} {at a : ℕ} (m n : ℕ) → n ≡ length (members m) → Put 576 l at (concat_from (λ i. top_text (ltb 1 n) i (get_or (members m) i 0)) (length (members m)) 0) o a → Put 576 l at (tops_text (members m)) o a
tops_put m n e w = rw e at w

-- the parts of a procedure's cluster
pub proc_put : {l m n o u : List ℕ} {at a b c r tops seen : ℕ} (closed : Bool) (tasks : List Task) (count p keep : ℕ) (q : Proc) → q.nodes ≤ 32
    → tops ≡ mask_of count (λ i. eqb (get_or tasks i no_task).top p) → seen ≡ mask_of 32 (is_reached q)
    → Put 623 l at (cluster_text closed (members tops) p) m a → Put 120 m a (sizes_text closed q.params q.vars q.drop) n b
    → Put (3576 * q.nodes) n b (concat_from (mask_nodes p keep seen q.slots) q.nodes 0) o c → Put 2 o c (bytes "}\n") u r
    → Put 115177 l at (mask_proc closed tasks count p keep q) u r
proc_put closed tasks count p keep q h e f x y z w =
    put_more (omega (arith, h)) (put_after (rw e at x) (put_after y (put_after (rw (nodes_reached p keep q q.nodes _ h f) at z) w)))
