-- A table's control-flow graphs in the language DOT, and what the graph program prints.
use Rattle.std.specs.Prelude.{ℕ, zero, suc, Bool, true, false, List, [], ◌++◌, map, eqb, ltb, length, get_or}
use Rattle.table.specs.Mask.{pick, members, mask_of}
use Rattle.table.specs.Table.{proc_at, sem_at, queue_at, no_task, no_slot, Exit, ends, by, either, Act, alone, waits, signals, sends, receives, calls, returns, parts, act, is_absent}
use Rattle.table.specs.declared.Node.{Node}
use Rattle.table.specs.declared.Slot.{Slot}
use Rattle.table.specs.declared.Task.{Task}
use Rattle.table.specs.declared.Sem.{Sem}
use Rattle.table.specs.declared.Queue.{Queue}
use Rattle.table.specs.declared.Proc.{Proc}
use Rattle.table.specs.declared.Table.{Table}
use Rattle.text.specs.declared.Reading.{Reading}
use Rattle.text.specs.Number.{bytes, digits}
use Rattle.text.specs.Value.{chosen, spell_list}
use Rattle.text.specs.Reader.{concat_from, read}
use Rattle.closing.specs.Program.{refused_line}
use Rattle.machine.specs.Step.{Kept, kept_in}
use Rattle.reached.specs.Reached.{is_reached}
use Rattle.labels.specs.Label.{node_says}

-- ---- a node's box: a dropped node's is dashed, and one that no control path reaches says so on a second line

-- node n of procedure p
abbrev pub name_text : ℕ → ℕ → List ℕ
name_text p n = bytes "p" ++ (digits p ++ (bytes "n" ++ digits n))

abbrev pub box_mark : Bool → List ℕ
box_mark true = []
box_mark false = bytes "\\nunreached"

abbrev pub box_end : Bool → List ℕ
box_end true = bytes "\"];\n"
box_end false = bytes "\" style=dashed];\n"

abbrev pub box_text : ℕ → ℕ → Bool → Bool → Node → List ℕ
box_text p n kept seen x = name_text p n ++ (bytes " [label=\"" ++ (digits n ++ (bytes " " ++ (node_says x ++ (box_mark seen ++ box_end kept)))))

-- ---- arcs, each with a word: of a test `yes` or `no`, else none

abbrev pub solid_end : List ℕ → List ℕ
solid_end word = pick (eqb (length word) 0) (bytes ";\n") (bytes " [label=\"" ++ (word ++ bytes "\"];\n"))

-- a toss is dashed, and says the value that chooses this target
abbrev pub edge_end : List ℕ → Bool → ℕ → List ℕ
edge_end word false i = solid_end word
edge_end word true i = bytes " [style=dashed label=\"" ++ (word ++ (bytes " " ++ (digits i ++ bytes "\"];\n")))

-- from node n to node m, which is target i of its arc
abbrev pub edge_text : ℕ → ℕ → List ℕ → Bool → ℕ → ℕ → List ℕ
edge_text p n word toss i m = name_text p n ++ (bytes " -> " ++ (name_text p m ++ edge_end word toss i))

-- an arc with no target leads to a point
abbrev pub dead_end : ℕ → ℕ → List ℕ → List ℕ
dead_end p n word = name_text p n ++ (bytes "none [shape=point];\n" ++ (name_text p n ++ (bytes " -> " ++ (name_text p n ++ (bytes "none" ++ solid_end word)))))

abbrev pub edges_text : ℕ → ℕ → List ℕ → Bool → List ℕ → List ℕ
edges_text p n word toss ms = concat_from (λ i. edge_text p n word toss i (get_or ms i 0)) (length ms) 0

unfoldable pub arc_text : ℕ → ℕ → List ℕ → ℕ → List ℕ
arc_text p n word to = let ms = members to in pick (eqb (length ms) 0) (dead_end p n word) (edges_text p n word (ltb 1 (length ms)) ms)

abbrev pub exit_text : ℕ → ℕ → Exit → List ℕ
exit_text p n ends = []
exit_text p n (by m) = arc_text p n [] m
exit_text p n (either y z) = arc_text p n (bytes " yes") y ++ arc_text p n (bytes " no") z

abbrev pub arcs_text : ℕ → ℕ → Node → List ℕ
arcs_text p n x = exit_text p n (parts x).exit

unfoldable pub node_text : ℕ → ℕ → Bool → Bool → Node → List ℕ
node_text p n kept seen x = pick (is_absent x) [] (box_text p n kept seen x ++ arcs_text p n x)

-- ---- a procedure is a cluster, whose label says the tasks that have it as their top, and its sizes

-- the start of its label
abbrev pub label_key : Bool → List ℕ
label_key closed = chosen (bytes " {\nlabel=\"open, proc ") (bytes " {\nlabel=\"closed, proc ") closed

-- of the first n tasks those with the top p
abbrev pub top_tasks : List Task → ℕ → ℕ → List ℕ
top_tasks tasks n p = members (mask_of n (λ i. eqb (get_or tasks i no_task).top p))

-- what stands before one of them: the first, number 0, or a further one
abbrev pub top_word : Bool → ℕ → List ℕ
top_word several i = pick (eqb i 0) (chosen (bytes ", top of task ") (bytes ", top of tasks ") several) (bytes ", ")

abbrev pub top_text : Bool → ℕ → ℕ → List ℕ
top_text several i k = top_word several i ++ digits k

abbrev pub tops_text : List ℕ → List ℕ
tops_text ks = concat_from (λ i. top_text (ltb 1 (length ks)) i (get_or ks i 0)) (length ks) 0

-- its first line
abbrev pub cluster_text : Bool → List ℕ → ℕ → List ℕ
cluster_text closed tops p = bytes "subgraph cluster_" ++ (digits p ++ (label_key closed ++ (digits p ++ tops_text tops)))

-- what a closed procedure drops, and the end of its label
abbrev pub label_end : Bool → ℕ → List ℕ
label_end false drop = bytes "\\l\";\n"
label_end true drop = bytes ", drop " ++ (spell_list (map digits (members drop)) ++ bytes "\\l\";\n")

-- its second line
abbrev pub sizes_text : Bool → ℕ → ℕ → ℕ → List ℕ
sizes_text closed params vars drop = bytes "\\lparams " ++ (digits params ++ (bytes ", vars " ++ (digits vars ++ label_end closed drop)))

-- its nodes, with those that count as kept and those that are reached
abbrev pub slot_text : ℕ → (ℕ → Bool) → (ℕ → Bool) → List Slot → ℕ → List ℕ
slot_text p kept seen slots n = node_text p n (kept n) (seen n) (get_or slots n no_slot).node

abbrev pub proc_text : Bool → List Task → ℕ → ℕ → (ℕ → Bool) → (ℕ → Bool) → Proc → List ℕ
proc_text closed tasks n p kept seen q = cluster_text closed (top_tasks tasks n p) p
    ++ (sizes_text closed q.params q.vars q.drop
    ++ (concat_from (slot_text p kept seen q.slots) q.nodes 0
    ++ bytes "}\n"))

-- ---- a call's dotted arc to the callee's node 0. It stands behind all clusters: a node belongs to the cluster that names it first

abbrev pub call_edge : ℕ → ℕ → ℕ → List ℕ
call_edge p n q = name_text p n ++ (bytes " -> " ++ (name_text q 0 ++ bytes " [style=dotted constraint=false];\n"))

abbrev pub callee_text : ℕ → ℕ → Act → List ℕ
callee_text p n alone = []
callee_text p n (waits s) = []
callee_text p n (signals s) = []
callee_text p n (sends q v) = []
callee_text p n (receives q v) = []
callee_text p n (calls q xs) = call_edge p n q
callee_text p n returns = []

abbrev pub callees_text : ℕ → List Slot → ℕ → List ℕ
callees_text p slots n = callee_text p n (act (get_or slots n no_slot).node)

abbrev pub calls_text : ℕ → Proc → List ℕ
calls_text p q = concat_from (callees_text p q.slots) q.nodes 0

-- ---- the caption: the trap, its semaphores and its queues, a line each

abbrev pub form_text : Bool → List ℕ
form_text closed = chosen (bytes ", open\\l") (bytes ", closed\\l") closed

abbrev pub sem_text : ℕ → Sem → List ℕ
sem_text i x = bytes "sem " ++ (digits i ++ (bytes ": count " ++ (digits x.count ++ bytes "\\l")))

abbrev pub blank_text : Bool → Bool → List ℕ
blank_text false blank = bytes "\\l"
blank_text true blank = chosen (bytes "\\l") (bytes ", blank\\l") blank

abbrev pub queue_text : Bool → ℕ → Queue → List ℕ
queue_text closed i x = bytes "queue " ++ (digits i ++ (bytes ": capacity " ++ (digits x.cap ++ blank_text closed x.blank)))

unfoldable pub caption_text : Table → List ℕ
caption_text t = bytes "label=\"trap "
    ++ (digits t.trap
    ++ (form_text t.closed
    ++ (concat_from (λ i. sem_text i (sem_at t i)) t.sems 0
    ++ (concat_from (λ i. queue_text t.closed i (queue_at t i)) t.queues 0
    ++ bytes "\";\n"))))

-- ---- the whole

abbrev pub opening : List ℕ
opening = bytes "digraph table {\nfontname=monospace;\nlabelloc=t;\nlabeljust=l;\nnode [shape=box fontname=monospace];\nedge [fontname=monospace];\n"

-- a table's graphs, with the nodes that count as kept
unfoldable pub graph : Table → Kept → List ℕ
graph t kept = opening
    ++ (caption_text t
    ++ (concat_from (λ p. proc_text t.closed t.task t.tasks p (kept p) (is_reached (proc_at t p)) (proc_at t p)) t.procs 0
    ++ (concat_from (λ p. calls_text p (proc_at t p)) t.procs 0
    ++ bytes "}\n")))

abbrev pub after_reading : ℕ → Reading → List ℕ
after_reading zero r = graph r.table (kept_in r.table)
after_reading (suc n) r = refused_line (suc n) r.line

-- what the graph program prints: the graphs of a text's table, or the refusal of the text
unfoldable pub graph_printed : List ℕ → List ℕ
graph_printed s = let r = read s in after_reading r.number r
