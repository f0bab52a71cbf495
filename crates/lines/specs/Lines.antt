-- The lines' bytes, by shape; those of a node's line stand in `node_lines`.
use Rattle.std.specs.Prelude.{ℕ, List, ◌++◌, Bool, true, false}
use Rattle.text.specs.Number.{bytes, digits}
use Rattle.text.specs.Value.{chosen}
use Rattle.put.specs.Lists.{list_text}
use Rattle.node_lines.specs.NodeLines.{lf}
pub use Rattle.node_lines.specs.NodeLines.{node_bytes, FewArgs}

-- two numbers under their keys
abbrev pub pair_text : List ℕ → ℕ → List ℕ → ℕ → List ℕ
pair_text a i b n = a ++ (digits i ++ (b ++ (digits n ++ lf)))

abbrev pub counts_text : ℕ → ℕ → ℕ → ℕ → List ℕ
counts_text t p s q = bytes "tasks=" ++ (digits t ++ (bytes " procs=" ++ (digits p ++ (bytes " sems=" ++ (digits s ++ (bytes " queues=" ++ (digits q ++ lf)))))))

abbrev pub head_text : ℕ → Bool → List ℕ
head_text n c = bytes "trap=" ++ (digits n ++ (bytes " form=" ++ (chosen (bytes "open") (bytes "closed") c ++ lf)))

-- a queue line from its blank field on
abbrev pub blank_text : Bool → Bool → List ℕ
blank_text false b = lf
blank_text true b = bytes " blank=" ++ (chosen (bytes "no") (bytes "yes") b ++ lf)

abbrev pub queue_text : Bool → ℕ → ℕ → Bool → List ℕ
queue_text closed i n b = bytes "queue=" ++ (digits i ++ (bytes " cap=" ++ (digits n ++ blank_text closed b)))

-- a procedure line from its drop field on
abbrev pub drop_text : Bool → ℕ → List ℕ
drop_text false d = lf
drop_text true d = bytes " drop=" ++ (list_text d ++ lf)

abbrev pub proc_line_text : Bool → ℕ → ℕ → ℕ → ℕ → ℕ → List ℕ
proc_line_text closed i k m n d =
    bytes "proc=" ++ (digits i ++ (bytes " params=" ++ (digits k ++ (bytes " vars=" ++ (digits m ++ (bytes " nodes=" ++ (digits n ++ drop_text closed d)))))))
