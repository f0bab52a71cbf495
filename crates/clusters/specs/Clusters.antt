-- A procedure's graph as it is written: the nodes that count as kept, and those that are reached, are held in masks.
use Rattle.std.specs.Prelude.{ℕ, Bool, List}
use Rattle.table.specs.Mask.{bit}
use Rattle.table.specs.declared.Slot.{Slot}
use Rattle.table.specs.declared.Task.{Task}
use Rattle.table.specs.declared.Proc.{Proc}
use Rattle.reached.specs.Reached.{is_reached}
use Rattle.labels.specs.Graph.{slot_text, proc_text}

abbrev pub mask_nodes : ℕ → ℕ → ℕ → List Slot → ℕ → List ℕ
mask_nodes p keep seen = slot_text p (λ n. bit n keep) (λ n. bit n seen)

abbrev pub mask_proc : Bool → List Task → ℕ → ℕ → ℕ → Proc → List ℕ
mask_proc closed tasks count p keep q = proc_text closed tasks count p (λ n. bit n keep) (is_reached q) q
