-- The nodes of a procedure that some control path from node 0 reaches: along all arcs, a call's too.
use Rattle.std.specs.Prelude.{ℕ, zero, suc, Bool, eqb, length}
use mathlib.Core.List.{List, [], ◌∷◌, ◌++◌, map, Memᴰ}
use Rattle.std.specs.Int.Bits.{bit_or, bit_and, bit_xor}
use Rattle.table.specs.Reach.{mem, closure}
use Rattle.table.specs.Table.{node_in, arcs, Exit, ends, by, either}
use Rattle.table.specs.declared.Proc.{Proc}

-- The least set that has node 0 and, with a node, the targets of its arcs.
pub data Reached (q : Proc) : ℕ → Type 0 where
  first : Reached q zero
  along : {m : ℕ} (n : ℕ) → Memᴰ m (arcs (node_in q n)) → Reached q n → Reached q m

-- ---- the same, computed

-- the arcs of the first n nodes, each as the node that it leaves and a target
unfoldable pub arcs_below : Proc → ℕ → List (ℕ × ℕ)
arcs_below q zero = []
arcs_below q (suc n) = map (λ m. (n, m)) (arcs (node_in q n)) ++ arcs_below q n

unfoldable pub is_reached : Proc → ℕ → Bool
is_reached q n = mem eqb n (closure eqb (zero ∷ []) (arcs_below q (length q.slots)))

-- ---- masks, as the code computes them

-- the targets of all arcs of a node
abbrev pub target_mask : Exit → ℕ
target_mask ends = 0
target_mask (by m) = m
target_mask (either y n) = bit_or y n

-- the nodes of seen that are not in done
abbrev pub waiting : ℕ → ℕ → ℕ
waiting seen done = bit_xor seen (bit_and seen done)
