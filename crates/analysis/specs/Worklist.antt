-- Which nodes are to be seen after each step of the code: 8 masks of nodes, w; the cells are l before the step, and r are the receives.
use Rattle.std.specs.Prelude.{ℕ, ◌+◌, ◌-◌, ◌*◌, ◌^◌, ◌≡◌, Bool, not, ◌≢◌, Option, Some, None, List, [], ◌∷◌, set, eqb, ltb, position}
use Rattle.std.specs.Bool.{then_some}
use Rattle.std.specs.Int.Bits.{bit_or}
use Rattle.table.specs.Mask.{pick}
use Rattle.table.specs.Table.{node_in}
use Rattle.table.specs.declared.Proc.{Proc}
use Rattle.masks.specs.Bits.{without}
use Rattle.masks.specs.Cells.{cell, grown, is_new}
use Rattle.flow.specs.declared.Flow.{Flow}
use Rattle.flow.specs.Flow.{low, flow_of}
use Rattle.analysis.specs.Steps.{step_with}

-- the mask m has come to node n of procedure p
unfoldable pub todo_reached : List ℕ → List ℕ → ℕ → ℕ → ℕ → List ℕ
todo_reached l w p n m = pick (is_new l (p * 32 + n) m) (grown w p (2 ^ n)) w

-- the nodes of r are to be seen, too
unfoldable pub woken : List ℕ → List ℕ → List ℕ
woken [] r = []
woken (x ∷ w) [] = x ∷ w
woken (x ∷ w) (y ∷ r) = bit_or x y ∷ woken w r

-- the queues m are blank
unfoldable pub todo_blank : List ℕ → List ℕ → List ℕ → ℕ → List ℕ
todo_blank r l w m = pick (is_new l 264 m) (woken w r) w

-- what a node adds has come to the cell a
unfoldable pub todo_passed : List ℕ → List ℕ → List ℕ → ℕ → ℕ → List ℕ
todo_passed r l w a m = pick (ltb a 264) (todo_reached l w (a - 256) 0 m) (todo_blank r l w m)

-- the step of a node of procedure p
unfoldable pub todo_stepped : List ℕ → Flow → ℕ → List ℕ → List ℕ → List ℕ
todo_stepped r f p l w =
    let l1 = grown l (p * 32 + f.first) f.out in
    let l2 = grown l1 (p * 32 + f.second) f.out in
    todo_passed r l2 (todo_reached l1 (todo_reached l w p f.first f.out) p f.second f.out) f.extra f.add

-- its first target, if it is to be seen: if something is new there
abbrev pub next_to : List ℕ → ℕ → ℕ → ℕ → Option ℕ
next_to l p to m = then_some (is_new l (p * 32 + to) m) to

-- node n of procedure p is taken out
abbrev pub todo_taken : List ℕ → ℕ → ℕ → List ℕ
todo_taken w p n = set w p (without (cell w p) n)

-- ---- the nodes of procedure p, which is q

-- where what is dirty before node n goes
abbrev pub flow_at : Proc → ℕ → ℕ → List ℕ → Flow
flow_at q p n l = flow_of (node_in q n) n (cell l (p * 32 + n)) (cell l 264)

abbrev pub next_at : Proc → ℕ → ℕ → List ℕ → Option ℕ
next_at q p n l = next_to l p (flow_at q p n l).first (flow_at q p n l).out

-- From the cells l and the nodes w to l' and w': the next node is seen, if there is one, and then its first target, if something was new there;
-- where a chain ends the lowest node that is to be seen comes next, until there is none.
pub data Seen (r : List ℕ) (q : Proc) (p : ℕ) : Option ℕ → List ℕ → List ℕ → List ℕ → List ℕ → Type 0 where
  none : {l w : List ℕ} → cell w p ≡ 0 → Seen r q p None l w l w
  lowest : {l w l' w' : List ℕ} → cell w p ≢ 0 → Seen r q p (Some (low (cell w p))) l w l' w' → Seen r q p None l w l' w'
  along : {n : ℕ} {l w l' w' : List ℕ} → Seen r q p (next_at q p n l) (step_with (flow_at q p n l) p l) (todo_stepped r (flow_at q p n l) p l (todo_taken w p n)) l' w'
      → Seen r q p (Some n) l w l' w'

-- a procedure's mask has a node
abbrev pub is_pending : ℕ → Bool
is_pending m = not (eqb m 0)

-- the first procedure with a node that is to be seen
abbrev pub pending_of : List ℕ → Option ℕ
pending_of w = position is_pending w
