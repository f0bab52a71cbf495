-- The least solution, computed: one graph whose edges are the rules, each from its premise to what it gives.
use Rattle.std.specs.Prelude.{ℕ, zero, suc, Bool, true, false, not, ◌||◌, List, [], ◌∷◌, ◌++◌, map, length, eqb, ltb}
use Rattle.std.proofs.Math.Decide.{ℕ_discrete}
use Rattle.std.proofs.Math.Option.{Option, none, some}
use Rattle.table.specs.Mask.{pick}
use Rattle.table.specs.Table.{node_at, proc_at, task_at, arg_list, uses, variable_set, arcs, Keeping, always, if_clean, never, absent, keeping, Act, alone, waits, signals, sends, receives, calls, returns, act}
use Rattle.table.specs.declared.Node.{Node}
use Rattle.table.specs.declared.Table.{Table}
use Rattle.closing.specs.Dirty.{Fact, setting_at, entry_at, dirty_before, dropped, blank, Fact-discrete}
use Rattle.table.specs.Reach.{mem, closure}

abbrev pub Edge : Type 0
Edge = Fact × Fact

abbrev pub decided {ℓ} : {A : Type ℓ} → Dec A → Bool
decided (yes a) = true
decided (no a) = false

unfoldable pub same : Fact → Fact → Bool
same f g = decided (Fact-discrete ℕ_discrete f g)

unfoldable pub for_each : {A B : Type 0} → List A → (A → List B) → List B
for_each [] f = []
for_each (x ∷ xs) f = f x ++ for_each xs f

unfoldable pub up_to : ℕ → List ℕ
up_to zero = []
up_to (suc n) = n ∷ up_to n

-- f at every node of the table
unfoldable pub over_nodes : {B : Type 0} → Table → (ℕ → ℕ → List B) → List B
over_nodes t f = for_each (up_to (length t.proc)) (λ p. for_each (up_to (length (proc_at t p).slots)) (f p))

abbrev pub sets_var : Option ℕ → ℕ → Bool
sets_var none v = false
sets_var (some w) v = eqb w v

-- the variables that a call passes to procedure q, from parameter i on
unfoldable pub passed_to : Table → ℕ → ℕ → ℕ → ℕ → List ℕ → List Edge
passed_to t p n q i [] = []
passed_to t p n q i (u ∷ us) = pick (ltb i (proc_at t q).params) ((dirty_before p n u, dropped q i) ∷ []) [] ++ passed_to t p n q (suc i) us

-- what a dirty use at a node makes dirty: what the node sets,
unfoldable pub set_edges : ℕ → ℕ → Option ℕ → List ℕ → List Edge
set_edges p n none us = []
set_edges p n (some v) us = map (λ u. (dirty_before p n u, setting_at p n)) us

-- the parameters it is passed to, the queue it is sent to; and what a blank queue does
unfoldable pub act_edges : Table → ℕ → ℕ → Act → List Edge
act_edges t p n alone = []
act_edges t p n (waits s) = []
act_edges t p n (signals s) = []
act_edges t p n (sends q v) = (dirty_before p n v, blank q) ∷ []
act_edges t p n (receives q v) = (blank q, setting_at p n) ∷ []
act_edges t p n (calls q xs) = passed_to t p n q zero (arg_list xs)
act_edges t p n returns = []

unfoldable pub node_edges : Table → ℕ → ℕ → Node → List Edge
node_edges t p n x = set_edges p n (variable_set x) (uses x) ++ act_edges t p n (act x)

-- a dirty setting of a variable goes to the targets of the node's arcs
unfoldable pub after_edges : ℕ → ℕ → ℕ → Option ℕ → List ℕ → List Edge
after_edges vars p n none ms = []
after_edges vars p n (some v) ms = pick (ltb v vars) (map (λ m. (setting_at p n, dirty_before p m v)) ms) []

-- a dirty variable goes along the node's arcs, unless the node sets it
unfoldable pub along_edges : ℕ → ℕ → Option ℕ → List ℕ → ℕ → List Edge
along_edges p n s ms v = elim (sets_var s v) [ true ↦ [] | false ↦ map (λ m. (dirty_before p n v, dirty_before p m v)) ms ]

unfoldable pub path_edges : Table → ℕ → ℕ → List Edge
path_edges t p n = let x = node_at t p n in
    after_edges (proc_at t p).vars p n (variable_set x) (arcs x) ++ for_each (up_to (proc_at t p).vars) (along_edges p n (variable_set x) (arcs x))

-- a dropped parameter is a dirty setting by entry, which comes before node 0
unfoldable pub entry_edges : Table → ℕ → List Edge
entry_edges t p = map (λ i. (dropped p i, entry_at p i)) (up_to (proc_at t p).params) ++ map (λ v. (entry_at p v, dirty_before p zero v)) (up_to (proc_at t p).vars)

unfoldable pub edges : Table → List Edge
edges t = over_nodes t (λ p n. node_edges t p n (node_at t p n) ++ path_edges t p n) ++ for_each (up_to (length t.proc)) (entry_edges t)

unfoldable pub read_source : ℕ → ℕ → Keeping → List Fact
read_source p n always = []
read_source p n if_clean = []
read_source p n never = setting_at p n ∷ []
read_source p n absent = []

unfoldable pub top_source : Table → ℕ → List Fact
top_source t k = let p = (task_at t k).top in map (dropped p) (up_to (proc_at t p).params)

-- what is dirty whatever else is
unfoldable pub sources : Table → List Fact
sources t = for_each (up_to t.tasks) (top_source t) ++ over_nodes t (λ p n. read_source p n (keeping (node_at t p n)))

unfoldable pub dirty : Table → List Fact
dirty t = closure same (sources t) (edges t)

-- ---- kept nodes, from the dirty facts d
module _ (d : List Fact) where
  unfoldable pub is_dirty : Fact → Bool
  is_dirty f = mem same f d

  unfoldable pub any_dirty : ℕ → ℕ → List ℕ → Bool
  any_dirty p n [] = false
  any_dirty p n (u ∷ us) = is_dirty (dirty_before p n u) || any_dirty p n us

  abbrev pub kept_by : Keeping → ℕ → ℕ → List ℕ → Bool
  kept_by always p n us = true
  kept_by never p n us = false
  kept_by absent p n us = false
  kept_by if_clean p n us = not (any_dirty p n us)

  unfoldable pub kept : ℕ → ℕ → Node → Bool
  kept p n x = kept_by (keeping x) p n (uses x)
