-- The steps of a table's nodes, as the code makes them.
use Rattle.std.specs.Prelude.{ℕ, ◌+◌, ◌-◌, ◌*◌, ◌^◌, ◌≡◌, Bool, true, List, ltb}
use Rattle.table.specs.Mask.{pick, bit}
use Rattle.table.specs.Table.{node_in, node_at, proc_at, task_at}
use Rattle.table.specs.declared.Proc.{Proc}
use Rattle.table.specs.declared.Table.{Table}
use Rattle.masks.specs.Cells.{cell, grown}
use Rattle.flow.specs.declared.Flow.{Flow}
use Rattle.flow.specs.Flow.{flow_of, kept_with}

-- the mask m is in the cell a
abbrev pub In : ℕ → List ℕ → ℕ → Type 0
In m l a = (k : ℕ) → bit k m ≡ true → bit k (cell l a) ≡ true

-- the cells after dropped parameters m of procedure k: they are dirty at its entry
unfoldable pub entered : List ℕ → ℕ → ℕ → List ℕ
entered l k m = grown (grown l (k * 32 + 0) m) (256 + k) m

-- what a node adds to the cell a: dropped parameters, or blank queues
unfoldable pub passed_on : List ℕ → ℕ → ℕ → List ℕ
passed_on l a m = pick (ltb a 264) (entered l (a - 256) m) (grown l a m)

-- the cells after the step of a node of procedure p
unfoldable pub step_with : Flow → ℕ → List ℕ → List ℕ
step_with f p l = passed_on (grown (grown l (p * 32 + f.first) f.out) (p * 32 + f.second) f.out) f.extra f.add

-- the cells have what goes out of a node of procedure p
pub record Held (f : Flow) (p : ℕ) (l : List ℕ) : Type 0 where
  pub first : In f.out l (p * 32 + f.first)
  pub second : In f.out l (p * 32 + f.second)
  pub extra : In f.add l f.extra

-- node n of procedure p adds nothing to the cells
abbrev pub Rests : Table → List ℕ → ℕ → ℕ → Type 0
Rests t l p n = Held (flow_of (node_at t p n) n (cell l (p * 32 + n)) (cell l 264)) p l

-- all parameters of a task's top procedure
unfoldable pub top_step : Table → List ℕ → ℕ → List ℕ
top_step t l k = let p = (task_at t k).top in entered l p (2 ^ (proc_at t p).params - 1)

-- the kept nodes of a procedure
abbrev pub kept_in : Proc → ℕ → List ℕ → ℕ → Bool
kept_in q base l n = kept_with (node_in q n) (cell l (base + n))
