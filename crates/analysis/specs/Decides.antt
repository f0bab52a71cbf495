-- What the masks of an analysed table say.
use Rattle.std.specs.Prelude.{ℕ, ◌+◌, ◌*◌, ◌<◌, ◌≡◌, true, ◌↔◌, List, get_or}
use Rattle.table.specs.Mask.{bit}
use Rattle.table.specs.Table.{node_at}
use Rattle.table.specs.declared.Table.{Table}
use Rattle.closing.specs.Dirty.{Dirty, dirty_before, dropped, blank}
use Rattle.closing.specs.Closing.{dirty, kept}
use Rattle.masks.specs.Cells.{cell, Masks}

-- 265 masks that say what is dirty: at 32 p + n the variables whose use at node n of procedure p is dirty, at 256 + p the dropped
-- parameters of procedure p, at 264 the blank queues
pub record Decides (t : Table) (l : List ℕ) : Type 0 where
  pub masks : Masks 265 32 l
  pub uses : (p n v : ℕ) → p < 8 → n < 32 → (bit v (cell l (p * 32 + n)) ≡ true) ↔ Dirty t (dirty_before p n v)
  pub drops : (p i : ℕ) → p < 8 → (bit i (cell l (256 + p)) ≡ true) ↔ Dirty t (dropped p i)
  pub blanks : (q : ℕ) → (bit q (cell l 264) ≡ true) ↔ Dirty t (blank q)

-- a mask for each procedure: its kept nodes
pub record KeptMasks (t : Table) (r : List ℕ) : Type 0 where
  pub masks : Masks 8 32 r
  pub right : (p n : ℕ) → p < 8 → n < 32 → bit n (get_or r p 0) ≡ kept (dirty t) p n (node_at t p n)
