-- The kept nodes that a node leads to through nodes that are not kept, by the two targets of each node.
use Rattle.std.specs.Prelude.{ℕ, ◌-◌, ◌/◌, ◌%◌, ◌^◌, ◌<◌, ◌≡◌, true, false, ◌⊎◌, ◌↔◌, List, get_or}
use Rattle.std.specs.Int.Bits.{bit_or, bit_and}
use Rattle.std.specs.Int.Count.{count_leading_zeros}
use Rattle.table.specs.Mask.{bit}
use Rattle.masks.specs.Cells.{cell, grown, Masks}

-- the two targets of node i
abbrev pub first_of : List ℕ → ℕ → ℕ
first_of ends i = get_or ends i 0 / 32 % 32

abbrev pub second_of : List ℕ → ℕ → ℕ
second_of ends i = get_or ends i 0 % 32

abbrev pub IsEnd : List ℕ → ℕ → ℕ → Type 0
IsEnd ends n m = (m ≡ first_of ends n) ⊎ (m ≡ second_of ends n)

pub data Leads (kept : ℕ) (ends : List ℕ) : ℕ → ℕ → Type 0 where
  here : {n : ℕ} → bit n kept ≡ true → Leads kept ends n n
  via : {n k : ℕ} (m : ℕ) → bit n kept ≡ false → IsEnd ends n m → Leads kept ends m k → Leads kept ends n k

-- 32 masks that say where each node leads
pub record Reaches (kept : ℕ) (ends r : List ℕ) : Type 0 where
  pub masks : Masks 32 32 r
  pub right : (n k : ℕ) → n < 32 → (bit k (cell r n) ≡ true) ↔ Leads kept ends n k

-- no node of gone is kept, and a node outside both has only itself as its targets
pub record Gone (kept gone : ℕ) (ends : List ℕ) : Type 0 where
  pub unkept : (n : ℕ) → bit n gone ≡ true → bit n kept ≡ false
  pub others : (n m : ℕ) → n < 32 → bit n kept ≡ false → bit n gone ≡ false → IsEnd ends n m → m ≡ n

-- ---- as the code computes it

-- 32 masks: that of a kept node has the node, the others are empty
pub record Own (kept : ℕ) (l : List ℕ) : Type 0 where
  pub masks : Masks 32 32 l
  pub own : (i : ℕ) → i < 32 → cell l i ≡ bit_and kept (2 ^ i)

-- a node that is not kept reaches what its two targets reach
unfoldable pub joined : List ℕ → List ℕ → ℕ → List ℕ
joined ends l i = grown l i (bit_or (cell l (first_of ends i)) (cell l (second_of ends i)))

-- node n, noted at its two targets
unfoldable pub noted : List ℕ → List ℕ → ℕ → List ℕ
noted ends r n = grown (grown r (first_of ends n) (2 ^ n)) (second_of ends n) (2 ^ n)

-- 32 masks of nodes of gone: for each node those that have it as a target, but for those of left
pub record Sources (ends : List ℕ) (gone left : ℕ) (r : List ℕ) : Type 0 where
  pub masks : Masks 32 32 r
  pub only : (a m : ℕ) → bit a (cell r m) ≡ true → bit a gone ≡ true
  pub each : (a m : ℕ) → bit a gone ≡ true → bit a left ≡ false → IsEnd ends a m → bit a (cell r m) ≡ true

-- the last node of a set that has one
abbrev pub last_of : ℕ → ℕ
last_of m = 31 - count_leading_zeros 32 m % 32
