-- Reading the cells: each bit is what `dirty` computes, and a node is kept by its cell if and only if it is kept.
use Rattle.std.specs.Prelude.{ℕ, ◌+◌, ◌*◌, ◌<◌, ◌≤◌, ◌≡◌, false}
use Rattle.std.proofs.Math.Path.{refl}
use Rattle.std.proofs.Common.{◌∙◌}
use mathlib.Core.List.{List, [], ◌∷◌, Memᴰ}
use Rattle.table.specs.Mask.{bit, mask_of}
use Rattle.table.specs.MaskLaws.{bit_mask_of}
use Rattle.table.specs.Table.{proc_at, node_at, Keeping, always, if_clean, never, absent, parts, uses, keeping}
use Rattle.table.specs.declared.Node.{Node}
use Rattle.table.specs.declared.Node.TheVariants.{Absent}
use Rattle.table.specs.declared.Table.{Table}
use Rattle.closing.specs.Dirty.{Fact, dirty_before, dropped, blank}
use Rattle.closing.specs.Closing.{dirty, is_dirty, any_dirty, kept}
use Rattle.closing.specs.Closing as K
use Rattle.closing.proofs.DirtyLaws.{dirty_is}
use Rattle.closing.proofs.KeptLaws.{same_test}
use Rattle.masks.specs.Cells.{cell}
use Rattle.flow.specs.Flow.{any_of, kept_by, kept_with}
use Rattle.analysis.specs.Ready.{FitsNode, Ready}
use Rattle.analysis.specs.Decides.{Decides, KeptMasks}
use Rattle.analysis.specs.Steps.{kept_in}
use Rattle.analysis.specs.Marked.{Marked, marked_masks, marked_right}
use Rattle.analysis.specs.NodeLaws.{var_mod}

-- ---- a node is kept by the variables that are dirty before it

module _ (d : List Fact) (p n i vars : ℕ) (few : vars ≤ 16) (h : (v : ℕ) → bit v i ≡ is_dirty d (dirty_before p n v)) where
  any_is : (us : List ℕ) → ((u : ℕ) → Memᴰ u us → u < vars) → any_of us i ≡ any_dirty d p n us
  unfolding any_dirty
  any_is [] f = refl
  any_is (u ∷ us) f = rw (var_mod few (f u (Memᴰ.head refl)), h u, any_is us (λ w m. f w (Memᴰ.tail m)))

  kept_by_lem : (k : Keeping) (us : List ℕ) → ((u : ℕ) → Memᴰ u us → u < vars) → kept_by k (any_of us i) ≡ K.kept_by d k p n us
  kept_by_lem always us f = refl
  kept_by_lem if_clean us f = rw (any_is us f)
  kept_by_lem never us f = refl
  kept_by_lem absent us f = refl

  kept_node : (t : Table) (x : Node) → FitsNode t vars x → kept_with x i ≡ kept d p n x
  unfolding kept
  kept_node t x f = kept_by_lem (keeping x) (uses x) f.uses

-- no node is kept where there is none
not_kept : (x : Node) (i : ℕ) → x ≡ Absent → kept_with x i ≡ false
unfolding parts
not_kept x i e = rw e

module _ (t : Table) (o : Ready t) (l : List ℕ) (d : Decides t l) where
  pub read_use : (p n v : ℕ) → p < 8 → n < 32 → bit v (cell l (p * 32 + n)) ≡ is_dirty (dirty t) (dirty_before p n v)
  read_use p n v hp hn = same_test _ _ (d.uses p n v hp hn) (dirty_is t (dirty_before p n v))

  pub read_drop : (p i : ℕ) → p < 8 → bit i (cell l (256 + p)) ≡ is_dirty (dirty t) (dropped p i)
  read_drop p i hp = same_test _ _ (d.drops p i hp) (dirty_is t (dropped p i))

  pub read_blank : (q : ℕ) → bit q (cell l 264) ≡ is_dirty (dirty t) (blank q)
  read_blank q = same_test _ _ (d.blanks q) (dirty_is t (blank q))

  pub read_kept : (p n : ℕ) → p < 8 → n < 32 → kept_in (proc_at t p) (p * 32) l n ≡ kept (dirty t) p n (node_at t p n)
  read_kept p n hp hn = kept_node (dirty t) p n (cell l (p * 32 + n)) (proc_at t p).vars (o.vars_few p) (λ v. read_use p n v hp hn) t (node_at t p n) (o.fits p n)

  -- the mask of a procedure's kept nodes
  pub kept_bit : (p n : ℕ) → p < 8 → n < 32 → bit n (mask_of 32 (kept_in (proc_at t p) (p * 32) l)) ≡ kept (dirty t) p n (node_at t p n)
  kept_bit p n hp hn = bit_mask_of 32 n (kept_in (proc_at t p) (p * 32) l) hn ∙ read_kept p n hp hn

  pub kept_masks : {k : ℕ} {r : List ℕ} → t.procs ≤ k → Marked t (λ p. kept_in (proc_at t p) (p * 32) l) k r → KeptMasks t r
  kept_masks h g = record {
    masks = marked_masks o g;
    right = λ p n hp hn. marked_right o g h (λ a b. not_kept (node_at t a b) (cell l (a * 32 + b))) p n ∙ read_kept p n hp hn;
  }
