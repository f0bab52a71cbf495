-- What is not kept by the computed set is what is not kept by the least solution.
use Rattle.std.specs.Prelude.{ℕ, ◌≡◌, ◌↔◌, Bool, true, false}
use Rattle.std.proofs.Math.Path.{refl}
use Rattle.std.proofs.Common.{sym, ◌∙◌, true≢false}
use Rattle.std.proofs.lemmas.Bool.{false≢true, not-false}
use mathlib.Core.List.{List, [], ◌∷◌, Memᴰ}
use Rattle.table.specs.Cases.{cases}
use Rattle.table.specs.Table.{node_at, uses, Keeping, always, if_clean, never, absent, keeping}
use Rattle.table.specs.declared.Table.{Table}
use Rattle.closing.specs.Dirty.{Fact, dirty_before, Unkept, no_node, a_read, dirty_use}
use Rattle.closing.specs.Closing.{dirty, is_dirty, any_dirty, kept_by, kept}
use Rattle.closing.proofs.DirtyLaws.{dirty_is}

-- two tests of one thing are equal
pub same_test : {P : Type 0} (a b : Bool) → (a ≡ true) ↔ P → (b ≡ true) ↔ P → a ≡ b
same_test true b f g = sym (g.1 (f.0 refl))
same_test false true f g = f.1 (g.0 refl)
same_test false false f g = refl

module _ (d : List Fact) (p n : ℕ) where
  -- one of some uses is dirty: which
  any_out : (us : List ℕ) → any_dirty d p n us ≡ true → (u : ℕ) × Memᴰ u us × (is_dirty d (dirty_before p n u) ≡ true)
  unfolding any_dirty
  any_out [] h = absurd (false≢true h)
  any_out (u ∷ us) h = cases (is_dirty d (dirty_before p n u))
      (λ e. (u, Memᴰ.head refl, e))
      (λ e. let r = any_out us (rw e at h) in (r.0, Memᴰ.tail r.1, r.2))

  -- and back
  any_in : (u : ℕ) (us : List ℕ) → Memᴰ u us → is_dirty d (dirty_before p n u) ≡ true → any_dirty d p n us ≡ true
  unfolding any_dirty
  any_in u us (Memᴰ.head e) h = rw (← e, h)
  any_in u us (Memᴰ.tail {x = w} {xs = r} m) h = cases (is_dirty d (dirty_before p n w))
      (λ e. rw e)
      (λ e. rw e (any_in u r m h))

-- a node is not kept in the closed table if and only if it is a `read`, or a `set` or `test` with a dirty use (or absent)
pub unkept_is : (t : Table) (p n : ℕ) → (kept (dirty t) p n (node_at t p n) ≡ false) ↔ Unkept t p n
unfolding kept
unkept_is t p n = (out (keeping (node_at t p n)) refl, back)
  where
    out : (k : Keeping) → keeping (node_at t p n) ≡ k → kept_by (dirty t) k p n (uses (node_at t p n)) ≡ false → Unkept t p n
    out always e h = absurd (true≢false h)
    out never e h = a_read e
    out absent e h = no_node e
    out if_clean e h = let r = any_out (dirty t) p n (uses (node_at t p n)) (not-false _ h) in dirty_use r.0 e r.1 ((dirty_is t (dirty_before p n r.0)).0 r.2)

    back : Unkept t p n → kept_by (dirty t) (keeping (node_at t p n)) p n (uses (node_at t p n)) ≡ false
    back (a_read e) = rw e
    back (no_node e) = rw e
    back (dirty_use u e m h) = rw (e, any_in (dirty t) p n u (uses (node_at t p n)) m ((dirty_is t (dirty_before p n u)).1 h))

-- and kept if and only if it is not one of those
pub kept_is : (t : Table) (p n : ℕ) → (kept (dirty t) p n (node_at t p n) ≡ true) ↔ (Unkept t p n → ⊥)
kept_is t p n = (
  λ k u. true≢false (sym k ∙ (unkept_is t p n).1 u),
  λ h. cases (kept (dirty t) p n (node_at t p n)) (λ k. k) (λ k. absurd (h ((unkept_is t p n).0 k))),
)
