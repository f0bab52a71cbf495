-- What is computed is the least set.
use Prim.Native.Nat.{ℕ, zero, suc, ◌<◌}
use Rattle.std.proofs.Common.{arith, sym, ◌∙◌, subst}
use Rattle.std.specs.Prelude.{◌≡◌, refl, true, ◌↔◌, ltb, length}
use Rattle.std.proofs.Math.Path.{ap}
use Rattle.std.proofs.Math.Bool.{false≢true}
use Rattle.std.proofs.Math.Logic.{inl, inr}
use mathlib.Core.List.Memᴰ
use mathlib.Core.List.{[], ◌∷◌, map, Memᴰ}
use Rattle.std.proofs.Math.Dec.{eqb}
use Rattle.std.proofs.Math.ListN.{get_or-eq_default}
use borrow.Author.Tests.{eqb-true, eqb-false, eq-eqb, ltb-true, ltb-false}
use Rattle.table.specs.Cases.{cases}
use Rattle.table.specs.Mask.{members}
use Rattle.table.specs.MaskLaws.{members_is}
use Rattle.table.specs.Reach.{Reach, source, edge}
use Rattle.table.specs.ReachLaws.{closure_sound, closure_complete}
use Rattle.table.specs.Table.{no_slot, node_in, parts, arcs}
use Rattle.table.specs.declared.Node.TheVariants.{Absent}
use Rattle.table.specs.declared.Slot.{Slot}
use Rattle.table.specs.declared.Proc.{Proc}
use Rattle.masks.specs.Bits.{bit_zero}
use Rattle.reached.specs.Reached.{Reached, first, along, arcs_below, is_reached}

-- ---- the arcs of a procedure

module _ (q : Proc) where
  arc_out : (k n m : ℕ) → Memᴰ (n, m) (arcs_below q k) → Memᴰ m (arcs (node_in q n))
  unfolding arcs_below
  arc_out zero n m d = absurd (Memᴰ.not-nil d)
  arc_out (suc k) n m d = elim (Memᴰ.append_cases (map (λ i. (k, i)) (arcs (node_in q k))) d) [
    | inl a ↦ own (Memᴰ.of_map (λ i. (k, i)) (arcs (node_in q k)) a)
    | inr a ↦ arc_out k n m a
  ]
    where
      own : (i : ℕ) × Memᴰ i (arcs (node_in q k)) × (◌≡◌ {A = ℕ × ℕ} (k, i) (n, m)) → Memᴰ m (arcs (node_in q n))
      own r =
          let e : k ≡ n = ap (λ (x : ℕ × ℕ). x.0) r.2 in
          let f : r.0 ≡ m = ap (λ (x : ℕ × ℕ). x.1) r.2 in
          rw (← e, ← f) r.1

  arc_in : (k n m : ℕ) → n < k → Memᴰ m (arcs (node_in q n)) → Memᴰ (n, m) (arcs_below q k)
  unfolding arcs_below
  arc_in zero n m h d = absurd (omega arith)
  arc_in (suc k) n m h d = cases (eqb n k)
      (λ e. let z : n ≡ k = eqb-true n k e in rw z (Memᴰ.append_left (arcs_below q k) (Memᴰ.map (λ i. (k, i)) (rw z at d))))
      (λ e. Memᴰ.append_right (map (λ i. (k, i)) (arcs (node_in q k))) (arc_in k n m (omega (arith, eqb-false n k e)) d))

  -- a place without a node has no arc
  none_out : (m : ℕ) → Memᴰ m (arcs Absent) → ⊥
  unfolding parts
  none_out m d = elim (Memᴰ.append_cases (members 0) d) [ inl a ↦ no a | inr a ↦ no a ]
    where
      no : Memᴰ m (members 0) → ⊥
      no a = false≢true (sym (bit_zero m) ∙ ((members_is m 0).0 a).0)

  -- so a node with an arc has one of the places
  arc_place : (n m : ℕ) → Memᴰ m (arcs (node_in q n)) → n < length q.slots
  arc_place n m d = cases (ltb n (length q.slots))
      (λ e. ltb-true n (length q.slots) e)
      (λ e. absurd (none_out m (subst (λ (s : Slot). Memᴰ m (arcs s.node)) (get_or-eq_default q.slots no_slot {n = n} (ltb-false n (length q.slots) e)) d)))

  -- ---- both ways

  out_of : (n : ℕ) → Reach (zero ∷ []) (arcs_below q (length q.slots)) n → Reached q n
  out_of n (source (Memᴰ.head e)) = rw e first
  out_of n (source (Memᴰ.tail d)) = absurd (Memᴰ.not-nil d)
  out_of n (edge {a = a} d r) = along a (arc_out (length q.slots) a n d) (out_of a r)

  in_to : (n : ℕ) → Reached q n → Reach (zero ∷ []) (arcs_below q (length q.slots)) n
  in_to n first = source (Memᴰ.head refl)
  in_to n (along m d r) = edge (arc_in (length q.slots) m n (arc_place m n d) d) (in_to m r)

  pub reached_is : (n : ℕ) → (is_reached q n ≡ true) ↔ Reached q n
  unfolding is_reached
  reached_is n = (
    λ h. out_of n (closure_sound eqb eqb-true (λ x. eq-eqb x x refl) (zero ∷ []) (arcs_below q (length q.slots)) n h),
    λ r. closure_complete eqb eqb-true (λ x. eq-eqb x x refl) (zero ∷ []) (arcs_below q (length q.slots)) n (in_to n r),
  )
