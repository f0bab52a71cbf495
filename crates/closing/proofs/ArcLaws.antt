-- The new arcs are exact: an arc of the closed table lists a node if and only if the node is kept and the open arc leads to it through nodes that are not kept.
use Prim.Native.Nat.{ℕ, ◌<◌}
use Rattle.std.specs.Prelude.{◌≡◌, refl, true, false, ◌&&◌, ◌⊎◌, length, ltb}
use Rattle.std.proofs.Common.{sym, ◌∙◌, ap, inl, inr}
use Rattle.std.proofs.Math.Bool.{Bool}
use Rattle.std.proofs.lemmas.Bool.{false≢true}
use mathlib.Core.List.Memᴰ
use mathlib.Core.List.{List, Memᴰ}
use Rattle.std.proofs.Math.ListN.{get_or-eq_default}
use Rattle.std.proofs.Math.Dec.{eqb}
use borrow.Author.Tests.{eqb-true, eq-eqb, ltb-true, ltb-false}
use Rattle.table.specs.Cases.{cases}
use Rattle.table.specs.Mask.{bit, members_from, members, mask_of}
use Rattle.table.specs.MaskLaws.{bit_mask_of, bit_mask_of_above, members_is}
use Rattle.table.specs.Table.{node_at, proc_at, arc_to, arc_no, arcs, no_slot, parts}
use Rattle.table.specs.declared.Slot.{Slot}
use Rattle.table.specs.declared.Table.{Table}
use Rattle.table.specs.Reach.{Reach, source, edge, mem, closure}
use Rattle.table.specs.ReachLaws.{closure_sound, closure_complete}
use Rattle.closing.specs.Dirty.{Unkept, Leads, target, through}
use Rattle.closing.specs.ClosedTable.{NewArc}
use Rattle.closing.specs.Closing.{up_to, dirty, kept}
use Rattle.closing.specs.Close.{unkept_arcs, kept_among, new_arc}
use Rattle.closing.proofs.ListLaws.{All, all_nil, all_map, all_each, in_each, in_up_to}
use Rattle.closing.proofs.KeptLaws.{unkept_is, kept_is}

-- a member has a place in a mask
member_below : {k : ℕ} (m : ℕ) → Memᴰ k (members m) → k < 32
member_below {k} m d = ((members_is k m).0 d).1

module _ (t : Table) (p : ℕ) where
  abbrev es : List (ℕ × ℕ)
  es = unkept_arcs t (dirty t) p

  -- ---- the edges are the arcs of the nodes that are not kept

  abbrev IsArc : ℕ × ℕ → Type 0
  IsArc e = Unkept t p e.0 × Memᴰ e.1 (arcs (node_at t p e.0))

  arcs_sound : All IsArc es
  unfolding unkept_arcs
  arcs_sound = all_each IsArc _ _ (λ n _. cases (kept (dirty t) p n (node_at t p n))
      (λ k. rw k (all_nil IsArc))
      (λ k. rw k (all_map IsArc (λ m. (n, m)) (arcs (node_at t p n)) (λ m d. ((unkept_is t p n).0 k, d)))))

  arcs_in : (n m : ℕ) → Unkept t p n → Memᴰ m (arcs (node_at t p n)) → Memᴰ (n, m) es
  unfolding unkept_arcs parts members_from bit
  arcs_in n m u d = cases (ltb n (length (proc_at t p).slots))
      (λ k. in_each _ n (n, m) (up_to (length (proc_at t p).slots)) (in_up_to n _ (ltb-true n _ k)) (rw ((unkept_is t p n).1 u) (Memᴰ.map (λ m. (n, m)) d)))
      (λ k. absurd (Memᴰ.not-nil (rw (ap (λ (x : Slot). x.node) (get_or-eq_default (proc_at t p).slots no_slot (ltb-false n _ k))) at d)))

  -- ---- so what is reached is what the arc leads to

  reach_leads : (ms : List ℕ) (k : ℕ) → Reach ms es k → Leads t p ms k
  reach_leads ms k (source d) = target d
  reach_leads ms k (edge {a = n} d r) = let a = arcs_sound (n, k) d in through n a.0 a.1 (reach_leads ms n r)

  leads_reach : (ms : List ℕ) (k : ℕ) → Leads t p ms k → Reach ms es k
  leads_reach ms k (target d) = source d
  leads_reach ms k (through n u d l) = edge (arcs_in n k u d) (leads_reach ms n l)

  -- every target has a place in a mask, so what an arc leads to has one
  pub leads_below : (m k : ℕ) → Leads t p (members m) k → k < 32
  leads_below m k (target d) = member_below m d
  leads_below m k (through n u d l) = go (Memᴰ.append_cases (members (arc_to (node_at t p n))) d)
    where
      go : Memᴰ k (members (arc_to (node_at t p n))) ⊎ Memᴰ k (members (arc_no (node_at t p n))) → k < 32
      go (inl e) = member_below _ e
      go (inr e) = member_below _ e

  -- the new arc of an arc m
  pub arc_is : (m : ℕ) → NewArc t p m (new_arc t (dirty t) p (unkept_arcs t (dirty t) p) m)
  unfolding new_arc kept_among
  arc_is m k = (out, λ h. bit_mask_of 32 k passes (leads_below m k h.0) ∙ rw (closure_complete eqb eqb-true (λ x. eq-eqb x x refl) (members m) es k (leads_reach (members m) k h.0), (kept_is t p k).1 h.1))
    where
      passes : ℕ → Bool
      passes k = mem eqb k (closure eqb (members m) es) && kept (dirty t) p k (node_at t p k)

      both : (a b : Bool) → a && b ≡ true → (a ≡ true) × (b ≡ true)
      both true b e = (refl, e)
      both false b e = absurd (false≢true e)

      out : bit k (mask_of 32 passes) ≡ true → Leads t p (members m) k × (Unkept t p k → ⊥)
      out h = cases (ltb k 32)
          (λ l. let r = both _ _ (sym (bit_mask_of 32 k passes (ltb-true k 32 l)) ∙ h) in (reach_leads (members m) k (closure_sound eqb eqb-true (λ x. eq-eqb x x refl) (members m) es k r.0), (kept_is t p k).0 r.1))
          (λ l. absurd (false≢true (sym (bit_mask_of_above 32 k passes (ltb-false k 32 l)) ∙ h)))
