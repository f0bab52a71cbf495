-- Masks that are made procedure by procedure, up to the table's counts: in each the nodes that pass a test. None passes where there is no node.
use Rattle.std.specs.Prelude.{ℕ, ◌+◌, ◌<◌, ◌≤◌, ◌≡◌, Bool, false, List, length, get_or, take, set, replicate}
use Rattle.std.proofs.Common.{arith, lt_of_lt_of_le, sym, ◌∙◌, ap, length-take, get_or-take, inl, inr, length-set, get_or-set_other, pow_pos, pow_mono}
use Rattle.std.proofs.lemmas.List.{length-replicate}
use Rattle.table.specs.Mask.{bit, mask_of}
use Rattle.table.specs.MaskLaws.{mask_of_lt, bit_mask_of, bit_mask_of_above}
use Rattle.table.specs.Table.{proc_at, node_at, node_in}
use Rattle.table.specs.declared.Node.TheVariants.{Absent}
use Rattle.table.specs.declared.Proc.{Proc}
use Rattle.table.specs.declared.Slot.{Slot}
use Rattle.table.specs.declared.Table.{Table}
use Rattle.text.proofs.NumberLaws.{by_order}
use Rattle.masks.specs.Bits.{bit_zero}
use Rattle.masks.specs.Cells.{cell, Masks, Filled, set_more, cell_zeros}
use Rattle.analysis.specs.Ready.{Ready}

-- the masks of the first p procedures are made, the others are 0
pub record Marked (t : Table) (f : ℕ → ℕ → Bool) (p : ℕ) (r : List ℕ) : Type 0 where
  pub size : length r ≡ 8
  pub made : Filled (λ j. mask_of (proc_at t j).nodes (f j)) p r
  pub rest : (j : ℕ) → p ≤ j → cell r j ≡ 0

pub marked_start : (t : Table) (f : ℕ → ℕ → Bool) → Marked t f 0 (replicate 8 0)
marked_start t f = record { size = length-replicate {A = ℕ} 8 0; made = λ j h. absurd (omega arith); rest = λ j h. cell_zeros 8 j }

pub marked_next : {t : Table} {f : ℕ → ℕ → Bool} {r : List ℕ} {m : ℕ} (p : ℕ) → p < 8 → m ≡ mask_of (proc_at t p).nodes (f p) → Marked t f p r → Marked t f (p + 1) (set r p m)
marked_next {t} {f} {r} {m} p h e g = record {
  size = length-set r p m ∙ g.size;
  made = set_more 0 (λ j. mask_of (proc_at t j).nodes (f j)) p m r (omega (arith, g.size)) e g.made;
  rest = λ j l. rw (get_or-set_other r p j m 0 (omega arith)) (g.rest j (omega arith));
}

module _ {t : Table} {f : ℕ → ℕ → Bool} {p : ℕ} {r : List ℕ} (o : Ready t) (g : Marked t f p r) where
  pub marked_masks : Masks 8 32 r
  marked_masks = record {
    size = g.size;
    below = λ a. by_order a p (λ l. rw (g.made a l) (lt_of_lt_of_le (mask_of_lt (proc_at t a).nodes (f a)) (pow_mono (o.nodes_few a)))) (λ l. rw (g.rest a l) (pow_pos 32));
  }

  -- with all procedures each node has its answer
  pub marked_right : t.procs ≤ p → ((a n : ℕ) → node_at t a n ≡ Absent → f a n ≡ false) → (a n : ℕ) → bit n (cell r a) ≡ f a n
  marked_right h none a n = by_order a p
      (λ l. rw (g.made a l) (by_order n (proc_at t a).nodes (bit_mask_of (proc_at t a).nodes n (f a)) (λ k. bit_mask_of_above (proc_at t a).nodes n (f a) k ∙ sym (none a n (o.beyond a n (inr k))))))
      (λ l. rw (g.rest a l) (bit_zero n ∙ sym (none a n (o.beyond a n (inl (omega arith))))))

-- the nodes of a procedure, up to its count
pub front_node : (q : Proc) (n : ℕ) → n < length (take q.nodes q.slots) → (get_or (take q.nodes q.slots) n (record { node = Absent })).node ≡ node_in q n
front_node q n h = let z : n < q.nodes = omega (arith, length-take q.nodes q.slots) in ap (λ (s : Slot). s.node) (get_or-take q.nodes q.slots n _ z)
