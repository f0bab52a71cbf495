-- A closed procedure from the values that the code computes on the way.
use Rattle.std.specs.Prelude.{ℕ, zero, suc, ◌+◌, ◌*◌, ◌/◌, ◌%◌, ◌^◌, ◌<◌, ◌≤◌, Bool, not, List, [], ◌∷◌, length, set, ltb}
use native.Mathlib.Omega.{arith}
use Rattle.std.proofs.Common.{lt_of_lt_of_le, mod-eq_of_lt, ◌∙◌, true≢false, inl, inr, length-set, get_or-set_other, pow_mono}
use Rattle.std.proofs.Math.Path.{◌≡◌, refl, sym, ap}
use Rattle.std.proofs.Math.Bool.{false}
use Rattle.std.proofs.Math.ListN.{get_or}
use Rattle.std.specs.Int.Bits.{bit_or}
use borrow.Author.Tests.{ltb-true, ltb-false, not-true, not-false}
use Rattle.table.specs.Cases.{cases}
use Rattle.table.specs.Mask.{pick, bit, mask_of}
use Rattle.table.specs.MaskLaws.{mask_of_lt, bit_mask_of, bit_mask_of_above, bit_ext}
use Rattle.table.specs.Table.{node_in, no_slot, parts}
use Rattle.table.specs.declared.Node.{Node}
use Rattle.table.specs.declared.Node.TheVariants.{Absent}
use Rattle.table.specs.declared.Slot.{Slot}
use Rattle.table.specs.declared.Proc.{Proc}
use Rattle.masks.specs.Bits.{mask_next}
use Rattle.masks.specs.Cells.{cell, Filled, set_more}
use Rattle.analysis.specs.Steps.{kept_in}
use Rattle.reach.specs.Reach.{IsEnd, Gone, Reaches}
use Rattle.closer.specs.Parts.{two_ends, end_of, node_with, drop_in, arc_in, slot_with, Counted, Sorted, Upto, ClosedProc}

-- a node closed in its place
module _ (q : Proc) (base kept : ℕ) (l arcs : List ℕ) where
  pub upto_none : length q.slots ≡ 32 → Upto q base kept l arcs 0 q
  upto_none h = record { head = refl; size = h; done = λ n b. absurd (omega arith); rest = λ n b. refl }

  slot_of : (n : ℕ) (x : Node) (k : Bool) {y : Node} → x ≡ node_in q n → k ≡ bit (n % 32) kept → y ≡ pick k (node_with (cell l (base + n)) (drop_in l) (cell l 264) (arc_in arcs) x) Absent → ◌≡◌ {A = Slot} (record { node = y }) (slot_with q base kept l arcs n)
  unfolding slot_with
  slot_of n x k z e f = rw (f, e, z)

  pub upto_next : (n : ℕ) (k : Bool) {y : Node} (r : Proc) → n < 32 → Upto q base kept l arcs n r → k ≡ bit (n % 32) kept
      → y ≡ pick k (node_with (cell l (base + n)) (drop_in l) (cell l 264) (arc_in arcs) (node_in r n)) Absent
      → Upto q base kept l arcs (n + 1) (record { params = r.params; vars = r.vars; nodes = r.nodes; drop = r.drop; slots = set r.slots n (record { node = y }) })
  upto_next n k {y} r i h e f = record {
    head = ap (λ (x : Proc). record { params = x.params; vars = x.vars; nodes = x.nodes; drop = x.drop; slots = set r.slots n (record { node = y }) }) h.head;
    size = length-set r.slots n _ ∙ h.size;
    done = set_more no_slot (slot_with q base kept l arcs) n _ r.slots (omega (arith, h.size)) (slot_of n (node_in r n) k (ap (λ (s : Slot). s.node) (h.rest n (omega arith))) e f) h.done;
    rest = λ m b. get_or-set_other r.slots n m _ no_slot (omega arith) ∙ h.rest m (omega arith);
  }

-- the places from k on, each with itself as its targets
abbrev places : ℕ → ℕ → List ℕ
places zero k = []
places (suc n) k = two_ends k k ∷ places n (suc k)

places_at : (n k a : ℕ) → a < n → get_or (places n k) a 0 ≡ two_ends (k + a) (k + a)
places_at zero k a h = absurd (omega arith)
places_at (suc n) k zero h = omega arith
places_at (suc n) k (suc a) h = places_at n (suc k) a (omega arith) ∙ omega arith

-- the nodes sorted one by one
module _ (q : Proc) (base : ℕ) (l : List ℕ) where
  pub sorted_none : Sorted q base l 0 0 0 (places 32 0)
  unfolding mask_of
  sorted_none = record { kept_is = refl; gone_is = refl; size = refl; done = λ a h. absurd (omega arith); rest = λ a h b. places_at 32 0 a b ∙ omega arith }

  pub sorted_next : {n kept gone kept' gone' e : ℕ} {ends : List ℕ} (x : Bool) → n < 32 → Sorted q base l n kept gone ends → x ≡ kept_in q base l n
      → kept' ≡ pick x (bit_or kept (1 * 2 ^ n)) kept → gone' ≡ pick (not x) (bit_or gone (1 * 2 ^ n)) gone → e ≡ end_of (node_in q n) n → Sorted q base l (n + 1) kept' gone' (set ends n e)
  sorted_next {n} {kept} {gone} {ends = ends} x h s y u v w = record {
    kept_is = mask_next _ n kept x s.kept_is y u;
    gone_is = mask_next _ n gone (not x) s.gone_is (ap not y) v;
    size = length-set ends n _ ∙ s.size;
    done = set_more 0 _ n _ ends (omega (arith, s.size)) w s.done;
    rest = λ a i b. get_or-set_other ends n a _ 0 (omega arith) ∙ s.rest a (omega arith) b;
  }

  module _ {n kept gone : ℕ} {ends : List ℕ} (s : Sorted q base l n kept gone ends) where
    -- below n a node is kept or gone
    kept_below : (a : ℕ) → a < n → bit a kept ≡ kept_in q base l a
    kept_below a h = rw s.kept_is (bit_mask_of n a _ h)

    gone_below : (a : ℕ) → a < n → bit a gone ≡ not (kept_in q base l a)
    gone_below a h = rw s.gone_is (bit_mask_of n a _ h)

    -- from n on none is
    kept_above : (a : ℕ) → n ≤ a → bit a kept ≡ false
    kept_above a h = rw s.kept_is (bit_mask_of_above n a _ h)

    itself : (a m : ℕ) → n ≤ a → a < 32 → IsEnd ends a m → m ≡ a
    itself a m h b (inl x) = let f : get_or ends a 0 / 32 ≡ a = omega (arith, s.rest a h b) in x ∙ rw f (mod-eq_of_lt b)
    itself a m h b (inr x) = omega (arith, s.rest a h b, x)

    pub sorted_gone : Gone kept gone ends
    sorted_gone = record {
      unkept = λ a h. cases (ltb a n) (λ e. let b = ltb-true a n e in kept_below a b ∙ not-true _ (sym (gone_below a b) ∙ h)) (λ e. kept_above a (ltb-false a n e));
      others = λ a m b h i x. cases (ltb a n)
          (λ e. let c = ltb-true a n e in absurd (true≢false (sym (not-false _ (sym (gone_below a c) ∙ i)) ∙ sym (kept_below a c) ∙ h)))
          (λ e. itself a m (ltb-false a n e) b x);
    }

    -- all are sorted
    module _ (c : Counted q) (full : n ≡ q.nodes) where
      none : (a : ℕ) → n ≤ a → node_in q a ≡ Absent
      none a h = c.beyond a (omega (arith, full))

      all_kept : kept ≡ mask_of 32 (kept_in q base l)
      unfolding parts
      all_kept = bit_ext 32 _ _ small (mask_of_lt 32 _) (λ a b. cases (ltb a n) (λ e. kept_below a (ltb-true a n e)) (λ e. kept_above a (ltb-false a n e) ∙ rw (none a (ltb-false a n e)) refl) ∙ sym (bit_mask_of 32 a _ b))
        where
          small : kept < 2 ^ 32
          small = let h : n ≤ 32 = omega (arith, c.few, full) in rw s.kept_is (lt_of_lt_of_le (mask_of_lt n _) (pow_mono h))

      all_ends : Filled (λ a. end_of (node_in q a) a) 32 ends
      unfolding parts
      all_ends a b = cases (ltb a n) (λ e. s.done a (ltb-true a n e)) (λ e. s.rest a (ltb-false a n e) b ∙ rw (none a (ltb-false a n e)) refl)

      -- a place without a node stays so
      all_slots : (k : ℕ) (arcs : List ℕ) (r : Proc) → k ≡ q.nodes → Upto q base kept l arcs k r → (a : ℕ) → a < 32 → get_or r.slots a no_slot ≡ slot_with q base kept l arcs a
      unfolding slot_with
      all_slots k arcs r f u a b = cases (ltb a k) (λ e. u.done a (ltb-true a k e)) (λ e. stays (omega (arith, ltb-false a k e)))
        where
          stays : n ≤ a → get_or r.slots a no_slot ≡ slot_with q base kept l arcs a
          stays h =
              let o : bit (a % 32) kept ≡ false = rw (mod-eq_of_lt b) (kept_above a h) in
              let y : ◌≡◌ {A = Slot} (get_or q.slots a no_slot) (record { node = Absent }) = ap (λ (x : Node). record { node = x }) (none a h) in
              u.rest a (omega arith) ∙ y ∙ rw o refl

pub made : {q : Proc} {p n k kept gone : ℕ} {l ends arcs : List ℕ} {r : Proc}
    → Counted q → n ≡ q.nodes → k ≡ q.nodes
    → Sorted q (p * 32) l n kept gone ends
    → Reaches kept ends arcs
    → Upto q (p * 32) kept l arcs k r
    → ClosedProc q p l (record { params = r.params; vars = r.vars; nodes = r.nodes; drop = cell l (256 + p) % 256; slots = r.slots })
made {q} {p} {k = k} {l = l} {ends} {arcs} {r} c e f s g h =
    let m = all_kept q (p * 32) l s c e in
    record {
      ends = ends;
      ends_are = all_ends q (p * 32) l s c e;
      arcs = arcs;
      reaches = rw m at g;
      slots = r.slots;
      size = h.size;
      slots_are = λ a b. rw m at (all_slots q (p * 32) l s c e k arcs r f h a b);
      is = ap (λ (x : Proc). record { params = x.params; vars = x.vars; nodes = x.nodes; drop = cell l (256 + p) % 256; slots = r.slots }) h.head;
    }
