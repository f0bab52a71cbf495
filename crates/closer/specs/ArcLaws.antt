-- Where the code's search leads is where the arcs lead: the new arcs are the definition's.
use Rattle.std.specs.Prelude.{ℕ, ◌*◌, ◌<◌, ◌≡◌, refl, false, ◌⊎◌}
use native.Mathlib.Omega.{arith}
use Rattle.std.proofs.Math.Path.{sym}
use Rattle.std.proofs.Common.{◌∙◌, subst}
use Rattle.std.proofs.Math.Logic.{inl, inr}
use mathlib.Core.List.Memᴰ
use mathlib.Core.List.{List, [], ◌∷◌, Memᴰ}
use Rattle.table.specs.Mask.{bit, members, mask_of}
use Rattle.table.specs.Table.{proc_at, node_at, arcs, Exit, parts}
use Rattle.table.specs.declared.Node.{Node}
use Rattle.table.specs.declared.Table.{Table}
use Rattle.closing.specs.Dirty.{Unkept, no_node, Leads, target, through}
use Rattle.closing.specs.ClosedTable.{NewArc}
use Rattle.closing.specs.Closing.{dirty}
use Rattle.closing.specs.Close.{unkept_arcs, new_arc}
use Rattle.closing.proofs.KeptLaws.{unkept_is, kept_is}
use Rattle.closing.proofs.ArcLaws.{arc_is}
use Rattle.closing.proofs.ClosedTableLaws.{arc_only}
use Rattle.masks.specs.Cells.{Filled}
use Rattle.flow.specs.Flow.{low, first_to, second_to, flow_of}
use Rattle.analysis.specs.Ready.{One, Ready}
use Rattle.analysis.specs.Decides.{Decides}
use Rattle.analysis.specs.Steps.{kept_in}
use Rattle.analysis.specs.NodeLaws.{low_in, low_only, no_arc, targets, first_in, second_in, Places, flow_places}
use Rattle.analysis.specs.Decide.{present}
use Rattle.analysis.specs.KeptLaws.{kept_bit}
use Rattle.reach.specs.Reach as Search
use Rattle.closer.specs.Parts.{end_of, arc_in}

module _ (t : Table) (p : ℕ) where
  -- a longer way, by one node before it
  before : {n m k : ℕ} → Unkept t p n → Memᴰ m (arcs (node_at t p n)) → Leads t p (m ∷ []) k → Leads t p (n ∷ []) k
  before {n} {m} {k} u a (target (Memᴰ.head e)) = through {m = k} n u (rw e a) (target (Memᴰ.head refl))
  before {n} {m} {k} u a (target (Memᴰ.tail e)) = absurd (Memᴰ.not-nil e)
  before u a (through j v b l) = through j v b (before u a l)

  -- the same ways from other targets
  widen : {ms ns : List ℕ} {k : ℕ} → ((m : ℕ) → Memᴰ m ms → Memᴰ m ns) → Leads t p ms k → Leads t p ns k
  widen f (target d) = target (f _ d)
  widen f (through n u d l) = through n u d (widen f l)

module _ (t : Table) (o : Ready t) (l : List ℕ) (d : Decides t l) (p : ℕ) (hp : p < 8) (ends : List ℕ) (ends_are : Filled (λ n. end_of (node_at t p n) n) 32 ends) where
  keeps : ℕ
  keeps = mask_of 32 (kept_in (proc_at t p) (p * 32) l)

  has_arc : (n m : ℕ) → Memᴰ m (arcs (node_at t p n)) → n < 32
  unfolding parts
  has_arc n m a = (present t o p n (λ e. no_arc (subst (λ (x : Node). Memᴰ m (arcs x)) e a))).1

  is_kept : (n : ℕ) → (Unkept t p n → ⊥) → n < 32
  unfolding parts
  is_kept n h = (present t o p n (λ e. h (no_node (rw e)))).1

  unkept : (n : ℕ) → n < 32 → bit n keeps ≡ false → Unkept t p n
  unfolding keeps
  unkept n h e = (unkept_is t p n).0 (sym (kept_bit t o l d p n hp h) ∙ e)

  module _ (n : ℕ) (h : n < 32) where
    abbrev e : Exit
    e = (parts (node_at t p n)).exit

    places : Places (flow_of (node_at t p n) n 0 0)
    places = flow_places (node_at t p n) n 0 0 h

    first_is : Search.first_of ends n ≡ first_to n e
    unfolding flow_of
    first_is = let z = ends_are n h in omega (arith, places.first_low, places.second_low)

    second_is : Search.second_of ends n ≡ second_to n e
    unfolding flow_of
    second_is = let z = ends_are n h in omega (arith, places.first_low, places.second_low)

    -- an end is a target of an arc, or the node itself
    side : {A : Type 0} {m k : ℕ} → m ≡ k → Memᴰ k (arcs (node_at t p n)) ⊎ (A × (k ≡ n)) → Memᴰ m (arcs (node_at t p n)) ⊎ (m ≡ n)
    side z (inl a) = inl (rw z a)
    side z (inr a) = inr (z ∙ a.1)

    end_arc : (m : ℕ) → Search.IsEnd ends n m → Memᴰ m (arcs (node_at t p n)) ⊎ (m ≡ n)
    end_arc m (inl z) = side (z ∙ first_is) (first_in e n (o.fits p n).exit)
    end_arc m (inr z) = side (z ∙ second_is) (second_in e n (o.fits p n).exit)

    -- and a target of an arc is an end
    arc_end : (m : ℕ) → Memᴰ m (arcs (node_at t p n)) → Search.IsEnd ends n m
    unfolding flow_of
    arc_end m a = go (targets t (proc_at t p).vars (node_at t p n) n 0 0 m (o.fits p n) a)
      where
        go : (m ≡ first_to n e) ⊎ (m ≡ second_to n e) → Search.IsEnd ends n m
        go (inl z) = inl (z ∙ sym first_is)
        go (inr z) = inr (z ∙ sym second_is)

  -- ---- the two ways are the same

  to_leads : {n k : ℕ} → n < 32 → Search.Leads keeps ends n k → Leads t p (n ∷ []) k × (Unkept t p k → ⊥)
  unfolding keeps
  to_leads {n} h (Search.here e) = (target (Memᴰ.head refl), (kept_is t p n).0 (sym (kept_bit t o l d p n hp h) ∙ e))
  to_leads {n} {k} h (Search.via m e a r) = go (to_leads (low_end a) r) (end_arc n h m a)
    where
      low_end : Search.IsEnd ends n m → m < 32
      low_end (inl z) = omega arith
      low_end (inr z) = omega arith

      go : Leads t p (m ∷ []) k × (Unkept t p k → ⊥) → Memᴰ m (arcs (node_at t p n)) ⊎ (m ≡ n) → Leads t p (n ∷ []) k × (Unkept t p k → ⊥)
      go w (inl b) = (before t p (unkept n h e) b w.0, w.1)
      go w (inr z) = (rw z at w.0, w.1)

  from_leads : {n m k : ℕ} → Leads t p (n ∷ []) m → Search.Leads keeps ends m k → Search.Leads keeps ends n k
  unfolding keeps
  from_leads (target (Memᴰ.head e)) r = rw e at r
  from_leads (target (Memᴰ.tail e)) r = absurd (Memᴰ.not-nil e)
  from_leads {n} {m} (through j u b w) r = let h = has_arc j m b in
      from_leads w (Search.via m (kept_bit t o l d p j hp h ∙ (unkept_is t p j).1 u) (arc_end j h m b) r)

  -- ---- so the new arcs are the definition's

  module _ (cells : List ℕ) (r : Search.Reaches (mask_of 32 (kept_in (proc_at t p) (p * 32) l)) ends cells) where
    arc_bit : (to : ℕ) → One to → NewArc t p to (arc_in cells to)
    unfolding keeps
    arc_bit to one k = (
      λ e. let w = to_leads h ((r.right (low to) k h).0 e) in (widen t p out w.0, w.1),
      λ w. (r.right (low to) k h).1 (from_leads (widen t p back w.0) (Search.here (kept_bit t o l d p k hp (is_kept k w.1) ∙ (kept_is t p k).1 w.1))),
    )
      where
        h : low to < 32
        h = omega arith

        out : (m : ℕ) → Memᴰ m (low to ∷ []) → Memᴰ m (members to)
        out m (Memᴰ.head e) = rw e (low_in one)
        out m (Memᴰ.tail e) = absurd (Memᴰ.not-nil e)

        back : (m : ℕ) → Memᴰ m (members to) → Memᴰ m (low to ∷ [])
        back m b = Memᴰ.head (low_only one b)

    pub arc_right : (to : ℕ) → One to → arc_in cells to ≡ new_arc t (dirty t) p (unkept_arcs t (dirty t) p) to
    arc_right to one = arc_only t p to _ _ (arc_bit to one) (arc_is t p to)
