-- The cells say exactly what is dirty, once no node adds anything to them.
use Prim.Native.Nat.{ℕ, suc, ◌+◌, ◌*◌, ◌/◌, ◌%◌, ◌-◌, ◌^◌, ◌<◌, ◌≤◌}
use native.Mathlib.Omega.{arith}
use Rattle.std.proofs.Math.Nat.{mod-eq_of_lt}
use Rattle.std.proofs.Math.Path.{◌≡◌, refl, subst}
use Rattle.std.proofs.Common.{sym, ◌∙◌, ap, inl, inr, pow_pos}
use Rattle.std.specs.Prelude.{Bool, ◌⊎◌, ◌≢◌, get_or, replicate, eqb}
use Rattle.std.proofs.Math.Bool.{true, false}
use Rattle.std.proofs.lemmas.Bool.{false≢true}
use Rattle.std.proofs.Math.Option.{Option, none, some}
use mathlib.Core.List.{List, ◌++◌, Memᴰ}
use Rattle.std.proofs.Math.ListN.{length-replicate, get_or-eq_default}
use Rattle.std.proofs.Math.Pow.{pow-lt}
use Rattle.std.proofs.Math.Dec.{ltb}
use borrow.Author.Tests.{ltb-true, ltb-false, lt-ltb, le-ltb, eqb-true, eqb-false}
use Rattle.table.specs.Cases.{cases}
use Rattle.table.specs.Mask.{pick, bit, members}
use Rattle.table.specs.Table.{no_slot, outside, proc_at, node_at, task_at, variable_set, arcs, first_arc, second_arc, arg_at, Exit, ends, by, either, Act, alone, waits, signals, sends, receives, calls, returns, act, parts}
use Rattle.table.specs.declared.Node.{Node}
use Rattle.table.specs.declared.Node.TheVariants.{Absent}
use Rattle.table.specs.declared.Slot.{Slot}
use Rattle.table.specs.declared.Proc.{Proc}
use Rattle.table.specs.declared.Table.{Table}
use Rattle.closing.specs.Dirty.{Fact, setting_at, entry_at, dirty_before, dropped, blank, Clear, here, on, Dirty, by_read, by_set, by_recv, by_entry, from_node, from_entry, top, passed, sent}
use Rattle.closing.proofs.DirtyLaws.{use_on, dropped_low}
use Rattle.masks.specs.Bits.{bit_zero, bit_low, bit_low_out}
use Rattle.masks.specs.Cells.{cell, grown, Masks, grown_grows, grown_masks, Sound, grown_sound, grown_has, grown_adds, cell_zeros}
use Rattle.flow.specs.declared.Flow.{Flow}
use Rattle.flow.specs.Flow.{set_dirty, first_to, second_to, after_any, out_by, add_by, flow_of}
use Rattle.analysis.specs.Ready.{FitsAct, FitsNode, Ready}
use Rattle.analysis.specs.Decides.{Decides}
use Rattle.analysis.specs.Steps.{In, entered, passed_on, step_with, Rests, top_step}
use Rattle.analysis.specs.NodeLaws.{no_arc, targets, first_in, second_in, Places, flow_places, flow_small, after_out, var_mod, ByRule, by_never, by_use, by_blank, rule_of, of_rule, out_after, out_along, passed_of, passed_out, arg_in, arg_at_lem, sent_of, sent_out}

-- the fact that bit v of cell a stands for
unfoldable pub fact_of : ℕ → ℕ → Fact
fact_of a v = pick (ltb a 256) (dirty_before (a / 32) (a % 32) v) (pick (ltb a 264) (dropped (a - 256) v) (blank v))

fact_use : (p n v : ℕ) → p < 8 → n < 32 → fact_of (p * 32 + n) v ≡ dirty_before p n v
unfolding fact_of
fact_use p n v h k =
    let e : (p * 32 + n) / 32 ≡ p = omega arith in
    let f : (p * 32 + n) % 32 ≡ n = omega arith in
    rw (lt-ltb (p * 32 + n) 256 (omega arith), e, f)

fact_drop : (p i : ℕ) → p < 8 → fact_of (256 + p) i ≡ dropped p i
unfolding fact_of
fact_drop p i h =
    let e : 256 + p - 256 ≡ p = omega arith in
    rw (le-ltb (256 + p) 256 (omega arith), lt-ltb (256 + p) 264 (omega arith), e)

fact_blank : (q : ℕ) → fact_of 264 q ≡ blank q
unfolding fact_of
fact_blank q = refl

-- what is in a cell after a mask is added
pub grown_out : (l : List ℕ) (a m b k : ℕ) → bit k (cell (grown l a m) b) ≡ true → (bit k (cell l b) ≡ true) ⊎ ((b ≡ a) × (bit k m ≡ true))
unfolding Sound
grown_out l a m b k h = grown_sound (λ b k. (bit k (cell l b) ≡ true) ⊎ ((b ≡ a) × (bit k m ≡ true))) l a m (λ b k h. inl h) (λ k h. inr (refl, h)) b k h

module _ (t : Table) (o : Ready t) where
  -- ---- sound: every bit stands for what is dirty

  -- every task's dropped parameters are in the cells
  abbrev Tops : ℕ → List ℕ → Type 0
  Tops n l = (k i : ℕ) → k < n → i < (proc_at t (task_at t k).top).params → bit i (cell l (256 + (task_at t k).top)) ≡ true

  -- dropped parameters are dirty at the entry
  abbrev Entry : List ℕ → Type 0
  Entry l = (p : ℕ) → p < 8 → In (cell l (256 + p)) l (p * 32 + 0)

  -- with the first n tasks' parameters
  pub record Upto (n : ℕ) (l : List ℕ) : Type 0 where
    pub masks : Masks 265 32 l
    pub sound : Sound (λ a v. Dirty t (fact_of a v)) l
    pub tops : Tops n l
    pub entry : Entry l

  abbrev pub Good : List ℕ → Type 0
  Good l = Upto t.tasks l

  module _ (p n i b : ℕ) (H : (v : ℕ) → bit v i ≡ true → Dirty t (dirty_before p n v)) (HB : (q : ℕ) → bit q b ≡ true → Dirty t (blank q)) where
    abbrev x : Node
    x = node_at t p n

    fit : FitsNode t (proc_at t p).vars x
    fit = o.fits p n

    -- what the node sets is dirty
    set_sound : (w : ℕ) → variable_set x ≡ some w → ByRule x i b → Dirty t (setting_at p n)
    set_sound w s (by_never e) = by_read e
    set_sound w s (by_use u m h) = by_set w u s m (H u (rw (var_mod (o.vars_few p) (fit.uses u m)) at h))
    set_sound w s (by_blank q v e h) = by_recv q v e (HB q (let j : q % 32 ≡ q = mod-eq_of_lt (omega (arith, subst (FitsAct t (proc_at t p).vars) e fit.act)) in rw j at h))

    -- along an arc goes what is dirty after the node
    along : (m v : ℕ) (s : Option ℕ) → variable_set x ≡ s → Memᴰ m (arcs x) → bit v (after_any s i (set_dirty x i b)) ≡ true → Dirty t (dirty_before p m v)
    along m v none s a h = use_on t (λ e. let z : ◌≡◌ {A = ℕ} 0 1 = cc in absurd (omega arith)) a (H v h)
    along m v (some w) s a h = go (after_out i w v (set_dirty x i b) (rw (var_mod (o.vars_few p) (fit.sets w s)) at h))
      where
        go : ((set_dirty x i b ≡ true) × (v ≡ w)) ⊎ ((bit v i ≡ true) × (w ≢ v)) → Dirty t (dirty_before p m v)
        go (inl r) = rw r.1 (from_node n m (fit.sets w s) s a here (set_sound w s (rule_of x i b r.0)))
        go (inr r) = use_on t (λ e. r.1 cc) a (H v r.0)

    -- by an exit: along its arc, or without one at the node
    out_sound : (to : ℕ) (e : Exit) → (parts x).exit ≡ e → (Memᴰ to (arcs x)) ⊎ ((e ≡ ends) × (to ≡ n)) → (v : ℕ) → bit v (out_by e i (after_any (variable_set x) i (set_dirty x i b))) ≡ true → Dirty t (dirty_before p to v)
    out_sound to ends e (inr k) v h = rw k.1 (H v h)
    out_sound to ends e (inl a) v h = no_arc (subst (λ (z : Exit). Memᴰ to (members (first_arc z) ++ members (second_arc z))) e a)
    out_sound to (by m) e (inl a) v h = along to v (variable_set x) refl a h
    out_sound to (by m) e (inr k) v h = let z : ◌≡◌ {A = ℕ} 0 1 = cc k.0 in absurd (omega arith)
    out_sound to (either y z) e (inl a) v h = along to v (variable_set x) refl a h
    out_sound to (either y z) e (inr k) v h = let z : ◌≡◌ {A = ℕ} 0 1 = cc k.0 in absurd (omega arith)

    pub record Flows (f : Flow) : Type 0 where
      pub to_first : (v : ℕ) → bit v f.out ≡ true → Dirty t (dirty_before p f.first v)
      pub to_second : (v : ℕ) → bit v f.out ≡ true → Dirty t (dirty_before p f.second v)
      pub to_extra : (v : ℕ) → bit v f.add ≡ true → Dirty t (fact_of f.extra v)

    none_of : {P : Type 0} (v : ℕ) → bit v 0 ≡ true → P
    none_of v h = absurd (false≢true (sym (bit_zero v) ∙ h))

    add_sound : (a : Act) → act x ≡ a → FitsAct t (proc_at t p).vars a → (v : ℕ) → bit v (add_by a i).1 ≡ true → Dirty t (fact_of (add_by a i).0 v)
    add_sound alone e f v h = none_of v h
    add_sound (waits s) e f v h = none_of v h
    add_sound (signals s) e f v h = none_of v h
    add_sound (sends q w) e f v h =
        let r = sent_out i q w v h in
        let z : v ≡ q = r.0 ∙ mod-eq_of_lt (omega (arith, f.0)) in
        rw (z, fact_blank q) (sent p n w e (H w (rw (var_mod (o.vars_few p) f.1) at r.1)))
    add_sound (receives q w) e f v h = none_of v h
    add_sound (calls q xs) e f v h =
        let r = passed_out i v xs h in
        rw (mod-eq_of_lt f.0, fact_drop q v f.0) (passed {q = q} {i = v} p n (arg_at xs v) xs (omega (arith, r.0, f.1)) e (arg_in xs v r.0 r.1) (H (arg_at xs v) (rw (var_mod (o.vars_few p) (f.2 v r.0)) at r.2)))
    add_sound returns e f v h = none_of v h

    node_sound : Flows (flow_of x n i b)
    unfolding flow_of
    node_sound = record {
      to_first = out_sound (first_to n (parts x).exit) (parts x).exit refl (first_in (parts x).exit n fit.exit);
      to_second = out_sound (second_to n (parts x).exit) (parts x).exit refl (second_in (parts x).exit n fit.exit);
      to_extra = add_sound (act x) refl fit.act;
    }

  grown_good : {n : ℕ} (l : List ℕ) (a m : ℕ) → ((p : ℕ) → p < 8 → 256 + p ≢ a) → m < 2 ^ 32 → ((v : ℕ) → bit v m ≡ true → Dirty t (fact_of a v)) → Upto n l → Upto n (grown l a m)
  grown_good {n} l a m apart s f g = record {
    masks = grown_masks a m g.masks s;
    sound = grown_sound (λ a v. Dirty t (fact_of a v)) l a m g.sound f;
    tops = λ k i h j. grown_has l a m _ i (g.tops k i h j);
    entry = λ p hp k h. grown_has l a m (p * 32 + 0) k (g.entry p hp k (go p hp k (grown_out l a m (256 + p) k h)));
  }
    where
      go : (p : ℕ) → p < 8 → (k : ℕ) → (bit k (cell l (256 + p)) ≡ true) ⊎ ((256 + p ≡ a) × (bit k m ≡ true)) → bit k (cell l (256 + p)) ≡ true
      go p hp k (inl h) = h
      go p hp k (inr h) = absurd (apart p hp h.0)

  entered_good : {n : ℕ} (l : List ℕ) (k m : ℕ) → k < 8 → m < 2 ^ 32 → ((v : ℕ) → bit v m ≡ true → Dirty t (dropped k v)) → Upto n l → Upto n (entered l k m)
  unfolding entered
  entered_good {n} l k m hk s f g = record {
    masks = grown_masks (256 + k) m (grown_masks (k * 32 + 0) m g.masks s) s;
    sound = grown_sound (λ a v. Dirty t (fact_of a v)) l1 (256 + k) m (grown_sound (λ a v. Dirty t (fact_of a v)) l (k * 32 + 0) m g.sound at_entry) (λ v h. rw (fact_drop k v hk) (f v h));
    tops = λ j i h e. grown_has l1 (256 + k) m _ i (grown_has l (k * 32 + 0) m _ i (g.tops j i h e));
    entry = λ p hp j h. grown_has l1 (256 + k) m (p * 32 + 0) j (outer p hp j (grown_out l1 (256 + k) m (256 + p) j h));
  }
    where
      l1 : List ℕ
      l1 = grown l (k * 32 + 0) m

      at_entry : (v : ℕ) → bit v m ≡ true → Dirty t (fact_of (k * 32 + 0) v)
      at_entry v h = let d = f v h in rw (fact_use k 0 v hk (omega arith)) (from_entry {p = k} {n = 0} {v = v} (omega (arith, dropped_low t k v d, o.params_are_vars k)) here (by_entry d))

      inner : (p : ℕ) → p < 8 → (j : ℕ) → (bit j (cell l (256 + p)) ≡ true) ⊎ ((256 + p ≡ k * 32 + 0) × (bit j m ≡ true)) → bit j (cell l1 (p * 32 + 0)) ≡ true
      inner p hp j (inl h) = grown_has l (k * 32 + 0) m (p * 32 + 0) j (g.entry p hp j h)
      inner p hp j (inr h) = absurd (omega (arith, h.0))

      outer : (p : ℕ) → p < 8 → (j : ℕ) → (bit j (cell l1 (256 + p)) ≡ true) ⊎ ((256 + p ≡ 256 + k) × (bit j m ≡ true)) → bit j (cell l1 (p * 32 + 0)) ≡ true
      outer p hp j (inl h) = inner p hp j (grown_out l (k * 32 + 0) m (256 + p) j h)
      outer p hp j (inr h) = let z : p ≡ k = omega (arith, h.0) in rw z (grown_adds l (k * 32 + 0) m j (omega (arith, g.masks.size)) h.1)

  passed_good : (l : List ℕ) (a m : ℕ) → 256 ≤ a → a < 265 → m < 2 ^ 32 → ((v : ℕ) → bit v m ≡ true → Dirty t (fact_of a v)) → Good l → Good (passed_on l a m)
  unfolding passed_on
  passed_good l a m lo hi s f g = go (ltb a 264) refl
    where
      go : (b : Bool) → ltb a 264 ≡ b → Good (pick b (entered l (a - 256) m) (grown l a m))
      go true e =
          let h = ltb-true a 264 e in
          let z : a ≡ 256 + (a - 256) = omega arith in
          entered_good l (a - 256) m (omega arith) s (λ v b. rw (fact_drop (a - 256) v (omega arith)) at (subst (λ (x : ℕ). Dirty t (fact_of x v)) z (f v b))) g
      go false e = let h = ltb-false a 264 e in grown_good l a m (λ p hp z. omega arith) s f g

  at_use : (p n v : ℕ) → p < 8 → n < 32 → Dirty t (dirty_before p n v) → Dirty t (fact_of (p * 32 + n) v)
  at_use p n v h k d = rw (fact_use p n v h k) d

  pub step_good : (l : List ℕ) (p n : ℕ) → p < 8 → n < 32 → Good l → Good (step_with (flow_of (node_at t p n) n (cell l (p * 32 + n)) (cell l 264)) p l)
  unfolding step_with Sound
  step_good l p n hp hn g =
      let i = cell l (p * 32 + n) in
      let b = cell l 264 in
      let w = node_sound p n i b (λ v h. rw (fact_use p n v hp hn) at (g.sound (p * 32 + n) v h)) (λ q h. rw (fact_blank q) at (g.sound 264 q h)) in
      let k = flow_places (node_at t p n) n i b hn in
      let z = flow_small (node_at t p n) n i b (g.masks.below (p * 32 + n)) in
      passed_good _ _ _ k.extra_high k.extra_low z.add_small w.to_extra
      (grown_good _ _ _ (λ q hq e. omega (arith, k.second_low)) z.out_small (λ v h. at_use p _ v hp k.second_low (w.to_second v h))
      (grown_good l _ _ (λ q hq e. omega (arith, k.first_low)) z.out_small (λ v h. at_use p _ v hp k.first_low (w.to_first v h)) g))

  -- ---- before the first step

  few : (j : ℕ) → j ≤ 4 → 2 ^ j - 1 < 2 ^ 32
  few j h = omega (arith, pow-lt {i = j} {j = 32} (omega arith))

  pub top_begun : (n : ℕ) (l : List ℕ) → n < t.tasks → Upto n l → Upto (suc n) (top_step t l n)
  unfolding top_step entered
  top_begun n l h g = record {
    masks = next.masks;
    sound = next.sound;
    tops = λ k i a b. cases (eqb k n)
        (λ e. let z : k ≡ n = eqb-true k n e in subst (λ (j : ℕ). bit i (cell (entered l p m) (256 + (task_at t j).top)) ≡ true) (sym z) (own i (subst (λ (j : ℕ). i < (proc_at t (task_at t j).top).params) z b)))
        (λ e. next.tops k i (omega (arith, eqb-false k n e)) b);
    entry = next.entry;
  }
    where
      p : ℕ
      p = (task_at t n).top

      m : ℕ
      m = 2 ^ (proc_at t p).params - 1

      next : Upto n (entered l p m)
      next = entered_good l p m (o.tops_low n h) (few (proc_at t p).params (o.params_few p)) (λ v e. top n (bit_low_out v (proc_at t p).params e) h refl) g

      own : (i : ℕ) → i < (proc_at t p).params → bit i (cell (entered l p m) (256 + p)) ≡ true
      own i b = grown_adds (grown l (p * 32 + 0) m) (256 + p) m i (omega (arith, o.tops_low n h, g.masks.size, (grown_grows l (p * 32 + 0) m).same_size)) (bit_low i (proc_at t p).params b)

  pub begun : Upto 0 (replicate 265 0)
  unfolding Sound
  begun = record {
    masks = record { size = length-replicate {A = ℕ} 265 0; below = λ a. rw (cell_zeros 265 a) (pow_pos 32) };
    sound = λ a v h. absurd (false≢true (sym (bit_zero v) ∙ (rw (cell_zeros 265 a) at h)));
    tops = λ k i a b. absurd (omega arith);
    entry = λ p hp v h. absurd (false≢true (sym (bit_zero v) ∙ (rw (cell_zeros 265 (256 + p)) at h)));
  }

  -- ---- complete: what is dirty has its bit

  pub present : (p n : ℕ) → (node_at t p n ≡ Absent → ⊥) → (p < 8) × (n < 32)
  present p n f = go (ltb p 8) refl (ltb n 32) refl
    where
      go : (a : Bool) → ltb p 8 ≡ a → (b : Bool) → ltb n 32 ≡ b → (p < 8) × (n < 32)
      go true e true g = (ltb-true p 8 e, ltb-true n 32 g)
      go true e false g = absurd (f (ap (λ (s : Slot). s.node) (get_or-eq_default (proc_at t p).slots no_slot {n = n} (omega (arith, o.slots_size p (ltb-true p 8 e), ltb-false n 32 g)))))
      go false e b g = absurd (f (ap (λ (q : Proc). (get_or q.slots n no_slot).node) (get_or-eq_default t.proc outside {n = p} (omega (arith, o.procs_size, ltb-false p 8 e)))))

  module _ (l : List ℕ) (g : Good l) (e : (p n : ℕ) → p < 8 → n < 32 → Rests t l p n) where
    Holds : Fact → Type 0
    Holds (dirty_before p n v) = (p < 8) × (n < 32) × (bit v (cell l (p * 32 + n)) ≡ true)
    Holds (setting_at p n) = (p < 8) × (n < 32) × (set_dirty (node_at t p n) (cell l (p * 32 + n)) (cell l 264) ≡ true)
    Holds (entry_at p v) = (p < 8) × (bit v (cell l (p * 32 + 0)) ≡ true)
    Holds (dropped p i) = (p < 8) × (bit i (cell l (256 + p)) ≡ true)
    Holds (blank q) = bit q (cell l 264) ≡ true

    -- what goes out of a node is at its targets
    at_target : (p n m v : ℕ) → p < 8 → n < 32 → Memᴰ m (arcs (node_at t p n)) → bit v (flow_of (node_at t p n) n (cell l (p * 32 + n)) (cell l 264)).out ≡ true → (p < 8) × (m < 32) × (bit v (cell l (p * 32 + m)) ≡ true)
    at_target p n m v hp hn a h = go (targets t (proc_at t p).vars (node_at t p n) n (cell l (p * 32 + n)) (cell l 264) m (o.fits p n) a)
      where
        f : Flow
        f = flow_of (node_at t p n) n (cell l (p * 32 + n)) (cell l 264)

        k : Places f
        k = flow_places (node_at t p n) n (cell l (p * 32 + n)) (cell l 264) hn

        go : (m ≡ f.first) ⊎ (m ≡ f.second) → (p < 8) × (m < 32) × (bit v (cell l (p * 32 + m)) ≡ true)
        go (inl z) = (hp, rw z k.first_low, rw z ((e p n hp hn).first v h))
        go (inr z) = (hp, rw z k.second_low, rw z ((e p n hp hn).second v h))

    at_extra : (p n v : ℕ) (a : Act) → act (node_at t p n) ≡ a → p < 8 → n < 32 → bit v (add_by a (cell l (p * 32 + n))).1 ≡ true → bit v (cell l (add_by a (cell l (p * 32 + n))).0) ≡ true
    unfolding flow_of
    at_extra p n v a z hp hn h = subst (λ (y : Act). In (add_by y (cell l (p * 32 + n))).1 l (add_by y (cell l (p * 32 + n))).0) z (e p n hp hn).extra v h

    -- along a clear path
    at_end : {p v m n : ℕ} → Clear t p v m n → Holds (dirty_before p m v) → Holds (dirty_before p n v)
    unfolding Holds
    at_end here w = w
    at_end {p} {v} (on {m = m} k s a c) w = at_end c (at_target p m k v w.0 w.1 a (out_along t (proc_at t p).vars m (cell l (p * 32 + m)) (cell l 264) (o.vars_few p) (node_at t p m) (o.fits p m) v a s w.2))

    complete : (f : Fact) → Dirty t f → Holds f
    unfolding Holds parts
    complete f (by_read {p} {n} z) =
        let w = present p n (λ q. let y : ◌≡◌ {A = ℕ} 0 1 = cc in omega arith) in
        (w.0, w.1, of_rule (node_at t p n) _ _ (by_never z))
    complete f (by_set {p} {n} v u z h d) =
        let w = complete (dirty_before p n u) d in
        (w.0, w.1, of_rule (node_at t p n) _ _ (by_use u h (rw (var_mod (o.vars_few p) ((o.fits p n).uses u h)) w.2)))
    complete f (by_recv {p} {n} q v z d) =
        let w = present p n (λ r. let y : ◌≡◌ {A = ℕ} 0 1 = cc in omega arith) in
        let k : q % 32 ≡ q = mod-eq_of_lt (omega (arith, subst (FitsAct t (proc_at t p).vars) z (o.fits p n).act)) in
        (w.0, w.1, of_rule (node_at t p n) _ _ (by_blank q v z (rw k (complete (blank q) d))))
    complete f (by_entry {p} {i} d) =
        let w = complete (dropped p i) d in
        (w.0, g.entry p w.0 i w.1)
    complete f (from_node {p} {n} {v} m k h s a c d) =
        let w = complete (setting_at p m) d in
        at_end c (at_target p m k v w.0 w.1 a (out_after t (proc_at t p).vars m (cell l (p * 32 + m)) (cell l 264) (o.vars_few p) (node_at t p m) (o.fits p m) v a s w.2))
    complete f (from_entry {p} {n} {v} h c d) =
        let w = complete (entry_at p v) d in
        at_end c (w.0, omega arith, w.1)
    complete f (top {p} {i} k j h z) = (rw z at (o.tops_low k h), rw z at (g.tops k i h (rw z j)))
    complete f (passed {q} {i} p n u xs b z h d) =
        let w = complete (dirty_before p n u) d in
        let fit = subst (FitsAct t (proc_at t p).vars) z (o.fits p n).act in
        let r = arg_at_lem xs i u h in
        let k : q % 8 ≡ q = mod-eq_of_lt fit.0 in
        let v : arg_at xs i % 32 ≡ arg_at xs i = var_mod (o.vars_few p) (fit.2 i r.0) in
        (fit.0, rw k at (at_extra p n i (calls q xs) z w.0 w.1 (passed_of (cell l (p * 32 + n)) i xs r.0 (omega (arith, b, o.params_few q)) (rw (v, ← r.1) w.2))))
    complete f (sent {q} p n v z d) =
        let w = complete (dirty_before p n v) d in
        let fit = subst (FitsAct t (proc_at t p).vars) z (o.fits p n).act in
        let k : q % 32 ≡ q = mod-eq_of_lt (omega (arith, fit.0)) in
        let j : v % 32 ≡ v = var_mod (o.vars_few p) fit.1 in
        at_extra p n q (sends q v) z w.0 w.1 (rw k at (sent_of (cell l (p * 32 + n)) q v (rw j w.2)))

    pub decided : Decides t l
    unfolding Sound Holds
    decided = record {
      masks = g.masks;
      uses = λ p n v hp hn. (λ h. rw (fact_use p n v hp hn) at (g.sound (p * 32 + n) v h), λ d. (complete (dirty_before p n v) d).2);
      drops = λ p i hp. (λ h. rw (fact_drop p i hp) at (g.sound (256 + p) i h), λ d. (complete (dropped p i) d).1);
      blanks = λ q. (λ h. rw (fact_blank q) at (g.sound 264 q h), λ d. complete (blank q) d);
    }
