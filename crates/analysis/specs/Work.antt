-- The worklist: a node that is not to be seen adds nothing to the cells. Once none is to be seen, the cells say what is dirty.
use Prim.Native.Nat.{ℕ, ◌+◌, ◌*◌, ◌-◌, ◌^◌, ◌<◌, ◌≤◌}
use Rattle.std.proofs.Common.{arith, lt_trans, add-one, sym, ◌∙◌, ap, subst, true≢false, inl, inr, get_or-set_other}
use Rattle.std.specs.Prelude.{◌≡◌, refl, Bool, ◌⊎◌, ◌≢◌, Option, Some, None, length, replicate, ltb}
use Rattle.std.proofs.Math.Bool.{true, false}
use mathlib.Core.List.{List}
use Rattle.std.specs.Int.Bits.{bit_or}
use Rattle.std.proofs.lemmas.Nat.{or_lt}
use Rattle.std.proofs.Math.Pow.{pow-lt}
use Rattle.table.specs.Cases.{cases}
use Rattle.table.specs.Mask.{pick, bit}
use Rattle.table.specs.Table.{proc_at, node_at, node_in}
use Rattle.table.specs.declared.Node.{Node}
use Rattle.table.specs.declared.Proc.{Proc}
use Rattle.table.specs.declared.Table.{Table}
use Rattle.masks.specs.Bits.{bit_zero, bit_one, bit_or_l, bit_or_r}
use Rattle.masks.specs.Cells.{cell, sum, grown, Masks, masks_sum, Flag, grown_grows, grown_has, grown_adds, grown_masks, Filled, filled_masks, cell_zeros}
use Rattle.masks.specs.Left.{left, less_left}
use Rattle.flow.specs.declared.Flow.{Flow}
use Rattle.flow.specs.Flow.{flow_of}
use Rattle.analysis.specs.Ready.{Ready}
use Rattle.analysis.specs.Decides.{Decides}
use Rattle.analysis.specs.Steps.{entered, passed_on, step_with, Held, Rests, top_step}
use Rattle.analysis.specs.NodeLaws.{Places, flow_places, flow_small}
use Rattle.analysis.specs.Decide.{Upto, begun, top_begun, step_good, decided}
use Rattle.analysis.specs.Todo.{Leads, LeadsTo, leads_to, Took}
use Rattle.analysis.specs.Sources.{Reads, Receivers, flow_blank, flow_nothing}

-- 265 cells, and 8 masks of nodes
abbrev pub Sized : List ℕ → List ℕ → Type 0
Sized l w = (length l ≡ 265) × (length w ≡ 8)

-- The cells grow from l to l', the nodes to be seen go from w to w'. A node that is not to be seen was not before, and what comes to it is
-- the same; r are the receives, to which the blank queues come.
pub record Moves (r l w l' w' : List ℕ) : Type 0 where
  pub has : (a k : ℕ) → bit k (cell l a) ≡ true → bit k (cell l' a) ≡ true
  pub size : length l' ≡ length l
  pub size_todo : length w' ≡ length w
  pub small : Masks 8 32 w → Masks 8 32 w'
  pub up : sum l ≤ sum l'
  pub stays : sum l' ≡ sum l → w' ≡ w
  pub keeps : (p n : ℕ) → p < 8 → n < 32 → bit n (cell w' p) ≡ false → (bit n (cell w p) ≡ false) × (cell l' (p * 32 + n) ≡ cell l (p * 32 + n)) × (bit n (cell r p) ≡ true → cell l' 264 ≡ cell l 264)

pub moves_refl : (r l w : List ℕ) → Moves r l w l w
moves_refl r l w = record { has = λ a k h. h; size = refl; size_todo = refl; small = λ m. m; up = omega arith; stays = λ e. refl; keeps = λ p n hp hn h. (h, refl, λ y. refl) }

pub moves_trans : {r l w l1 w1 l2 w2 : List ℕ} → Moves r l w l1 w1 → Moves r l1 w1 l2 w2 → Moves r l w l2 w2
moves_trans {r} {l} {w} {l1} {w1} {l2} {w2} f g = record {
  has = λ a k h. g.has a k (f.has a k h);
  size = g.size ∙ f.size;
  size_todo = g.size_todo ∙ f.size_todo;
  small = λ m. g.small (f.small m);
  up = omega (arith, f.up, g.up);
  stays = λ e. g.stays (omega (arith, f.up, g.up)) ∙ f.stays (omega (arith, f.up, g.up));
  keeps = λ p n hp hn h. let b = g.keeps p n hp hn h in let a = f.keeps p n hp hn b.0 in (a.0, b.1 ∙ a.1, λ y. b.2 y ∙ a.2 y);
}

grown_other : (l : List ℕ) (a m b : ℕ) → b ≢ a → cell (grown l a m) b ≡ cell l b
unfolding grown
grown_other l a m b h = get_or-set_other l a b (bit_or (cell l a) m) 0 h

-- what is not in a mask that has grown was not in it
not_before : (w : List ℕ) (p m a b : ℕ) → bit b (cell (grown w p m) a) ≡ false → bit b (cell w a) ≡ false
not_before w p m a b h = cases (bit b (cell w a)) (λ e. absurd (true≢false (sym (grown_has w p m a b e) ∙ h))) (λ e. e)

pub sized_after : {r l w l' w' : List ℕ} → Sized l w → Moves r l w l' w' → Sized l' w'
sized_after s f = (f.size ∙ s.0, f.size_todo ∙ s.1)

-- ---- one cell grows

module _ {l l' w w' : List ℕ} {yes' : Bool} (p n m : ℕ) (hp : p < 8) (hn : n < 32) (s : Sized l w) (e : l' ≡ grown l (p * 32 + n) m) (f : Flag l l' yes') where
  pub reach_new : (r : List ℕ) → yes' ≡ true → w' ≡ grown w p (2 ^ n) → Moves r l w l' w'
  reach_new r y z = rw (e, z) (record {
    has = λ a k h. grown_has l (p * 32 + n) m a k h;
    size = (grown_grows l (p * 32 + n) m).same_size;
    size_todo = (grown_grows w p (2 ^ n)).same_size;
    small = λ h. grown_masks p (2 ^ n) h (pow-lt {i = n} {j = 32} hn);
    up = (grown_grows l (p * 32 + n) m).up;
    stays = λ q. absurd (omega (arith, q, f.more y, ap sum e));
    keeps = keep;
  })
    where
      apart : (a b : ℕ) → b < 32 → bit b (cell (grown w p (2 ^ n)) a) ≡ false → a * 32 + b ≢ p * 32 + n
      apart a b hb h q =
          let za : a ≡ p = omega arith in
          let zb : b ≡ n = omega arith in
          true≢false (sym (grown_adds w p (2 ^ n) n (omega (arith, s.1)) (bit_one n)) ∙ (rw (za, zb) at h))

      keep : (a b : ℕ) → a < 8 → b < 32 → bit b (cell (grown w p (2 ^ n)) a) ≡ false → (bit b (cell w a) ≡ false) × (cell (grown l (p * 32 + n) m) (a * 32 + b) ≡ cell l (a * 32 + b)) × (bit b (cell r a) ≡ true → cell (grown l (p * 32 + n) m) 264 ≡ cell l 264)
      keep a b ha hb h = (not_before w p (2 ^ n) a b h, grown_other l (p * 32 + n) m (a * 32 + b) (apart a b hb h), λ y. grown_other l (p * 32 + n) m 264 (λ q. omega arith))

-- what is to be seen stays so
pub leads_on : {r l w l' w' : List ℕ} {p n : ℕ} {on : Bool} → p < 8 → Leads p n on w → Moves r l w l' w' → Leads p n on w'
leads_on {r} {l} {w} {l'} {w'} {p} {n} hp d m = record { low = d.low; marked = λ y. cases (bit n (cell w' p)) (λ e. e) (λ e. absurd (true≢false (sym (d.marked y) ∙ (m.keeps p n hp d.low e).0))) }

pub drop_moves : {r l l' w : List ℕ} (k m : ℕ) → k < 8 → l' ≡ grown l (256 + k) m → Moves r l w l' w
drop_moves {r} {l} {l'} {w} k m hk e = rw e (record {
  has = λ a j h. grown_has l (256 + k) m a j h;
  size = (grown_grows l (256 + k) m).same_size;
  size_todo = refl;
  small = λ h. h;
  up = (grown_grows l (256 + k) m).up;
  stays = λ q. refl;
  keeps = λ a b ha hb h. (h, grown_other l (256 + k) m (a * 32 + b) (λ q. omega arith), λ y. grown_other l (256 + k) m 264 (λ q. omega arith));
})

pub blank_moves : {r l l' w w' : List ℕ} {yes' : Bool} (m : ℕ) → Masks 8 32 r → length w ≡ 8 → l' ≡ grown l 264 m → Flag l l' yes' → yes' ≡ true → length w' ≡ 8 → Filled (λ a. bit_or (cell w a) (cell r a)) 8 w' → Moves r l w l' w'
blank_moves {r} {l} {l'} {w} {w'} m g s e f y i z = record {
  has = λ a j h. rw e (grown_has l 264 m a j h);
  size = f.grows.same_size;
  size_todo = i ∙ sym s;
  small = λ h. filled_masks (λ a. bit_or (cell w a) (cell r a)) 8 32 w' i z (λ a j. or_lt 32 (cell w a) (cell r a) (h.below a) (g.below a));
  up = f.grows.up;
  stays = λ q. absurd (omega (arith, q, f.more y));
  keeps = λ a b ha hb h. let k : bit b (bit_or (cell w a) (cell r a)) ≡ false = rw (z a ha) at h in
      (cases (bit b (cell w a)) (λ q. absurd (true≢false (sym (bit_or_l b (cell w a) (cell r a) q) ∙ k))) (λ q. q), rw e (grown_other l 264 m (a * 32 + b) (λ q. omega arith)), λ q. absurd (true≢false (sym (bit_or_r b (cell w a) (cell r a) q) ∙ k)));
}

-- ---- one node's step

module _ (l : List ℕ) (a m : ℕ) where
  passed_has : (b k : ℕ) → bit k (cell l b) ≡ true → bit k (cell (passed_on l a m) b) ≡ true
  unfolding passed_on entered
  passed_has b k h = go (ltb a 264)
    where
      go : (y : Bool) → bit k (cell (pick y (entered l (a - 256) m) (grown l a m)) b) ≡ true
      go true = grown_has (grown l ((a - 256) * 32 + 0) m) (256 + (a - 256)) m b k (grown_has l ((a - 256) * 32 + 0) m b k h)
      go false = grown_has l a m b k h

  passed_adds : (k : ℕ) → 256 ≤ a → a < 265 → length l ≡ 265 → bit k m ≡ true → bit k (cell (passed_on l a m) a) ≡ true
  unfolding passed_on entered
  passed_adds k lo hi s h = go (ltb a 264)
    where
      l1 : List ℕ
      l1 = grown l ((a - 256) * 32 + 0) m

      at : 256 + (a - 256) ≡ a
      at = omega arith

      go : (y : Bool) → bit k (cell (pick y (entered l (a - 256) m) (grown l a m)) a) ≡ true
      go true = subst (λ (x : ℕ). bit k (cell (grown l1 (256 + (a - 256)) m) x) ≡ true) at (grown_adds l1 (256 + (a - 256)) m k (omega (arith, (grown_grows l ((a - 256) * 32 + 0) m).same_size)) h)
      go false = grown_adds l a m k (omega arith) h

  passed_masks : Masks 265 32 l → m < 2 ^ 32 → Masks 265 32 (passed_on l a m)
  unfolding passed_on entered
  passed_masks g s = go (ltb a 264)
    where
      go : (y : Bool) → Masks 265 32 (pick y (entered l (a - 256) m) (grown l a m))
      go true = grown_masks (256 + (a - 256)) m (grown_masks ((a - 256) * 32 + 0) m g s) s
      go false = grown_masks a m g s

step_held : (f : Flow) (p : ℕ) (l : List ℕ) → Places f → p < 8 → length l ≡ 265 → Held f p (step_with f p l)
unfolding step_with
step_held f p l k hp s = record {
  first = λ v h. passed_has l2 f.extra f.add a1 v (grown_has l1 a2 f.out a1 v (grown_adds l a1 f.out v (omega (arith, k.first_low)) h));
  second = λ v h. passed_has l2 f.extra f.add a2 v (grown_adds l1 a2 f.out v (omega (arith, k.second_low, s1)) h);
  extra = λ v h. passed_adds l2 f.extra f.add v k.extra_high k.extra_low ((grown_grows l1 a2 f.out).same_size ∙ s1 ∙ s) h;
}
  where
    a1 : ℕ
    a1 = p * 32 + f.first

    a2 : ℕ
    a2 = p * 32 + f.second

    l1 : List ℕ
    l1 = grown l a1 f.out

    l2 : List ℕ
    l2 = grown l1 a2 f.out

    s1 : length l1 ≡ length l
    s1 = (grown_grows l a1 f.out).same_size

-- the cells after node x
abbrev pub stepped : Node → ℕ → ℕ → List ℕ → List ℕ
stepped x p n l = step_with (flow_of x n (cell l (p * 32 + n)) (cell l 264)) p l

step_masks : (x : Node) (p n : ℕ) (l : List ℕ) → Masks 265 32 l → Masks 265 32 (stepped x p n l)
unfolding step_with
step_masks x p n l g = let z = flow_small x n (cell l (p * 32 + n)) (cell l 264) (g.below (p * 32 + n)) in
    passed_masks _ _ _ (grown_masks _ _ (grown_masks _ _ g z.out_small) z.out_small) z.add_small

held_more : {f : Flow} {p : ℕ} {l l' : List ℕ} → ((a k : ℕ) → bit k (cell l a) ≡ true → bit k (cell l' a) ≡ true) → Held f p l → Held f p l'
held_more h w = record { first = λ k b. h _ k (w.first k b); second = λ k b. h _ k (w.second k b); extra = λ k b. h _ k (w.extra k b) }

-- ---- the worklist of a table

module _ (t : Table) (o : Ready t) where
  -- with the parameters of the first k tasks' top procedures
  pub record WorkUpto (k : ℕ) (l w : List ℕ) : Type 0 where
    pub good : Upto t o k l
    pub todo : Masks 8 32 w
    pub done : (p n : ℕ) → p < 8 → n < 32 → bit n (cell w p) ≡ false → Rests t l p n

  abbrev pub Work : List ℕ → List ℕ → Type 0
  Work l w = WorkUpto t.tasks l w

  -- the reads are to be seen at first
  pub work_start : {w : List ℕ} → Reads t w → WorkUpto 0 (replicate 265 0) w
  work_start {w} r = record {
    good = begun t o;
    todo = r.masks;
    done = λ p n hp hn h. rw (cell_zeros 265 (p * 32 + n), cell_zeros 265 264) (flow_nothing (node_at t p n) n p (replicate 265 0) (sym (r.right p n hp hn) ∙ h));
  }

  -- the cells have what goes out of a node that is not to be seen, since what comes to it is the same
  rests_on : {r l w l' w' : List ℕ} (a b : ℕ) → a < 8 → b < 32 → Receivers t r → Moves r l w l' w' → bit b (cell w' a) ≡ false → (bit b (cell w a) ≡ false → Held (flow_of (node_at t a b) b (cell l (a * 32 + b)) (cell l 264)) a l') → Rests t l' a b
  rests_on {r} {l} {w} {l'} {w'} a b ha hb rc m h f = let j = m.keeps a b ha hb h in rw (j.1, flow_blank (node_at t a b) b (cell l (a * 32 + b)) (cell l 264) (cell l' 264) (λ y. j.2 (rc.right a b ha hb ∙ y))) (f j.0)

  pub work_top : {r l w l' w' : List ℕ} (k : ℕ) → k < t.tasks → Receivers t r → WorkUpto k l w → l' ≡ top_step t l k → Moves r l w l' w' → WorkUpto (k + 1) l' w'
  work_top {r} {l} k h rc g e m = record {
    good = rw (e, add-one) (top_begun t o k l h g.good);
    todo = m.small g.todo;
    done = λ a b ha hb z. rests_on a b ha hb rc m z (λ y. held_more m.has (g.done a b ha hb y));
  }

  work_next : {r l w w1 l' w' : List ℕ} (p n : ℕ) → p < 8 → Receivers t r → Work l w → Took w p n w1 → l' ≡ stepped (node_at t p n) p n l → Moves r l w1 l' w' → Work l' w'
  work_next {r} {l} {w} {w1} {l'} {w'} p n hp rc k c e m = record {
    good = rw e (step_good t o l p n hp c.low k.good);
    todo = m.small c.small;
    done = λ a b ha hb h. rests_on a b ha hb rc m h (λ y. go a b ha hb (c.other a b y));
  }
    where
      own : Held (flow_of (node_at t p n) n (cell l (p * 32 + n)) (cell l 264)) p l'
      own = rw e (step_held _ p l (flow_places (node_at t p n) n _ _ c.low) hp k.good.masks.size)

      go : (a b : ℕ) → a < 8 → b < 32 → (bit b (cell w a) ≡ false) ⊎ ((a ≡ p) × (b ≡ n)) → Held (flow_of (node_at t a b) b (cell l (a * 32 + b)) (cell l 264)) a l'
      go a b ha hb (inl q) = held_more m.has (k.done a b ha hb q)
      go a b ha hb (inr q) = rw (q.0, q.1) own

  pub work_end : {l w : List ℕ} → Work l w → ((p : ℕ) → p < 8 → cell w p ≡ 0) → Decides t l
  work_end {l} {w} k z = decided t o l k.good (λ p n hp hn. k.done p n hp hn (rw (z p hp) (bit_zero n)))

-- ---- what is left to do goes down with every node

abbrev pub left_of : List ℕ → List ℕ → ℕ
left_of l w = left 265 (8 * 2 ^ 32) l (sum w)

-- ---- the nodes of one procedure

-- l and w on the way from l₀ and w₀
pub record Going (r : List ℕ) (q : Proc) (p : ℕ) (l₀ w₀ l w : List ℕ) : Type 0 where
  pub masks : Masks 265 32 l
  pub todo : Masks 8 32 w
  pub keeps : (t : Table) (o : Ready t) → proc_at t p ≡ q → Receivers t r → Work t o l₀ w₀ → Work t o l w
  pub less : (left_of l w < left_of l₀ w₀) ⊎ ((l ≡ l₀) × (w ≡ w₀))

pub going_start : (r : List ℕ) (q : Proc) (p : ℕ) (l w : List ℕ) → Masks 265 32 l → Masks 8 32 w → Going r q p l w l w
going_start r q p l w g h = record { masks = g; todo = h; keeps = λ t o e rc k. k; less = inr (refl, refl) }

module _ (q : Proc) {p : ℕ} {r l w w1 l' w' : List ℕ} (n : ℕ) (hp : p < 8) (g : Masks 265 32 l) (c : Took w p n w1) (e : l' ≡ stepped (node_in q n) p n l) (m : Moves r l w1 l' w') where
  next_masks : Masks 265 32 l'
  next_masks = rw e (step_masks (node_in q n) p n l g)

  pub next_less : left_of l' w' < left_of l w
  next_less = less_left 265 (8 * 2 ^ 32) l l' (sum w) (sum w1) (sum w') (masks_sum next_masks) (masks_sum (m.small c.small)) m.up (λ z. ap sum (m.stays z)) c.fewer

module _ {q : Proc} {p : ℕ} {r l₀ w₀ l w w1 l' w' : List ℕ} (n : ℕ) (hp : p < 8) (g : Going r q p l₀ w₀ l w) (c : Took w p n w1) (e : l' ≡ stepped (node_in q n) p n l) (m : Moves r l w1 l' w') where
  fallen_next : left_of l' w' < left_of l₀ w₀
  fallen_next = go g.less
    where
      go : (left_of l w < left_of l₀ w₀) ⊎ ((l ≡ l₀) × (w ≡ w₀)) → left_of l' w' < left_of l₀ w₀
      go (inl x) = lt_trans (next_less q n hp g.masks c e m) x
      go (inr x) = rw (x.0, x.1) at (next_less q n hp g.masks c e m)

  going_next : Going r q p l₀ w₀ l' w'
  going_next = record {
    masks = next_masks q n hp g.masks c e m;
    todo = m.small c.small;
    keeps = λ t o z rc k. work_next t o p n hp rc (g.keeps t o z rc k) c (subst (λ (x : Proc). l' ≡ stepped (node_in x n) p n l) (sym z) e) m;
    less = inl fallen_next;
  }

-- along a chain from l₀ and w₀: the next node, if the chain goes on
pub record Along (r : List ℕ) (q : Proc) (p : ℕ) (l₀ w₀ l w : List ℕ) (next : Option ℕ) : Type 0 where
  pub going : Going r q p l₀ w₀ l w
  pub leads : LeadsTo p next w
  pub fallen : next ≡ None → left_of l w < left_of l₀ w₀

pub along_start : (r : List ℕ) (q : Proc) {p n : ℕ} {l w : List ℕ} → Masks 265 32 l → Masks 8 32 w → Leads p n true w → Along r q p l w l w (Some n)
along_start r q {p} {n} {l} {w} g h d = record { going = going_start r q p l w g h; leads = leads_to true d; fallen = λ e. cc }

pub along_next : {q : Proc} {p : ℕ} {next next' : Option ℕ} {r l₀ w₀ l w w1 l' w' : List ℕ} (n : ℕ) → p < 8 → Along r q p l₀ w₀ l w next → Took w p n w1 → l' ≡ stepped (node_in q n) p n l → Moves r l w1 l' w' → LeadsTo p next' w' → Along r q p l₀ w₀ l' w' next'
along_next n hp g c e m d = record { going = going_next n hp g.going c e m; leads = d; fallen = λ z. fallen_next n hp g.going c e m }

pub along_end : {q : Proc} {p : ℕ} {next : Option ℕ} {r l₀ w₀ l w l' w' : List ℕ} → Going r q p l₀ w₀ l w → Along r q p l w l' w' next → next ≡ None → Going r q p l₀ w₀ l' w'
along_end {q} {p} {next} {r} {l₀} {w₀} {l} {w} {l'} {w'} f g e = record { masks = g.going.masks; todo = g.going.todo; keeps = λ t o z rc k. g.going.keeps t o z rc (f.keeps t o z rc k); less = inl (go f.less) }
  where
    go : (left_of l w < left_of l₀ w₀) ⊎ ((l ≡ l₀) × (w ≡ w₀)) → left_of l' w' < left_of l₀ w₀
    go (inl x) = lt_trans (g.fallen e) x
    go (inr x) = rw (x.0, x.1) at (g.fallen e)

-- what the work on procedure p does
pub record Works (r : List ℕ) (q : Proc) (p : ℕ) (l w l' w' : List ℕ) : Type 0 where
  pub keeps : (t : Table) (o : Ready t) → proc_at t p ≡ q → Receivers t r → Work t o l w → Work t o l' w'
  pub less : cell w p ≢ 0 → left_of l' w' < left_of l w

pub going_end : {q : Proc} {p : ℕ} {r l w l' w' : List ℕ} → Going r q p l w l' w' → cell w' p ≡ 0 → Works r q p l w l' w'
going_end {q} {p} {r} {l} {w} {l'} {w'} g z = record { keeps = g.keeps; less = λ f. go f g.less }
  where
    go : cell w p ≢ 0 → (left_of l' w' < left_of l w) ⊎ ((l' ≡ l) × (w' ≡ w)) → left_of l' w' < left_of l w
    go f (inl x) = x
    go f (inr x) = absurd (f (ap (λ (y : List ℕ). cell y p) (sym x.1) ∙ z))
