-- The cells say exactly where each node leads, once no node that is not kept has anything to get from its targets.
use Prim.Native.Nat.{ℕ, ◌*◌, ◌-◌, ◌^◌, ◌<◌}
use Rattle.std.proofs.Common.{arith, pow-suc, one-mul, sym, ◌∙◌, subst, true≢false, get_or-set_other}
use Rattle.std.proofs.Math.Nat.{lt_trans}
use Rattle.std.specs.Prelude.{◌≡◌, Bool, not, ◌&&◌, ◌||◌, ◌⊎◌, ◌≢◌, List, replicate}
use Rattle.std.proofs.Math.Path.{refl, ap}
use Rattle.std.proofs.Math.Bool.{true, false}
use Rattle.std.proofs.lemmas.Bool.{false≢true}
use Rattle.std.proofs.Math.Logic.{inl, inr}
use Rattle.std.proofs.lemmas.List.{length-replicate}
use Rattle.std.proofs.Math.ListN.{get_or-eq_default}
use Rattle.std.specs.Int.Bits.{bit_or}
use Rattle.std.proofs.lemmas.Nat.{or_lt, or_shifted, leading_top}
use Rattle.std.proofs.Math.Pow.{pow-lt}
use Rattle.std.proofs.Math.Dec.{ltb}
use borrow.Author.Tests.{ltb-true, ltb-false}
use Rattle.table.specs.Mask.{pick, bit}
use Rattle.masks.specs.Bits.{bit_zero, bit_one, bit_one_out, bit_or_lem, bit_minus, bit_and_out, bit_and_in, bit_or_out, bit_or_l, bit_or_r, without, without_less, without_out}
use Rattle.masks.specs.Cells.{cell, sum, grown, Masks, masks_sum, Flag, grown_masks, Sound, grown_sound, grown_has, grown_adds, cell_zeros}
use Rattle.masks.specs.Left.{left, less_left}
use Rattle.reach.specs.Reach.{first_of, second_of, IsEnd, Leads, here, via, Reaches, Own, joined, noted, Sources, Gone, last_of}

-- ---- members of a mask

last_bit : (m : ℕ) → m < 2 ^ 32 → m ≢ 0 → bit (last_of m) m ≡ true
last_bit m h z =
    let w = leading_top 32 m (omega (arith, z)) h in
    let j = w.0 in
    let e : last_of m ≡ j = omega (arith, w.1) in
    let d : m < 2 ^ j * 2 = rw pow-suc at w.3 in
    let s : m ≡ bit_or (1 * 2 ^ j) (m - 2 ^ j) = sym (or_shifted 1 j (m - 2 ^ j) (omega (arith, d, w.2)) ∙ omega (arith, w.2)) in
    rw e (subst (λ (x : ℕ). bit j x ≡ true) (sym s) (bit_or_l j (1 * 2 ^ j) (m - 2 ^ j) (rw (one-mul (2 ^ j)) (bit_one j))))

without_in : (m i n : ℕ) → bit n (without m i) ≡ true → bit n m ≡ true
without_in m i n h = go (bit n m) (bit n (2 ^ i)) refl (rw bit_minus at h)
  where
    go : (x y : Bool) → bit n m ≡ x → x && not y ≡ true → bit n m ≡ true
    go true y u v = u
    go false y u v = absurd (false≢true v)

-- ---- the nodes of gone that have one as a target

module _ (ends : List ℕ) (gone : ℕ) where
  -- left has the nodes of gone that are still to be added
  pub record Gathers (left : ℕ) (r : List ℕ) : Type 0 where
    pub sources : Sources ends gone left r
    pub small : left < 2 ^ 32
    pub within : (a : ℕ) → bit a left ≡ true → bit a gone ≡ true

  pub gather_start : gone < 2 ^ 32 → Gathers gone (replicate 32 0)
  gather_start h = record {
    sources = record {
      masks = record { size = length-replicate {A = ℕ} 32 0; below = λ a. rw (cell_zeros 32 a) (omega arith) };
      only = λ a m b. absurd (false≢true (sym (bit_zero a) ∙ (rw (cell_zeros 32 m) at b)));
      each = λ a m b c x. absurd (true≢false (sym b ∙ c));
    };
    small = h;
    within = λ a b. b;
  }

  pub gather_end : {left : ℕ} {r : List ℕ} → Gathers left r → left ≡ 0 → Sources ends gone 0 r
  gather_end {left} {r} s e = subst (λ (x : ℕ). Sources ends gone x r) e s.sources

  -- node n is added
  module _ {r r2 : List ℕ} {left left' n : ℕ} (s : Gathers left r) (z : left ≢ 0) (at : n ≡ last_of left) (p : r2 ≡ noted ends r n) (d : left' ≡ without left n) where
    -- its two targets
    abbrev f : ℕ
    f = first_of ends n

    abbrev g : ℕ
    g = second_of ends n

    abbrev m : ℕ
    m = 2 ^ n

    abbrev r1 : List ℕ
    r1 = grown r f m

    both : r2 ≡ grown r1 g m
    unfolding noted
    both = p

    low : n < 32
    low = omega arith

    held : bit n left ≡ true
    held = rw at (last_bit left s.small z)

    fewer : without left n < left
    fewer = without_less left n s.small low held

    m_small : m < 2 ^ 32
    m_small = pow-lt {i = n} {j = 32} low

    m_only : (a : ℕ) → bit a m ≡ true → bit a gone ≡ true
    m_only a h = let y : a ≡ n = bit_one_out a n h in rw y (s.within n held)

    first_masks : Masks 32 32 r1
    first_masks = grown_masks f m s.sources.masks m_small

    both_masks : Masks 32 32 r2
    both_masks = rw both (grown_masks g m first_masks m_small)

    first_only : Sound (λ b a. bit a gone ≡ true) r1
    unfolding Sound
    first_only = grown_sound (λ b a. bit a gone ≡ true) r f m (λ b a h. s.sources.only a b h) m_only

    both_only : Sound (λ b a. bit a gone ≡ true) r2
    both_only = rw both (grown_sound (λ b a. bit a gone ≡ true) r1 g m first_only m_only)

    first_has : (a b : ℕ) → bit a (cell r b) ≡ true → bit a (cell r1 b) ≡ true
    first_has a b h = grown_has r f m b a h

    second_has : (a b : ℕ) → bit a (cell r1 b) ≡ true → bit a (cell r2 b) ≡ true
    second_has a b h = rw both (grown_has r1 g m b a h)

    own : (b : ℕ) → IsEnd ends n b → bit n (cell r2 b) ≡ true
    own b (inl y) = second_has n b (rw y (grown_adds r f m n (omega (arith, s.sources.masks.size)) (bit_one n)))
    own b (inr y) = rw (y, both) (grown_adds r1 g m n (omega (arith, first_masks.size)) (bit_one n))

    all_in : (a b : ℕ) → bit a gone ≡ true → bit a (without left n) ≡ false → IsEnd ends a b → bit a (cell r2 b) ≡ true
    all_in a b h k x = go (without_out left n a k)
      where
        go : (bit a left ≡ false) ⊎ (a ≡ n) → bit a (cell r2 b) ≡ true
        go (inl y) = second_has a b (first_has a b (s.sources.each a b h y x))
        go (inr y) = rw y (own b (subst (λ (j : ℕ). IsEnd ends j b) y x))

    pub gather_next : Gathers left' r2
    unfolding Sound
    gather_next = rw d (record {
      sources = record { masks = both_masks; only = λ a b h. both_only b a h; each = all_in };
      small = lt_trans fewer s.small;
      within = λ a h. s.within a (without_in left n a h);
    })

    pub gather_less : left' < left
    gather_less = rw d fewer

module _ (ends : List ℕ) where
  pub joined_is : {l1 : List ℕ} (l : List ℕ) (i f g : ℕ) → f ≡ first_of ends i → g ≡ second_of ends i → l1 ≡ grown l i (bit_or (cell l f) (cell l g)) → l1 ≡ joined ends l i
  unfolding joined
  joined_is l i f g u v x = x ∙ ap (λ (a : ℕ). grown l i (bit_or (cell l a) (cell l g))) u ∙ ap (λ (a : ℕ). grown l i (bit_or (cell l (first_of ends i)) (cell l a))) v

  pub noted_is : {r1 r2 : List ℕ} {f g m : ℕ} (r : List ℕ) (n : ℕ) → f ≡ first_of ends n → g ≡ second_of ends n → m ≡ 2 ^ n → r1 ≡ grown r f m → r2 ≡ grown r1 g m → r2 ≡ noted ends r n
  unfolding noted
  noted_is r n u v w x y = rw (y, x, u, v, w) refl

module _ (kept : ℕ) (ends : List ℕ) where
  -- what holds of the cells at every step
  pub record Good (l : List ℕ) : Type 0 where
    pub masks : Masks 32 32 l
    pub sound : Sound (Leads kept ends) l
    pub own : (i : ℕ) → i < 32 → bit i kept ≡ true → bit i (cell l i) ≡ true

  pub own_good : {l : List ℕ} → Own kept l → Good l
  unfolding Sound
  own_good {l} s = record { masks = s.masks; sound = λ a k h. go a k h (ltb a 32) refl; own = λ i b h. rw (s.own i b) (bit_and_in i kept (2 ^ i) h (bit_one i)) }
    where
      go : (a k : ℕ) → bit k (cell l a) ≡ true → (x : Bool) → ltb a 32 ≡ x → Leads kept ends a k
      go a k h true q =
          let w = bit_and_out k kept (2 ^ a) (rw (s.own a (ltb-true a 32 q)) at h) in
          let z : k ≡ a = bit_one_out k a w.1 in
          rw z (here (rw z at w.0))
      go a k h false q = absurd (false≢true (sym (bit_zero k) ∙ (rw (get_or-eq_default l 0 {n = a} (omega (arith, s.masks.size, ltb-false a 32 q))) at h)))

  step_good : (l : List ℕ) (i : ℕ) → bit i kept ≡ false → Good l → Good (joined ends l i)
  unfolding joined Sound
  step_good l i e g = record {
    masks = grown_masks i _ g.masks (or_lt 32 (cell l y) (cell l n) (g.masks.below y) (g.masks.below n));
    sound = grown_sound (Leads kept ends) l i _ g.sound (λ k h. either k (bit_or_out k (cell l y) (cell l n) h));
    own = λ j b h. grown_has l i _ j j (g.own j b h);
  }
    where
      y : ℕ
      y = first_of ends i

      n : ℕ
      n = second_of ends i

      either : (k : ℕ) → (bit k (cell l y) ≡ true) ⊎ (bit k (cell l n) ≡ true) → Leads kept ends i k
      either k (inl h) = via y e (inl refl) (g.sound y k h)
      either k (inr h) = via n e (inr refl) (g.sound n k h)

  -- node n has all that its targets have
  abbrev pub Rests : List ℕ → ℕ → Type 0
  Rests l n = (m k : ℕ) → IsEnd ends n m → bit k (cell l m) ≡ true → bit k (cell l n) ≡ true

  -- nothing new at any node: the search is over
  module _ (l : List ℕ) (g : Good l) (e : (n : ℕ) → n < 32 → bit n kept ≡ false → Rests l n) where
    complete : (n k : ℕ) → n < 32 → Leads kept ends n k → bit k (cell l n) ≡ true
    complete n k b (here h) = g.own n b h
    complete n k b (via m h a r) = e n b h m k a (complete m k (low_end a) r)
      where
        low_end : IsEnd ends n m → m < 32
        low_end (inl z) = omega arith
        low_end (inr z) = omega arith

    decided : Reaches kept ends l
    unfolding Sound
    decided = record { masks = g.masks; right = λ n k b. (λ h. g.sound n k h, λ h. complete n k b h) }

  -- ---- a step

  module _ (l : List ℕ) (i : ℕ) (hi : i < 32) (g : Good l) where
    abbrev mask : ℕ
    mask = bit_or (cell l (first_of ends i)) (cell l (second_of ends i))

    has : (m k : ℕ) → IsEnd ends i m → bit k (cell l m) ≡ true → bit k mask ≡ true
    has m k (inl z) h = bit_or_l k _ _ (rw z at h)
    has m k (inr z) h = bit_or_r k (cell l (first_of ends i)) _ (rw z at h)

    -- the node has now what its targets have
    joined_own : Rests (joined ends l i) i
    unfolding joined Sound
    joined_own m k x h = grown_adds l i mask k (omega (arith, g.masks.size)) (go (grown_sound (λ b j. (bit j (cell l b) ≡ true) ⊎ (bit j mask ≡ true)) l i mask (λ b j y. inl y) (λ j y. inr y) m k h))
      where
        go : (bit k (cell l m) ≡ true) ⊎ (bit k mask ≡ true) → bit k mask ≡ true
        go (inl y) = has m k x y
        go (inr y) = y

    -- a node that does not have it as a target is as before
    joined_other : (n : ℕ) → (IsEnd ends n i → ⊥) → Rests l n → Rests (joined ends l i) n
    unfolding joined grown
    joined_other n f r m k x h =
        let z : m ≢ i = λ y. f (subst (IsEnd ends n) y x) in
        grown_has l i mask n k (r m k x (subst (λ (x : ℕ). bit k x ≡ true) (get_or-set_other l i m (bit_or (cell l i) mask) 0 z) h))

  -- ---- the search

  -- todo has the nodes that may have something to get
  pub record Search (l : List ℕ) (todo : ℕ) : Type 0 where
    pub good : Good l
    pub small : todo < 2 ^ 32
    pub only : (n : ℕ) → bit n todo ≡ true → bit n kept ≡ false
    pub done : (n : ℕ) → n < 32 → bit n kept ≡ false → bit n todo ≡ false → Rests l n

  pub search_end : {l : List ℕ} {todo : ℕ} → Search l todo → todo ≡ 0 → Reaches kept ends l
  search_end {l} s e = decided l s.good (λ n h b. s.done n h b (rw e (bit_zero n)))

module _ (kept gone : ℕ) (ends : List ℕ) where
  search_start : {l : List ℕ} → Gone kept gone ends → Own kept l → gone < 2 ^ 32 → Search kept ends l gone
  search_start {l} away o h = record { good = own_good kept ends o; small = h; only = away.unkept; done = λ n i b z m k x y. subst (λ (a : ℕ). bit k (cell l a) ≡ true) (away.others n m i b z x) y }

  -- from has the sources of each node, but for those of some nodes that are to be seen
  module _ {l l' from : List ℕ} {fresh : Bool} {i rest todo todo' : ℕ} (away : Gone kept gone ends) (s : Search kept ends l todo) (here-low : i < 32) (seen : bit i todo ≡ true) (sr : Sources ends gone rest from) (part : (n : ℕ) → bit n rest ≡ true → bit n todo ≡ true)
      (e : l' ≡ joined ends l i) (f : Flag l l' fresh) (d : todo' ≡ pick fresh (bit_or (without todo i) (cell from i)) (without todo i)) where
    less : without todo i < todo
    less = without_less todo i s.small here-low seen

    abbrev again : ℕ
    again = cell from i

    next_good : Good kept ends l'
    next_good = rw e (step_good kept ends l i (s.only i seen) s.good)

    own_rests : Rests kept ends l' i
    own_rests = rw e (joined_own kept ends l i here-low s.good)

    -- i is no target of a node that is not seen again
    apart : (n : ℕ) → n < 32 → bit n kept ≡ false → bit n todo ≡ false → bit n again ≡ false → IsEnd ends n i → ⊥
    apart n h b t y x = go (bit n rest) (bit n gone) refl refl
      where
        go : (v u : Bool) → bit n rest ≡ v → bit n gone ≡ u → ⊥
        go true u q g = true≢false (sym (part n q) ∙ t)
        go false true q g = true≢false (sym (sr.each n i g q x) ∙ y)
        go false false q g = true≢false (sym seen ∙ ap (λ (a : ℕ). bit a todo) (away.others n i h b g x) ∙ t)

    next_small : (b : Bool) → pick b (bit_or (without todo i) again) (without todo i) < 2 ^ 32
    next_small true = or_lt 32 _ _ (lt_trans less s.small) (sr.masks.below i)
    next_small false = lt_trans less s.small

    next_only : (b : Bool) (n : ℕ) → bit n (pick b (bit_or (without todo i) again) (without todo i)) ≡ true → bit n kept ≡ false
    next_only true n h = go (bit_or_out n (without todo i) again h)
      where
        go : (bit n (without todo i) ≡ true) ⊎ (bit n again ≡ true) → bit n kept ≡ false
        go (inl y) = s.only n (without_in todo i n y)
        go (inr y) = away.unkept n (sr.only n i y)
    next_only false n h = s.only n (without_in todo i n h)

    not_in : (n x y : ℕ) → bit n (bit_or x y) ≡ false → (bit n x ≡ false) × (bit n y ≡ false)
    not_in n x y h = go (bit n x) (bit n y) refl refl (rw bit_or_lem at h)
      where
        go : (u v : Bool) → bit n x ≡ u → bit n y ≡ v → u || v ≡ false → (bit n x ≡ false) × (bit n y ≡ false)
        go true v a b r = absurd (true≢false r)
        go false true a b r = absurd (true≢false r)
        go false false a b r = (a, b)

    next_done : (b : Bool) → fresh ≡ b → (n : ℕ) → n < 32 → bit n kept ≡ false → bit n (pick b (bit_or (without todo i) again) (without todo i)) ≡ false → Rests kept ends l' n
    next_done true q n h u v = let w = not_in n (without todo i) again v in go (without_out todo i n w.0)
      where
        go : (bit n todo ≡ false) ⊎ (n ≡ i) → Rests kept ends l' n
        go (inl y) = rw e (joined_other kept ends l i here-low s.good n (apart n h u y (not_in n (without todo i) again v).1) (s.done n h u y))
        go (inr y) = rw y own_rests
    next_done false q n h u v = go (without_out todo i n v)
      where
        go : (bit n todo ≡ false) ⊎ (n ≡ i) → Rests kept ends l' n
        go (inl y) = rw (f.same q) (s.done n h u y)
        go (inr y) = rw y own_rests

    step_next : Search kept ends l' todo'
    step_next = rw d (record { good = next_good; small = next_small fresh; only = next_only fresh; done = next_done fresh refl })

    step_less : left 32 (2 ^ 32) l' todo' < left 32 (2 ^ 32) l todo
    step_less = less_left 32 (2 ^ 32) l l' todo (without todo i) todo' (masks_sum next_good.masks) (rw d (omega (arith, next_small fresh))) f.grows.up (λ y. stays fresh refl d y) less
      where
        stays : (b : Bool) → fresh ≡ b → todo' ≡ pick b (bit_or (without todo i) again) (without todo i) → sum l' ≡ sum l → todo' ≡ without todo i
        stays true q x y = absurd (omega (arith, f.more q, y))
        stays false q x y = x

  -- ---- the first visits: the nodes of rest have not been seen

  pub record Visits (l from : List ℕ) (todo rest : ℕ) : Type 0 where
    pub away : Gone kept gone ends
    pub found : Search kept ends l todo
    pub gathers : Gathers ends gone rest from
    pub part : (n : ℕ) → bit n rest ≡ true → bit n todo ≡ true

  pub visits_start : {l : List ℕ} → Gone kept gone ends → Own kept l → gone < 2 ^ 32 → Visits l (replicate 32 0) gone gone
  visits_start w o h = record { away = w; found = search_start w o h; gathers = gather_start ends gone h; part = λ n b. b }

  module _ {l l' from from' : List ℕ} {fresh : Bool} {i todo todo' rest rest' : ℕ} (v : Visits l from todo rest) (z : rest ≢ 0) (at : i ≡ last_of rest) (e : l' ≡ joined ends l i) (f : Flag l l' fresh)
      (d : todo' ≡ pick fresh (bit_or (without todo i) (cell from i)) (without todo i)) (p : from' ≡ noted ends from i) (d' : rest' ≡ without rest i) where
    new : bit i rest ≡ true
    new = rw at (last_bit rest v.gathers.small z)

    stays_in : (n : ℕ) → bit n (without rest i) ≡ true → bit n (without todo i) ≡ true
    stays_in n h = go (bit n (without todo i)) refl
      where
        none : (bit n todo ≡ false) ⊎ (n ≡ i) → ⊥
        none (inl y) = true≢false (sym (v.part n (without_in rest i n h)) ∙ y)
        none (inr y) = let x : bit i (without rest i) ≡ false = rw (bit_minus, new, bit_one i) refl in true≢false (sym (rw y at h) ∙ x)

        go : (b : Bool) → bit n (without todo i) ≡ b → bit n (without todo i) ≡ true
        go true q = q
        go false q = absurd (none (without_out todo i n q))

    next_part : (b : Bool) (n : ℕ) → bit n (without rest i) ≡ true → bit n (pick b (bit_or (without todo i) (cell from i)) (without todo i)) ≡ true
    next_part true n h = bit_or_l n (without todo i) (cell from i) (stays_in n h)
    next_part false n h = stays_in n h

    pub visits_next : Visits l' from' todo' rest'
    visits_next = record {
      away = v.away;
      found = step_next v.away v.found (omega arith) (v.part i new) v.gathers.sources v.part e f d;
      gathers = gather_next ends gone v.gathers z at p d';
      part = rw (d, d') (next_part fresh);
    }

    pub visits_less : rest' < rest
    visits_less = gather_less ends gone v.gathers z at p d'

  -- ---- all nodes have been seen

  module _ {l l' l₀ from : List ℕ} {fresh : Bool} {i todo todo' todo₀ rest : ℕ} (s : Search kept ends l todo) (z : todo ≢ 0) (at : i ≡ last_of todo) (v : Visits l₀ from todo₀ rest) (o : rest ≡ 0) (e : l' ≡ joined ends l i) (f : Flag l l' fresh)
      (d : todo' ≡ pick fresh (bit_or (without todo i) (cell from i)) (without todo i)) where
    gathered : Sources ends gone 0 from
    gathered = gather_end ends gone v.gathers o

    none_left : (n : ℕ) → bit n 0 ≡ true → bit n todo ≡ true
    none_left n h = absurd (false≢true (sym (bit_zero n) ∙ h))

    old : bit i todo ≡ true
    old = rw at (last_bit todo s.small z)

    pub search_next : Search kept ends l' todo'
    search_next = step_next v.away s (omega arith) old gathered none_left e f d

    pub search_less : left 32 (2 ^ 32) l' todo' < left 32 (2 ^ 32) l todo
    search_less = step_less v.away s (omega arith) old gathered none_left e f d
