-- The search for the nodes that are reached: those seen, and those of them whose arcs have been followed.
use Rattle.std.specs.Prelude.{ℕ, ◌-◌, ◌^◌, ◌*◌, ◌%◌, ◌<◌, ◌≡◌, refl, Bool, true, false, not, ◌&&◌, ◌⊎◌, ◌≢◌}
use Rattle.std.proofs.Common.{arith, one-mul, sym, ◌∙◌, ap, true≢false, inl, inr}
use Rattle.std.proofs.lemmas.Bool.{false≢true}
use mathlib.Core.List.Memᴰ
use mathlib.Core.List.{◌++◌, Memᴰ}
use Rattle.std.specs.Int.Bits.{bit_or, and_lt}
use Rattle.std.proofs.lemmas.Nat.{or_lt, xor_lt}
use Rattle.std.specs.Int.Count.{count_trailing_zeros}
use Rattle.std.proofs.Math.Pow.{pow-lt}
use Rattle.table.specs.Mask.{bit, members, mask_of}
use Rattle.table.specs.MaskLaws.{members_is, bit_ext, mask_of_lt, bit_mask_of}
use Rattle.table.specs.Table.{node_in, Exit, ends, by, either, first_arc, second_arc, parts, arcs}
use Rattle.table.specs.declared.Proc.{Proc}
use Rattle.masks.specs.Bits.{bit_zero, bit_one, bit_one_out, bit_or_out, bit_or_l, bit_or_r, bit_minus, le_or, least}
use Rattle.reached.specs.Reached.{Reached, first, along, is_reached, target_mask, waiting}
use Rattle.reached.specs.ReachedLaws.{reached_is}

-- ---- the mask of a node's targets

none_in : (k : ℕ) → bit k 0 ≡ true → ⊥
none_in k h = false≢true (sym (bit_zero k) ∙ h)

target_arc : (e : Exit) (m : ℕ) → m < 32 → bit m (target_mask e) ≡ true → Memᴰ m (members (first_arc e) ++ members (second_arc e))
target_arc ends m l h = absurd (none_in m h)
target_arc (by a) m l h = Memᴰ.append_left (members 0) ((members_is m a).1 (h, l))
target_arc (either a b) m l h = elim (bit_or_out m a b h) [
  | inl x ↦ Memᴰ.append_left (members b) ((members_is m a).1 (x, l))
  | inr x ↦ Memᴰ.append_right (members a) ((members_is m b).1 (x, l))
]

arc_target : (e : Exit) (m : ℕ) → Memᴰ m (members (first_arc e) ++ members (second_arc e)) → (bit m (target_mask e) ≡ true) × (m < 32)
arc_target e m d = elim (Memᴰ.append_cases (members (first_arc e)) d) [
  | inl x ↦ (one e ((members_is m (first_arc e)).0 x).0, ((members_is m (first_arc e)).0 x).1)
  | inr x ↦ (two e ((members_is m (second_arc e)).0 x).0, ((members_is m (second_arc e)).0 x).1)
]
  where
    one : (e : Exit) → bit m (first_arc e) ≡ true → bit m (target_mask e) ≡ true
    one ends h = absurd (none_in m h)
    one (by a) h = h
    one (either a b) h = bit_or_l m a b h

    two : (e : Exit) → bit m (second_arc e) ≡ true → bit m (target_mask e) ≡ true
    two ends h = absurd (none_in m h)
    two (by a) h = absurd (none_in m h)
    two (either a b) h = bit_or_r m a b h

-- ---- the search

module _ (q : Proc) where
  pub record Search (seen done : ℕ) : Type 0 where
    pub small : seen < 2 ^ 32
    pub low : done < 2 ^ 32
    pub root : bit 0 seen ≡ true
    pub sound : (n : ℕ) → n < 32 → bit n seen ≡ true → Reached q n
    pub part : (n : ℕ) → bit n done ≡ true → bit n seen ≡ true
    pub followed : (n m : ℕ) → bit n done ≡ true → Memᴰ m (arcs (node_in q n)) → bit m seen ≡ true

  pub search_start : Search 1 0
  search_start = record {
    small = omega arith;
    low = omega arith;
    root = bit_one 0;
    sound = λ n l h. let z : n ≡ 0 = bit_one_out n 0 h in rw z first;
    part = λ n h. absurd (none_in n h);
    followed = λ n m h d. absurd (none_in n h);
  }

  waiting_out : (seen done n : ℕ) → bit n (waiting seen done) ≡ true → (bit n seen ≡ true) × (bit n done ≡ false)
  waiting_out seen done n h = go (bit n seen) (bit n done) refl refl (rw bit_minus at h)
    where
      go : (x y : Bool) → bit n seen ≡ x → bit n done ≡ y → x && not y ≡ true → (bit n seen ≡ true) × (bit n done ≡ false)
      go true true u v w = absurd (false≢true w)
      go true false u v w = (u, v)
      go false y u v w = absurd (false≢true w)

  module _ {seen done : ℕ} (s : Search seen done) where
    -- one is left, while the two masks differ
    some_waiting : done ≢ seen → waiting seen done ≢ 0
    some_waiting h z = h (bit_ext 32 done seen s.low s.small (λ k l. go k (bit k seen) (bit k done) refl refl))
      where
        off : (k : ℕ) → bit k seen && not (bit k done) ≡ false
        off k = sym (bit_minus k seen done) ∙ ap (bit k) z ∙ bit_zero k

        go : (k : ℕ) (x y : Bool) → bit k seen ≡ x → bit k done ≡ y → bit k done ≡ bit k seen
        go k true true u v = v ∙ sym u
        go k true false u v = absurd (true≢false (rw (u, v) at (off k)))
        go k false true u v = absurd (true≢false (sym (s.part k v) ∙ u))
        go k false false u v = v ∙ sym u

    waiting_small : waiting seen done < 2 ^ 32
    waiting_small = xor_lt 32 seen _ s.small (and_lt 32 seen done s.small s.low)

    module _ {n m seen' done' : ℕ} (h : done ≢ seen) (at : n ≡ count_trailing_zeros 32 (waiting seen done) % 32) (to : m ≡ target_mask (parts (node_in q n)).exit) (big : m < 2 ^ 32) (f : seen' ≡ bit_or seen m) (d : done' ≡ bit_or done (1 * 2 ^ n)) where
      first_is : n ≡ count_trailing_zeros 32 (waiting seen done)
      first_is = omega (arith, at, (least 32 (waiting seen done) waiting_small (some_waiting h)).0)

      place : n < 32
      place = omega (arith, at)

      new : (bit n seen ≡ true) × (bit n done ≡ false)
      new = rw first_is (waiting_out seen done (count_trailing_zeros 32 (waiting seen done)) (least 32 (waiting seen done) waiting_small (some_waiting h)).1)

      bit_small : 2 ^ n < 2 ^ 32
      bit_small = pow-lt {i = n} {j = 32} place

      next_done : done' ≡ bit_or done (2 ^ n)
      next_done = d ∙ ap (bit_or done) (one-mul (2 ^ n))

      done_out : (k : ℕ) → bit k done' ≡ true → (bit k done ≡ true) ⊎ (k ≡ n)
      done_out k b = elim (bit_or_out k done (2 ^ n) (rw next_done at b)) [ inl x ↦ inl x | inr x ↦ inr (bit_one_out k n x) ]

      seen_has : (k : ℕ) → bit k seen ≡ true → bit k seen' ≡ true
      seen_has k b = rw f (bit_or_l k seen m b)

      pub search_next : Search seen' done'
      search_next = record {
        small = rw f (or_lt 32 seen m s.small big);
        low = rw next_done (or_lt 32 done (2 ^ n) s.low bit_small);
        root = seen_has 0 s.root;
        sound = λ k l b. elim (bit_or_out k seen m (rw f at b)) [
          | inl x ↦ s.sound k l x
          | inr x ↦ along n (target_arc (parts (node_in q n)).exit k l (rw to at x)) (s.sound n place new.0)
        ];
        part = λ k b. elim (done_out k b) [ inl x ↦ seen_has k (s.part k x) | inr e ↦ rw e (seen_has n new.0) ];
        followed = λ k j b a. elim (done_out k b) [
          | inl x ↦ seen_has j (s.followed k j x a)
          | inr e ↦ rw (f, to) (bit_or_r j seen _ (arc_target (parts (node_in q n)).exit j (rw e at a)).0)
        ];
      }

      differs : done ≢ done'
      differs e = true≢false (sym (rw next_done (bit_or_r n done (2 ^ n) (bit_one n))) ∙ ap (bit n) (sym e) ∙ new.1)

      pub search_less : 2 ^ 32 - done' < 2 ^ 32 - done
      search_less = omega (arith, s.low, le_or done (2 ^ n), next_done, differs)

    -- every arc has been followed
    pub search_end : done ≡ seen → seen ≡ mask_of 32 (is_reached q)
    search_end e = bit_ext 32 seen (mask_of 32 (is_reached q)) s.small (mask_of_lt 32 (is_reached q)) (λ k l. both k l (bit k seen) (is_reached q k) refl refl ∙ sym (bit_mask_of 32 k (is_reached q) l))
      where
        complete : (k : ℕ) → Reached q k → bit k seen ≡ true
        complete k first = s.root
        complete k (along n a r) = s.followed n k (rw e (complete n r)) a

        both : (k : ℕ) → k < 32 → (x y : Bool) → bit k seen ≡ x → is_reached q k ≡ y → bit k seen ≡ is_reached q k
        both k l true true u v = u ∙ sym v
        both k l true false u v = absurd (true≢false (sym ((reached_is q k).1 (s.sound k l u)) ∙ v))
        both k l false true u v = absurd (true≢false (sym (complete k ((reached_is q k).0 v)) ∙ u))
        both k l false false u v = u ∙ sym v
