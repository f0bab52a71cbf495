-- Laws of short numbers that ascend: each says what a step of the code shows.
use Prim.Native.Nat.{ℕ, zero, suc, ◌+◌, ◌-◌, ◌^◌, ◌≤◌, ◌<◌}
use Rattle.std.specs.Prelude.{◌≡◌, Bool, true, false, ◌&&◌, not, List, [], ◌∷◌, ltb, leb, eqb, drop, Option, Some, None, Ok}
use Rattle.std.proofs.Math.Path.{refl, sym}
use Rattle.std.proofs.Common.{◌∙◌, ap, arith, zero-add, Fits, pow_mono, drop_of_length-le, length-drop, take_all, drop-cons, drop-drop, take-take, length-take-le}
use Rattle.std.specs.Int.{w64}
use Rattle.std.proofs.Math.ListN.{length, take, get_or}
use Rattle.std.proofs.Math.Seq.{take-nil, get_or-take}
use Rattle.std.proofs.lemmas.Option.{some_pair_parts}
use borrow.Author.Tests.{lt-ltb, le-leb, lt-leb, leb-false, eq-eqb, ne_eqb, eqb-true}
use Rattle.table.specs.Cases.{cases}
use Rattle.table.specs.Mask.{pick}
use Rattle.text.specs.Number.{bytes, value, all_digits}
use Rattle.text.proofs.NumberLaws.{by_order, all_head, all_tail, spelt_all}
use Rattle.text.specs.Value.{ascending, same}
use Rattle.text.specs.Format.{set_of}
use Rattle.text.specs.Line.{run, stops}
use Rattle.scan.specs.PlaceLaws.{count_none, count_within, Running, running_start, running_digits, run_turn, value_ends}
use Rattle.numbers.specs.Numerals.{short_of}
use Rattle.numbers.specs.NumeralLaws.{Spelt, short_few, short_is, short_numeral}
use Rattle.scan.specs.Place.{Answer}
use Rattle.lists.specs.Items.{up_to, CommaAt, inside, bit_of, part}
use Rattle.lists.specs.ItemLaws.{comma_split, ItemAt}
use Rattle.lists.specs.Sets.{SetSaid, single_of, SetIn}
use Rattle.lists.specs.SetLaws.{Rising, rising_start, rising_end, rising_turn}
use Rattle.lists.specs.ListLaws.{one_value, list_rising, value_judged}
use Rattle.lists.specs.Short.{on_short, ended_by, quick_from, quick_of}

-- ---- digits are no commas
digits_up : (k : ℕ) (s : List ℕ) → k ≤ length s → all_digits (take k s) ≡ true → up_to s ≡ k + up_to (drop k s)
unfolding up_to
digits_up zero s h a = sym (zero-add (up_to s))
digits_up (suc k) [] h a = absurd (omega arith)
digits_up (suc k) (b ∷ s) h a =
    let d = all_head b (take k s) a in
    rw (ne_eqb b 44 (λ q. omega arith)) (ap suc (digits_up k s (omega arith) (all_tail b (take k s) a)) ∙ omega arith)

drop_take : (k r : ℕ) (s : List ℕ) → drop k (take r s) ≡ take (r - k) (drop k s)
drop_take zero r s = let e : r - 0 ≡ r = omega arith in rw e
drop_take (suc k) zero s = let e : 0 - suc k ≡ 0 = omega arith in rw e
drop_take (suc k) (suc r) [] = sym (take-nil (suc r - suc k))
drop_take (suc k) (suc r) (b ∷ s) = let e : suc r - suc k ≡ r - k = omega arith in rw e (drop_take k r s)

-- the value at a text's start
abbrev whole : List ℕ → List ℕ
whole u = take (run u) u

whole_length : (u : List ℕ) → length (whole u) ≡ run u
whole_length u = length-take-le (run u) u (count_within u)

whole_part : (u : List ℕ) (f to : ℕ) → to ≤ run u → part (whole u) f to ≡ part u f to
whole_part u f to h = rw (drop_take f (run u) u) (take-take (to - f) (run u - f) (drop f u) (omega arith))

-- ---- an item of the value at a text's start
module _ {u : List ℕ} {from to v : ℕ} (g : Running u 0 from) (p : Spelt u from to v) where
  some_digits : all_digits (take (to - from) (drop from u)) ≡ true
  some_digits = spelt_all (part u from to) p.good

  pub running_to : Running u 0 to
  running_to = running_digits g (omega (arith, p.from)) (omega (arith, p.within)) some_digits

  inside_run : to ≤ run u
  inside_run = omega (arith, running_to.same)

  module _ (c : up_to (drop to (whole u)) ≡ 0) where
    comma_at : CommaAt (whole u) from to
    comma_at =
        let k : to - from ≤ length (drop from (whole u)) = simp (length-drop, whole_length) (omega (arith, inside_run)) in
        let a : all_digits (take (to - from) (drop from (whole u))) ≡ true = rw (whole_part u from to inside_run) some_digits in
        let d : up_to (drop from (whole u)) ≡ (to - from) + up_to (drop to (whole u)) =
        digits_up (to - from) (drop from (whole u)) k a ∙ rw (drop-drop (to - from) from (whole u), let e : from + (to - from) ≡ to = omega (arith, p.from) in e)
        in
        record { same = omega (arith, d, c, p.from); from_on = omega (arith, p.from); within = rw (whole_length u) inside_run }

    item_in : (lo n : ℕ) {m : ℕ} → m ≡ bit_of lo n v → ItemAt lo n (whole u) from (Some (m, to))
    item_in lo n q =
        let w : part (whole u) from to ≡ part u from to = whole_part u from to inside_run in
        record {
          is = record {
            from_on = omega (arith, p.from);
            within = rw (whole_length u) inside_run;
            good = rw w p.good;
            bit = rw (w, p.value) q;
            split = comma_split comma_at;
          };
        }

-- ---- one short number
pub single_at : (s : List ℕ) (at lo n : ℕ) {v to : ℕ} {z : Bool} {r : Answer ℕ} → Some (v, to) ≡ short_of s at → at ≤ length s → n ≤ 32
    → z ≡ stops (get_or s to 0) → z ≡ true → r ≡ single_of lo n v to → SetIn true lo n s at r
single_at s at lo n {v} {to} i h u q k d =
    let m = short_numeral s at i h (sym q ∙ k) in
    value_judged (ascending true lo n) set_of (value_ends m.run m.inside) (one_value lo n (part s at to) v to m.same u d)

-- ---- the value at a text's start ends at e, and says the set m
pub record Listed (lo n : ℕ) (u : List ℕ) (m e : ℕ) : Type 0 where
  pub ends : run u ≡ e
  pub within : e < length u
  pub said : (q : ℕ) → SetSaid false lo n (take e u) q (Ok (m, q))

-- ---- what is read so far: nothing; or items, and a comma
pub data Listing (lo n : ℕ) (u : List ℕ) : ℕ → ℕ → Type 0 where
  none : Listing lo n u 0 0
  some : {f to m : ℕ} → Running u 0 (to + 1) → to < run u → 2 ^ value (part (whole u) f to) ≤ m → same (bytes "none") (whole u) ≡ false
      → ((q : ℕ) → Rising lo n q (whole u) f to m true) → Listing lo n u (to + 1) m

-- a bit above a mask
module _ (lo n v : ℕ) {m b : ℕ} (q : b ≡ bit_of lo n v) (h : m < b) where
  bit_in : inside lo n v ≡ true
  bit_in = cases (inside lo n v) (λ e. e) (λ e. absurd (let z : b ≡ 0 = q ∙ rw e in omega arith))

  bit_power : b ≡ 2 ^ v
  bit_power = q ∙ rw bit_in

  bit_one : true ≡ true && not (eqb b 0)
  bit_one = rw (ne_eqb b 0 (λ z. omega arith))

power_less : (x v m : ℕ) → 2 ^ x ≤ m → m < 2 ^ v → x < v
power_less x v m h k = by_order x v (λ l. l) (λ l. absurd (let z : 2 ^ v ≤ 2 ^ x = pow_mono l in omega arith))

first_digit : (t : List ℕ) (k : ℕ) → 0 < k → k ≤ length t → all_digits (take k t) ≡ true → same (bytes "none") t ≡ false
unfolding same
first_digit t zero p h a = absurd (omega arith)
first_digit [] (suc k) p h a = absurd (omega arith)
first_digit (b ∷ t) (suc k) p h a = let d = all_head b (take k t) a in rw (ne_eqb 110 b (λ q. omega arith))

rise : {lo n : ℕ} {u : List ℕ} {from m v to b : ℕ} → Listing lo n u from m → Spelt u from to v → b ≡ bit_of lo n v → m < b → n ≤ 32
    → up_to (drop to (whole u)) ≡ 0 → (e : ℕ) → Rising lo n e (whole u) from to (m + b) true
rise {lo} {n} {u} {v = v} {to = to} {b = b} none p q h k c e =
    rw (zero-add b) (rising_start e (item_in (running_start u 0 (omega arith)) p c lo n q) refl k (bit_one lo n v q h))
rise {lo} {n} {u} {v = v} {to = to} {b = b} (some {f = f} {to = t} {m = m} g l low w r) p q h k c e =
    let y : value (part (whole u) (t + 1) to) ≡ v = rw (whole_part u (t + 1) to (inside_run g p)) p.value in
    let x : value (part (whole u) f t) < v = power_less (value (part (whole u) f t)) v m low (rw (← bit_power lo n v q h) h) in
    let z : true ≡ ltb (value (part (whole u) f t)) (value (part (whole u) (t + 1) to)) = rw y (sym (lt-ltb (value (part (whole u) f t)) v x)) in
    rising_turn (r e) (rw (whole_length u) l) (item_in g p c lo n q) refl z refl k (bit_one lo n v q h)

no_none : {lo n : ℕ} {u : List ℕ} {from m v to : ℕ} → Listing lo n u from m → Spelt u from to v → same (bytes "none") (whole u) ≡ false
no_none {u = u} {to = to} none p =
    let g = running_start u 0 (omega arith) in
    let w : part (whole u) 0 to ≡ part u 0 to = whole_part u 0 to (inside_run g p) in
    first_digit (whole u) (to - 0) (omega (arith, p.from)) (rw (whole_length u) (let z = inside_run g p in omega arith)) (rw w (some_digits g p))
no_none (some g l low w r) p = w

running_of : {lo n : ℕ} {u : List ℕ} {from m : ℕ} → Listing lo n u from m → Running u 0 from
running_of {u = u} none = running_start u 0 (omega arith)
running_of (some g l low w r) = g

-- ---- one item more
module _ {lo n : ℕ} {u : List ℕ} {from m : ℕ} (s : Listing lo n u from m) {v to : ℕ} (p : Spelt u from to v) {b : ℕ}
    (q : b ≡ bit_of lo n v) (h : m < b) (k : n ≤ 32) where
  g : Running u 0 to
  g = running_to (running_of s) p

  ended : stops (get_or u to 0) ≡ true → run u ≡ to
  ended e =
      let d : run (drop to u) ≡ 0 = rw (drop-cons u to 0 p.within) (count_none (get_or u to 0) (drop (suc to) u) e) in
      omega (arith, g.same, d)

  list_end : stops (get_or u to 0) ≡ true → Listed lo n u (m + b) to
  unfolding up_to
  list_end x =
      let r : run u ≡ to = ended x in
      let l : length (whole u) ≤ to = rw (whole_length u) (omega arith) in
      let c : up_to (drop to (whole u)) ≡ 0 = rw (drop_of_length-le (whole u) l) in
      let w : whole u ≡ take to u = rw r in
      record {
        ends = r;
        within = p.within;
        said = λ e. rw (← w) (list_rising (whole u) refl refl (no_none s p) (rising_end (rise s p q h k c e) l refl));
      }

  list_turn : get_or u to 0 ≡ 44 → Listing lo n u (to + 1) (m + b)
  unfolding up_to
  list_turn e =
      let f : Running u 0 (to + 1) = run_turn g p.within (rw e) in
      let r : to < run u = omega (arith, f.same) in
      let l : to < length (whole u) = rw (whole_length u) r in
      let d : get_or (whole u) to 0 ≡ 44 = get_or-take (run u) u to 0 r ∙ e in
      let c : up_to (drop to (whole u)) ≡ 0 = rw (drop-cons (whole u) to 0 l, d) in
      let y : value (part (whole u) from to) ≡ v = rw (whole_part u from to (omega arith)) p.value in
      let low : 2 ^ value (part (whole u) from to) ≤ m + b = rw y (omega (arith, bit_power lo n v q h)) in
      some f r low (no_none s p) (rise s p q h k c)

-- ---- what is left to read gives the whole
pub record Left (lo n : ℕ) (u : List ℕ) (from m : ℕ) : Type 0 where
  pub bound : ℕ
  pub enough : length u ≤ from + bound
  pub same : quick_from bound lo n u from m ≡ quick_of lo n u

pub left_start : (lo n : ℕ) (u : List ℕ) → Left lo n u 0 0
unfolding quick_of
left_start lo n u = record { bound = length u; enough = omega arith; same = refl }

module _ {lo n : ℕ} {u : List ℕ} {from m : ℕ} (s : Left lo n u from m) where
  left_no : ((k : ℕ) → None ≡ quick_from k lo n u from m) → None ≡ quick_of lo n u
  left_no f = f s.bound ∙ s.same

  pub left_none : None ≡ short_of u from → None ≡ quick_of lo n u
  unfolding quick_from
  left_none j = left_no go
    where
      go : (k : ℕ) → None ≡ quick_from k lo n u from m
      go zero = refl
      go (suc k) = rw (← j)

  module _ {v to : ℕ} (j : Some (v, to) ≡ short_of u from) {b : ℕ} (q : b ≡ bit_of lo n v) where
    pub left_low : b ≤ m → None ≡ quick_of lo n u
    unfolding quick_from
    left_low h = left_no go
      where
        go : (k : ℕ) → None ≡ quick_from k lo n u from m
        go zero = refl
        go (suc k) = rw (← j, ← q, le-leb b m h)

    module _ (h : m < b) {z : Bool} (e : z ≡ stops (get_or u to 0)) where
      more : (k : ℕ) → quick_from (suc k) lo n u from m ≡ ended_by (get_or u to 0) (m + b) to (quick_from k lo n u (to + 1) (m + b))
      unfolding quick_from
      more k = rw (← j, ← q, lt-leb b m h)

      pub left_end : from < length u → z ≡ true → Some (m + b, to) ≡ quick_of lo n u
      left_end l x = go s.bound s.enough s.same
        where
          go : (k : ℕ) → length u ≤ from + k → quick_from k lo n u from m ≡ quick_of lo n u → Some (m + b, to) ≡ quick_of lo n u
          go zero d f = absurd (omega arith)
          go (suc k) d f = rw (← e, x) at (sym (more k) ∙ f)

      pub left_other : z ≡ false → (get_or u to 0 ≡ 44 → ⊥) → None ≡ quick_of lo n u
      left_other x y = left_no go
        where
          go : (k : ℕ) → None ≡ quick_from k lo n u from m
          go zero = (unfold quick_from in refl)
          go (suc k) = sym (more k ∙ rw (← e, x, ne_eqb (get_or u to 0) 44 y))

      pub left_turn : from < length u → z ≡ false → get_or u to 0 ≡ 44 → Left lo n u (to + 1) (m + b)
      left_turn l x y = go s.bound s.enough s.same
        where
          go : (k : ℕ) → length u ≤ from + k → quick_from k lo n u from m ≡ quick_of lo n u → Left lo n u (to + 1) (m + b)
          go zero d f = absurd (omega arith)
          go (suc k) d f = record { bound = k; enough = omega (arith, (short_is u from j).from); same = rw (← e, x, eq-eqb (get_or u to 0) 44 y) at (sym (more k) ∙ f) }

pub left_over : {lo n : ℕ} {u : List ℕ} {from m : ℕ} → Left lo n u from m → length u ≤ from → None ≡ quick_of lo n u
left_over {lo} {n} {u} {from} s h = left_none s (short_few u from (omega arith))

-- ---- what is read
no_list : {P : Type 0} {m e : ℕ} → ◌≡◌ {A = Option (ℕ × ℕ)} None (Some (m, e)) → P
no_list e = cc

module _ (lo n : ℕ) (u : List ℕ) (h : n ≤ 32) (x e : ℕ) where
  listed_item : (k : ℕ) {from m : ℕ} → Listing lo n u from m → ((f w : ℕ) → Listing lo n u f w → quick_from k lo n u f w ≡ Some (x, e) → Listed lo n u x e)
      → (o : Option (ℕ × ℕ)) → o ≡ short_of u from
      → on_short o (λ v to. pick (leb (bit_of lo n v) m) None (ended_by (get_or u to 0) (m + bit_of lo n v) to (quick_from k lo n u (to + 1) (m + bit_of lo n v)))) ≡ Some (x, e)
      → Listed lo n u x e
  listed_item k s f None i q = no_list q
  listed_item k {from} {m} s f (Some (v, to)) i q =
      let b = bit_of lo n v in
      let p : Spelt u from to v = short_is u from i in
      cases (leb b m)
      (λ z. no_list (rw z at q))
      (λ z.
      let l : m < b = leb-false b m z in
      cases (stops (get_or u to 0))
      (λ y.
      let r : ◌≡◌ {A = Option (ℕ × ℕ)} (Some (m + b, to)) (Some (x, e)) = rw (z, y) at q in
      let c = some_pair_parts (m + b) x to e r in
      rw (← c.0, ← c.1) (list_end s p refl l h y))
      (λ y. cases (eqb (get_or u to 0) 44)
      (λ w. f (to + 1) (m + b) (list_turn s p refl l h (eqb-true (get_or u to 0) 44 w)) (rw (z, y, w) at q))
      (λ w. no_list (rw (z, y, w) at q))))

  listed_from : (k : ℕ) {from m : ℕ} → Listing lo n u from m → quick_from k lo n u from m ≡ Some (x, e) → Listed lo n u x e
  unfolding quick_from
  listed_from zero s q = no_list q
  listed_from (suc k) {from} s q = listed_item k s (λ f w t z. listed_from k t z) (short_of u from) refl q

-- ---- the list at a place
module _ (lo n : ℕ) (s : List ℕ) (at : ℕ) {r : Option (ℕ × ℕ)} (i : r ≡ quick_of lo n (take (length s - at) (drop at s))) (u : n ≤ 32) {m k : ℕ} (q : r ≡ Some (m, k)) where
  rest : take (length s - at) (drop at s) ≡ drop at s
  rest = take_all (length s - at) (drop at s) (simp length-drop (omega arith))

  listed : Listed lo n (drop at s) m k
  unfolding quick_of
  listed = listed_from lo n (drop at s) u m k (length (drop at s)) none (rw rest at (sym i ∙ q))

  many_within : at ≤ length s → at + k < length s
  many_within h = let z = listed.within in omega (arith, length-drop at s)

  pub many_fits : at ≤ length s → length s < 18446744073709551616 → Fits w64 (at + k)
  many_fits h l = record { fits = omega (arith, many_within h) }

  pub many_is : at ≤ length s → SetIn false lo n s at (Ok (m, at + k))
  many_is h =
      let d = listed in
      record {
        same = λ l. (d.said (at + k)).same l s ∙ rw (d.ends, lt-ltb k (length (drop at s)) d.within, drop-drop k at s);
        within = many_within h;
      }
