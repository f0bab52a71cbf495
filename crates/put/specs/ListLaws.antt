-- Laws of lists written item by item.
use Prim.Native.Nat.{ℕ, zero, suc, ◌+◌, ◌*◌, ◌/◌, ◌%◌, ◌^◌, ◌≤◌, ◌<◌, ◌-◌, min}
use Rattle.std.specs.Prelude.{◌≡◌, refl, Bool, true, false, eqb, length}
use Rattle.std.proofs.Common.{sym, ◌∙◌, add-one, arith, pow-suc, mul_assoc, suc-add, eq-eqb, ne_eqb}
use Rattle.std.proofs.Math.Path.{ap}
use mathlib.Core.List.{List, [], ◌∷◌, ◌++◌, map, append-nil, append_assoc}
use Rattle.std.proofs.Math.Nat.{div-div-eq-div-mul}
use Rattle.std.proofs.Math.ListN.{length-append}
use Rattle.std.specs.Int.Bits.{bit_and, and_le_l}
use Rattle.std.proofs.lemmas.Nat.{and_le_r}
use Rattle.std.specs.Int.Count.{count_trailing_zeros, under}
use Rattle.table.specs.Mask.{also, members}
use Rattle.masks.specs.Lowest.{above, members_above, above_none, above_held, above_left, above_lowest}
use Rattle.text.specs.Number.{bytes, digits}
use Rattle.text.proofs.NumberLaws.{digits_small, digits_large, by_order}
use Rattle.text.specs.Value.{spell_variable, commas}
use Rattle.text.specs.Format.{name_of}
use Rattle.put.specs.Put.{Put}
use Rattle.put.specs.PutLaws.{put_after, put_more}
use Rattle.put.specs.Lists.{further, ten_of, items_text, list_text}

-- ---- items

digits_two : (n : ℕ) → n < 100 → length (digits n) ≤ 1 + min (n / 10) 1
digits_two n h = by_order n 10
    (λ s. omega (arith, ap length (digits_small n s)))
    (λ g. omega (arith, ap length (digits_large n g ∙ ap (λ (x : List ℕ). x ++ ((48 + n % 10) ∷ [])) (digits_small (n / 10) (omega arith)))))

-- no list is longer than one with all 32 numbers
items_one : (x : ℕ) (xs : List ℕ) → length (commas (map digits (x ∷ xs))) ≤ length (digits x) + 1 + length (commas (map digits xs))
unfolding commas
items_one x [] = omega arith
items_one x (y ∷ xs) = omega (arith, length-append (digits x) (44 ∷ commas (map digits (y ∷ xs))))

items_few : (n k r : ℕ) → n + k ≡ 32 → length (commas (map digits (above n k r))) ≤ 2 * n + min n 22
unfolding commas above
items_few zero k r e = omega arith
items_few (suc n) k r e = by_order (r % 2) 1
    (λ d. let z : above (suc n) k r ≡ above n (suc k) (r / 2) = above_left n k r (omega arith) in rw z (omega (arith, items_few n (suc k) (r / 2) (omega arith))))
    (λ d. let z : above (suc n) k r ≡ k ∷ above n (suc k) (r / 2) = above_held n k r (omega arith) in rw z (omega (arith, items_one k (above n (suc k) (r / 2)), digits_two k (omega arith), items_few n (suc k) (r / 2) (omega arith))))

items_within : (m : ℕ) → length (items_text m) ≤ 86
items_within m = omega (arith, ap (λ (z : List ℕ). length (commas (map digits z))) (members_above m), items_few 32 0 m refl)

-- ---- numbers behind commas

further_append : (xs ys : List ℕ) → further (xs ++ ys) ≡ further xs ++ further ys
unfolding further
further_append [] ys = refl
further_append (x ∷ xs) ys = ap (λ (z : List ℕ). 44 ∷ (digits x ++ z)) (further_append xs ys) ∙ ap (λ (z : List ℕ). 44 ∷ z) (sym (append_assoc (digits x) (further xs) (further ys)))

items_further : (x : ℕ) (xs : List ℕ) → commas (map digits (x ∷ xs)) ≡ digits x ++ further xs
unfolding commas further
items_further x [] = sym (append-nil (digits x))
items_further x (y ∷ xs) = ap (λ (z : List ℕ). digits x ++ (44 ∷ z)) (items_further y xs)

-- ---- a mask, ten by ten

also_append : (b : Bool) (k : ℕ) (xs ys : List ℕ) → also b k (xs ++ ys) ≡ also b k xs ++ ys
also_append true k xs ys = refl
also_append false k xs ys = refl

above_split : (a b k r : ℕ) → above (a + b) k r ≡ above a k r ++ above b (k + a) (r / 2 ^ a)
unfolding above
above_split zero b k r =
    let e : k ≡ k + 0 = omega arith in
    let d : r ≡ r / 1 = omega arith in
    let f : 0 + b ≡ b = omega arith in
    λ i. above (f i) (e i) (d i)
above_split (suc a) b k r =
    let e : suc k + a ≡ k + suc a = omega arith in
    let d : r / 2 / 2 ^ a ≡ r / 2 ^ suc a = div-div-eq-div-mul r 2 (2 ^ a) ∙ ap (λ (x : ℕ). r / x) (omega (arith, pow-suc 2 a)) in
    ap (λ (n : ℕ). above n k r) (suc-add a b) ∙ ap (also (eqb (r % 2) 1) k) (above_split a b (suc k) (r / 2)) ∙ also_append (eqb (r % 2) 1) k (above a (suc k) (r / 2)) _ ∙ (λ i. also (eqb (r % 2) 1) k (above a (suc k) (r / 2)) ++ above b (e i) (d i))

-- the numbers from k on are in the lowest bits alone
above_low : (n k r s c : ℕ) → r ≡ s + c * 2 ^ n → above n k r ≡ above n k s
unfolding above
above_low zero k r s c h = refl
above_low (suc n) k r s c h =
    let g : r ≡ s + c * 2 ^ n * 2 = h ∙ ap (λ (x : ℕ). s + x) (ap (λ (x : ℕ). c * x) (pow-suc 2 n) ∙ sym (mul_assoc c (2 ^ n) 2)) in
    let a : r % 2 ≡ s % 2 = omega arith in
    let b : r / 2 ≡ s / 2 + c * 2 ^ n = omega arith in
    rw a (ap (also (eqb (s % 2) 1) k) (above_low n (suc k) (r / 2) (s / 2) c b))

ten_low : (k r : ℕ) → above 10 k r ≡ above 10 k (r % 1024)
ten_low k r = above_low 10 k r (r % 1024) (r / 1024) (omega arith)

above_more : (n b k r : ℕ) → r / 2 ^ n ≡ 0 → above (n + b) k r ≡ above n k r
above_more n b k r e = above_split n b k r ∙ rw (e, above_none b (k + n)) (append-nil (above n k r))

ten_first : (k r : ℕ) → r < 4294967296 → above 32 k r ≡ above 10 k (r % 1024) ++ above 32 (k + 10) (r / 1024)
ten_first k r h = above_split 10 22 k r ∙ (λ i. ten_low k r i ++ sym (above_more 22 10 (k + 10) (r / 1024) (omega arith)) i)

-- ---- the loop over a mask of ten

lower : (j i m : ℕ) → m < 2 ^ j → (m ≡ 0 → ⊥) → count_trailing_zeros (j + i) m ≡ count_trailing_zeros j m
unfolding count_trailing_zeros
lower zero i m h z = absurd (z (omega arith))
lower (suc j) i m h z = ap (λ (n : ℕ). count_trailing_zeros n m) (suc-add j i) ∙ go (m % 2) refl (λ (e : m % 2 ≡ 0). lower j i (m / 2) (let g : m < 2 ^ j * 2 = rw pow-suc at h in omega arith) (λ y. z (omega arith)))
  where
    go : (r : ℕ) → m % 2 ≡ r → (m % 2 ≡ 0 → count_trailing_zeros (j + i) (m / 2) ≡ count_trailing_zeros j (m / 2)) → under r (count_trailing_zeros (j + i) (m / 2)) ≡ under r (count_trailing_zeros j (m / 2))
    go zero e ih = ap suc (ih e)
    go (suc r) e ih = refl

-- the lowest of ten
ten_lowest : (k m : ℕ) → m < 1024 → 1 ≤ m → (count_trailing_zeros 32 m < 10) × (above 10 k m ≡ (k + count_trailing_zeros 32 m) ∷ above 10 k (bit_and m (m - 1)))
ten_lowest k m h g =
    let e : count_trailing_zeros 32 m ≡ count_trailing_zeros 10 m = lower 10 22 m h (λ q. omega arith) in
    rw e (above_lowest 10 k m h (λ q. omega arith))

-- the numbers in m but not in rest are written
pub record Listing (base : ℕ) (l : List ℕ) (at m : ℕ) (o : List ℕ) (p rest : ℕ) : Type 0 where
  pub passed : List ℕ
  pub small : rest < 1024
  pub all : passed ++ above 10 base rest ≡ above 10 base m
  pub put : Put (3 * length passed) l at (further passed) o p

pub listing_start : {l : List ℕ} {at : ℕ} (base m : ℕ) → m < 1024 → Listing base l at m l at m
unfolding further
listing_start base m h = record {
  passed = [];
  small = h;
  all = refl;
  put = record { few = omega arith; bytes = refl; same = refl; next = omega arith };
}

module _ {l o : List ℕ} {base at m p rest : ℕ} (a : Listing base l at m o p rest) where
  count : length a.passed + length (above 10 base rest) ≡ length (above 10 base m)
  count = sym (length-append a.passed (above 10 base rest)) ∙ ap length a.all

  pub listing_below : 1 ≤ rest → count_trailing_zeros 32 rest < 10
  listing_below h = (ten_lowest base rest a.small h).0

  pub listing_place : 1 ≤ rest → at + 3 * length (above 10 base m) ≤ length l → p + 3 ≤ length o
  listing_place h g = omega (arith, a.put.few, a.put.next, a.put.same, count, ap length (ten_lowest base rest a.small h).1)

  pub listing_same : length o ≡ length l
  listing_same = a.put.same

  pub listing_turn : {o' : List ℕ} {p' : ℕ} → 1 ≤ rest → Put 3 o p (44 ∷ digits (base + count_trailing_zeros 32 rest)) o' p' → Listing base l at m o' p' (bit_and rest (rest - 1))
  unfolding further
  listing_turn {o'} {p'} h c = record {
    passed = a.passed ++ (k ∷ []);
    small = omega (arith, and_le_l rest (rest - 1), a.small);
    all = append_assoc a.passed (k ∷ []) _ ∙ ap (λ (x : List ℕ). a.passed ++ x) (sym (ten_lowest base rest a.small h).1) ∙ a.all;
    put = rw (further_append a.passed (k ∷ []), append-nil (digits k)) (put_more (omega (arith, length-append a.passed (k ∷ []))) (put_after a.put c));
  }
    where
      k : ℕ
      k = base + count_trailing_zeros 32 rest

  pub listing_end : rest ≡ 0 → Put (3 * length (above 10 base m)) l at (further (above 10 base m)) o p
  listing_end h =
      let e : a.passed ≡ above 10 base m = sym (append-nil a.passed) ∙ ap (λ (x : List ℕ). a.passed ++ x) (sym (above_none 10 base)) ∙ ap (λ (r : ℕ). a.passed ++ above 10 base r) (sym h) ∙ a.all in
      rw (← e) a.put

-- one number fewer is left
pub listing_less : (rest : ℕ) → 1 ≤ rest → bit_and rest (rest - 1) < rest
listing_less rest h = omega (arith, and_le_r rest (rest - 1))

-- ---- an item

pub item_one : {l m n : List ℕ} {at p r : ℕ} (t k : ℕ) → t ≡ 0 → k < 10 → Put 1 l at (44 ∷ []) m p → Put 1 m p ((48 + k) ∷ []) n r → Put 3 l at (44 ∷ digits (t * 10 + k)) n r
item_one t k e h a b =
    let f : t * 10 + k ≡ k = omega arith in
    rw (f, digits_small k h) (put_more (omega arith) (put_after a b))

pub item_two : {l m n o : List ℕ} {at p q r : ℕ} (t k : ℕ) → (t ≡ 0 → ⊥) → t < 10 → k < 10
    → Put 1 l at (44 ∷ []) m p → Put 1 m p ((48 + t) ∷ []) n q → Put 1 n q ((48 + k) ∷ []) o r → Put 3 l at (44 ∷ digits (t * 10 + k)) o r
item_two t k z g h a b c =
    let e : (t * 10 + k) / 10 ≡ t = omega arith in
    let f : (t * 10 + k) % 10 ≡ k = omega arith in
    rw (digits_large (t * 10 + k) (omega arith), e, f, digits_small t g) (put_after (put_after a b) c)

-- ---- the whole list

-- what is left of a mask is small enough: after t tens it is below this
abbrev pub room : ℕ → ℕ
room zero = 4294967296
room (suc zero) = 4194304
room (suc (suc zero)) = 4096
room (suc (suc (suc zero))) = 4
room (suc (suc (suc (suc t)))) = 1

room_left : (t r : ℕ) → r < room t → r / 1024 < room (suc t)
room_left zero r h = omega arith
room_left (suc zero) r h = omega arith
room_left (suc (suc zero)) r h = omega arith
room_left (suc (suc (suc zero))) r h = omega arith
room_left (suc (suc (suc (suc t)))) r h = omega arith

room_some : (t r : ℕ) → r < room t → 1 ≤ r → (t < 4) × (r < 4294967296)
room_some zero r h g = (omega arith, h)
room_some (suc zero) r h g = (omega arith, omega arith)
room_some (suc (suc zero)) r h g = (omega arith, omega arith)
room_some (suc (suc (suc zero))) r h g = (omega arith, omega arith)
room_some (suc (suc (suc (suc t)))) r h g = absurd (omega arith)

-- of the numbers in m those of the first t tens are written
pub record Tens (l : List ℕ) (at m : ℕ) (o : List ℕ) (p rest t : ℕ) : Type 0 where
  pub passed : List ℕ
  pub small : rest < room t
  pub all : passed ++ above 32 (t * 10) rest ≡ above 32 0 m
  pub put : Put (3 * length passed) l at (further passed) o p

pub tens_start : {l : List ℕ} {at : ℕ} (m : ℕ) → m < 4294967296 → Tens l at m l at m 0
unfolding further
tens_start m h = record {
  passed = [];
  small = h;
  all = refl;
  put = record { few = omega arith; bytes = refl; same = refl; next = omega arith };
}

module _ {l o : List ℕ} {at m p rest t : ℕ} (a : Tens l at m o p rest t) where
  pub tens_same : length o ≡ length l
  tens_same = a.put.same

  module _ (h : 1 ≤ rest) where
    pub tens_few : t < 4
    tens_few = (room_some t rest a.small h).0

    next_ten : above 32 (t * 10) rest ≡ ten_of t (rest % 1024) ++ above 32 ((t + 1) * 10) (rest / 1024)
    next_ten =
        let e : t * 10 + 10 ≡ (t + 1) * 10 = omega arith in
        ten_first (t * 10) rest (room_some t rest a.small h).1 ∙ ap (λ (k : ℕ). ten_of t (rest % 1024) ++ above 32 k (rest / 1024)) e

    all_next : (a.passed ++ ten_of t (rest % 1024)) ++ above 32 ((t + 1) * 10) (rest / 1024) ≡ above 32 0 m
    all_next = append_assoc a.passed (ten_of t (rest % 1024)) _ ∙ ap (λ (x : List ℕ). a.passed ++ x) (sym next_ten) ∙ a.all

    pub tens_place : at + 3 * length (above 32 0 m) ≤ length l → p + 3 * length (ten_of t (rest % 1024)) ≤ length o
    tens_place g = omega (arith, a.put.few, a.put.next, a.put.same, simp length-append at (ap length all_next))

    pub tens_turn : {o' : List ℕ} {p' : ℕ} → Put (3 * length (ten_of t (rest % 1024))) o p (further (ten_of t (rest % 1024))) o' p' → Tens l at m o' p' (rest / 1024) (t + 1)
    tens_turn c = record {
      passed = a.passed ++ ten_of t (rest % 1024);
      small = rw (add-one t) (room_left t rest a.small);
      all = all_next;
      put = rw (further_append a.passed (ten_of t (rest % 1024))) (put_more (omega (arith, length-append a.passed (ten_of t (rest % 1024)))) (put_after a.put c));
    }

  pub tens_end : rest ≡ 0 → Put (3 * length (above 32 0 m)) l at (further (above 32 0 m)) o p
  tens_end h =
      let e : a.passed ≡ above 32 0 m = sym (append-nil a.passed) ∙ ap (λ (x : List ℕ). a.passed ++ x) (sym (above_none 32 (t * 10))) ∙ ap (λ (r : ℕ). a.passed ++ above 32 (t * 10) r) (sym h) ∙ a.all in
      rw (← e) a.put

further_count : (n k r : ℕ) → length (above n k r) ≤ n
unfolding above
further_count zero k r = omega arith
further_count (suc n) k r = by_order (r % 2) 1
    (λ d. rw (above_left n k r (omega arith)) (omega (arith, further_count n (suc k) (r / 2))))
    (λ d. rw (above_held n k r (omega arith)) (omega (arith, further_count n (suc k) (r / 2))))

module _ (m : ℕ) (h : m < 4294967296) (g : 1 ≤ m) where
  first : above 32 0 m ≡ count_trailing_zeros 32 m ∷ above 32 0 (bit_and m (m - 1))
  first =
      let e : 0 + count_trailing_zeros 32 m ≡ count_trailing_zeros 32 m = omega arith in
      rw e at (above_lowest 32 0 m h (λ q. omega arith)).1

  pub first_below : count_trailing_zeros 32 m < 32
  first_below = (above_lowest 32 0 m h (λ q. omega arith)).0

  pub further_few : length (above 32 0 (bit_and m (m - 1))) ≤ 31
  further_few = omega (arith, ap length first, further_count 32 0 m)

  pub items_put : {l n o : List ℕ} {at p r j : ℕ} → Put 3 l at (digits (count_trailing_zeros 32 m)) n p → Put j n p (further (above 32 0 (bit_and m (m - 1)))) o r → Put 86 l at (items_text m) o r
  items_put a b =
      let e : items_text m ≡ digits (count_trailing_zeros 32 m) ++ further (above 32 0 (bit_and m (m - 1))) =
      ap (λ (z : List ℕ). commas (map digits z)) (members_above m ∙ first) ∙ items_further _ _ in
      let c = rw (← e) at (put_after a b) in
      record { few = items_within m; bytes = c.bytes; same = c.same; next = c.next }

pub list_none : {l o : List ℕ} {at p : ℕ} (m : ℕ) → m ≡ 0 → Put 4 l at (bytes "none") o p → Put 86 l at (list_text m) o p
list_none m e b =
    let z : members m ≡ [] = members_above m ∙ ap (above 32 0) e ∙ above_none 32 0 in
    rw z (put_more (omega arith) b)

pub list_some : {l o : List ℕ} {at p : ℕ} (m : ℕ) → m < 4294967296 → 1 ≤ m → Put 86 l at (items_text m) o p → Put 86 l at (list_text m) o p
list_some {l} {o} {at} {p} m h g a =
    let e : members m ≡ count_trailing_zeros 32 m ∷ above 32 0 (bit_and m (m - 1)) = members_above m ∙ first m h g in
    rw e (rw e at a)

-- ---- variables

pub variable_removed : {l m : List ℕ} {at r : ℕ} (v : ℕ) → v ≡ 255 → Put 1 l at (45 ∷ []) m r → Put 3 l at (spell_variable (name_of v)) m r
variable_removed v h a = rw (eq-eqb v 255 h) (put_more (omega arith) a)

pub variable_named : {l m : List ℕ} {at r : ℕ} (v : ℕ) → (v ≡ 255 → ⊥) → Put 3 l at (digits v) m r → Put 3 l at (spell_variable (name_of v)) m r
variable_named v h a = rw (ne_eqb v 255 h) a
