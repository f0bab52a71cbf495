-- Laws of the digits at a place: each says what a step of the code shows.
use Rattle.std.specs.Prelude.{Some, ◌≡◌, ℕ, zero, suc, ◌+◌, ◌-◌, ◌*◌, ◌%◌, ◌<◌, ◌≤◌, true, false, ◌&&◌, ◌⊎◌, List, [], ◌∷◌, ◌++◌, length, take, drop, nat_le, slice_index, slice_index_or, slice_range}
use Rattle.std.proofs.Math.Path.{refl, sym, ap}
use Rattle.std.proofs.Common.{◌∙◌, arith, drop_of_length-le, length-drop, length-append, drop-cons, drop-drop, length-take-le, le-leb, leb-true}
use Rattle.std.proofs.Math.Logic.{inl, inr}
use Rattle.std.proofs.lemmas.Bool.{lt-leb}
use Rattle.text.specs.Number.{all_digits, is_digit, value, value_from}
use Rattle.text.proofs.NumberLaws.{by_order, and_left, and_right, all_head, all_tail}
use Rattle.digits.specs.declared.Lead.{Lead}
use Rattle.digits.specs.Read.{digit_of, capped, digits_of, leading_digits, lead_from, lead_of, four_from, first_of}
use Rattle.table.specs.Cases.{cases}

-- ---- one digit
pub digit_wraps : (b : ℕ) → b < 256 → (b + 208) % 256 ≡ digit_of b
unfolding digit_of
digit_wraps b h = by_order b 48 (λ l. rw (lt-leb 48 b l) (omega arith)) (λ l. rw (le-leb 48 b l) (omega arith))

module _ (b : ℕ) {d : ℕ} (e : d ≡ digit_of b) where
  sides : ((48 ≤ b) × (d + 48 ≡ b)) ⊎ ((b < 48) × (208 ≤ d))
  unfolding digit_of
  sides =
      by_order b 48
      (λ l. inr (l, let z : d ≡ b + 208 = e ∙ rw (lt-leb 48 b l) in omega arith))
      (λ l. inl (l, let z : d ≡ b - 48 = e ∙ rw (le-leb 48 b l) in omega arith))

  pub digit_plus : d ≤ 9 → d + 48 ≡ b
  digit_plus k = go sides
    where
      go : ((48 ≤ b) × (d + 48 ≡ b)) ⊎ ((b < 48) × (208 ≤ d)) → d + 48 ≡ b
      go (inl h) = h.1
      go (inr h) = absurd (omega arith)

  pub digit_low : d ≤ 9 → 48 ≤ b
  digit_low k = omega (arith, digit_plus k)

  pub digit_high : d ≤ 9 → b ≤ 57
  digit_high k = omega (arith, digit_plus k)

  pub digit_yes : d ≤ 9 → is_digit b ≡ true
  digit_yes k = rw (le-leb 48 b (digit_low k), le-leb b 57 (digit_high k))

  pub digit_no : 9 < d → is_digit b ≡ false
  digit_no k = go sides
    where
      go : ((48 ≤ b) × (d + 48 ≡ b)) ⊎ ((b < 48) × (208 ≤ d)) → is_digit b ≡ false
      go (inl h) = rw (le-leb 48 b h.0, lt-leb b 57 (omega arith))
      go (inr h) = rw (lt-leb 48 b h.0)

-- ---- the digits at a text's start
value_append : (v : ℕ) (s t : List ℕ) → value_from v (s ++ t) ≡ value_from (value_from v s) t
unfolding value_from
value_append v [] t = refl
value_append v (b ∷ s) t = value_append (v * 10 + (b - 48)) s t

-- what is capped before is capped after
capped_before : (v : ℕ) (t : List ℕ) → capped (value_from (capped v) t) ≡ capped (value_from v t)
unfolding value_from
capped_before v [] = omega arith
capped_before v (b ∷ t) =
    let x = capped v * 10 + (b - 48) in
    let y = v * 10 + (b - 48) in
    let e : capped x ≡ capped y = omega arith in
    sym (capped_before x t) ∙ rw e (capped_before y t)

leading_all : (t : List ℕ) → all_digits (leading_digits t) ≡ true
unfolding all_digits leading_digits
leading_all [] = refl
leading_all (b ∷ t) = cases (is_digit b) (λ h. rw (h, h) (leading_all t)) (λ h. rw h)

leading_take : (t : List ℕ) → take (length (leading_digits t)) t ≡ leading_digits t
unfolding leading_digits
leading_take [] = refl
leading_take (b ∷ t) = cases (is_digit b) (λ h. rw (h, leading_take t)) (λ h. rw h)

leading_short : (t : List ℕ) → length (leading_digits t) ≤ length t
unfolding leading_digits
leading_short [] = omega arith
leading_short (b ∷ t) = cases (is_digit b) (λ h. rw h (omega (arith, leading_short t))) (λ h. rw h (omega arith))

leading_first : (k : ℕ) (t : List ℕ) → k ≤ length t → all_digits (take k t) ≡ true → leading_digits t ≡ take k t ++ leading_digits (drop k t)
unfolding all_digits leading_digits
leading_first zero t h a = refl
leading_first (suc k) [] h a = absurd (omega arith)
leading_first (suc k) (b ∷ t) h a =
    rw (and_left (is_digit b) (all_digits (take k t)) a, leading_first k t (omega arith) (and_right (is_digit b) (all_digits (take k t)) a))

-- ---- the digits at a place
made : {v w e f : ℕ} → v ≡ w → e ≡ f → ◌≡◌ {A = Lead} (record { value = v; end = e }) (record { value = w; end = f })
made p q = rw (p, q)

-- k digits are read
lead_more : (v : ℕ) (s : List ℕ) (at k : ℕ) → k ≤ length s - at → all_digits (take k (drop at s)) ≡ true
    → lead_from v s at ≡ lead_from (value_from v (take k (drop at s))) s (at + k)
unfolding lead_from
lead_more v s at k h a =
    let t = drop at s in
    let l : k ≤ length t = simp length-drop h in
    let e : leading_digits t ≡ take k t ++ leading_digits (drop (at + k) s) = leading_first k t l a ∙ rw (drop-drop k at s) in
    let x : length (leading_digits t) ≡ k + length (leading_digits (drop (at + k) s)) = ap length e ∙ rw (length-append (take k t) (leading_digits (drop (at + k) s)), length-take-le k t l) in
    let y : value_from v (leading_digits t) ≡ value_from (value_from v (take k t)) (leading_digits (drop (at + k) s)) = ap (value_from v) e ∙ value_append v (take k t) (leading_digits (drop (at + k) s)) in
    made (rw y) (omega arith)

lead_none : (v : ℕ) (s : List ℕ) (at : ℕ) → v ≤ 4294967296 → leading_digits (drop at s) ≡ [] → record { value = v; end = at } ≡ lead_from v s at
unfolding lead_from value_from
lead_none v s at h e = rw e (made (omega arith) (omega arith))

-- what is left from place i, behind digits that say v, gives the whole
pub record Leading (first : ℕ) (s : List ℕ) (from v i : ℕ) : Type 0 where
  pub within : i ≤ length s
  pub small : v ≤ 4294967296
  pub same : lead_from v s i ≡ lead_from first s from

pub lead_start : (v : ℕ) (s : List ℕ) (at : ℕ) → at ≤ length s → v ≤ 4294967296 → Leading v s at v at
lead_start v s at h k = record { within = h; small = k; same = refl }

module _ {first : ℕ} {s : List ℕ} {from v i : ℕ} (m : Leading first s from v i) where
  pub lead_over : length s ≤ i → record { value = v; end = length s } ≡ lead_from first s from
  unfolding leading_digits
  lead_over h = let e : i ≡ length s = omega (arith, m.within) in rw e at (lead_none v s i m.small (rw (drop_of_length-le s h)) ∙ m.same)

  module _ (h : i < length s) {d : ℕ} (e : d ≡ digit_of (slice_index s i)) where
    pub lead_stop : 9 < d → record { value = v; end = i } ≡ lead_from first s from
    unfolding leading_digits
    lead_stop k = lead_none v s i m.small (rw (drop-cons s i 0 h, digit_no (slice_index s i) e k)) ∙ m.same

    pub lead_turn : d ≤ 9 → {w : ℕ} → w ≡ capped (v * 10 + (slice_index s i - 48)) → Leading first s from w (i + 1)
    unfolding lead_from all_digits value_from
    lead_turn k {w} q =
        let b = slice_index_or s i 0 in
        let f : take 1 (drop i s) ≡ b ∷ [] = rw (drop-cons s i 0 h) in
        let g = lead_more v s i 1 (omega arith) (rw (f, digit_yes b e k)) in
        let t = leading_digits (drop (i + 1) s) in
        let y : capped (value_from w t) ≡ capped (value_from (v * 10 + (b - 48)) t) = rw q (capped_before (v * 10 + (b - 48)) t) in
        record { within = omega arith; small = omega arith; same = made y refl ∙ sym (rw f at g) ∙ m.same }

    pub lead_step : d ≤ 9 → v < 429496729 → Leading first s from (v * 10 + d) (i + 1)
    lead_step k l = lead_turn k (omega (arith, digit_plus (slice_index s i) e k))

-- ---- four digits
four_bytes : (s : List ℕ) (at : ℕ) → 4 ≤ length s - at → take 4 (drop at s) ≡ slice_index s at ∷ slice_index s (at + 1) ∷ slice_index s (at + 2) ∷ slice_index s (at + 3) ∷ []
four_bytes s at h =
    let a : at + 1 ≡ suc at = omega arith in
    let b : at + 2 ≡ suc (suc at) = omega arith in
    let c : at + 3 ≡ suc (suc (suc at)) = omega arith in
    rw (a, b, c, drop-cons s at 0 (omega arith), drop-cons s (suc at) 0 (omega arith), drop-cons s (suc (suc at)) 0 (omega arith), drop-cons s (suc (suc (suc at))) 0 (omega arith))

pub four_few : (v : ℕ) (s : List ℕ) (at : ℕ) → length s - at < 4 → record { value = v; end = at } ≡ four_from v s at
unfolding four_from
four_few v s at h = rw (lt-leb 4 (length s - at) h)

module _ (v : ℕ) (s : List ℕ) (at : ℕ) (h : 4 ≤ length s - at) {a : ℕ} (p : a ≡ digit_of (slice_index s at)) where
  abbrev x : ℕ
  x = slice_index s at

  four_first : 9 < a → record { value = v; end = at } ≡ four_from v s at
  unfolding four_from all_digits
  four_first k = rw (le-leb 4 (length s - at) h, four_bytes s at h, digit_no x p k)

  module _ (i : a ≤ 9) {b : ℕ} (q : b ≡ digit_of (slice_index s (at + 1))) where
    abbrev y : ℕ
    y = slice_index s (at + 1)

    four_second : 9 < b → record { value = v; end = at } ≡ four_from v s at
    unfolding four_from all_digits
    four_second k = rw (le-leb 4 (length s - at) h, four_bytes s at h, digit_yes x p i, digit_no y q k)

    module _ (j : b ≤ 9) {c : ℕ} (r : c ≡ digit_of (slice_index s (at + 2))) where
      abbrev z : ℕ
      z = slice_index s (at + 2)

      four_third : 9 < c → record { value = v; end = at } ≡ four_from v s at
      unfolding four_from all_digits
      four_third k = rw (le-leb 4 (length s - at) h, four_bytes s at h, digit_yes x p i, digit_yes y q j, digit_no z r k)

      module _ (l : c ≤ 9) {d : ℕ} (t : d ≡ digit_of (slice_index s (at + 3))) where
        abbrev u : ℕ
        u = slice_index s (at + 3)

        four_fourth : 9 < d → record { value = v; end = at } ≡ four_from v s at
        unfolding four_from all_digits
        four_fourth k = rw (le-leb 4 (length s - at) h, four_bytes s at h, digit_yes x p i, digit_yes y q j, digit_yes z r l, digit_no u t k)

pub four_none : (v : ℕ) (s : List ℕ) (at : ℕ) → 4 ≤ length s - at → {a b c d : ℕ}
    → a ≡ digit_of (slice_index s at) → b ≡ digit_of (slice_index s (at + 1)) → c ≡ digit_of (slice_index s (at + 2)) → d ≡ digit_of (slice_index s (at + 3))
    → (9 < a) ⊎ ((a ≤ 9) × (9 < b)) ⊎ ((a ≤ 9) × (b ≤ 9) × (9 < c)) ⊎ ((a ≤ 9) × (b ≤ 9) × (c ≤ 9) × (9 < d))
    → record { value = v; end = at } ≡ four_from v s at
four_none v s at h p q r t (inl k) = four_first v s at h p k
four_none v s at h p q r t (inr (inl k)) = four_second v s at h p k.0 q k.1
four_none v s at h p q r t (inr (inr (inl k))) = four_third v s at h p k.0 q k.1 r k.2
four_none v s at h p q r t (inr (inr (inr k))) = four_fourth v s at h p k.0 q k.1 r k.2 t k.3

pub four_is : {a b c d w : ℕ} → w ≡ a * 1000 + b * 100 + c * 10 + d → (v : ℕ) (s : List ℕ) (at : ℕ) → 4 ≤ length s - at
    → a ≤ 9 → a ≡ digit_of (slice_index s at) → b ≤ 9 → b ≡ digit_of (slice_index s (at + 1)) → c ≤ 9 → c ≡ digit_of (slice_index s (at + 2)) → d ≤ 9 → d ≡ digit_of (slice_index s (at + 3))
    → record { value = v * 10000 + w; end = at + 4 } ≡ four_from v s at
unfolding four_from all_digits value_from
four_is e v s at h i p j q k r l t =
    let x = slice_index_or s at 0 in
    let y = slice_index_or s (at + 1) 0 in
    let z = slice_index_or s (at + 2) 0 in
    let u = slice_index_or s (at + 3) 0 in
    rw (le-leb 4 (length s - at) h, four_bytes s at h, digit_yes x p i, digit_yes y q j, digit_yes z r k, digit_yes u t l)
    (made (omega (arith, digit_plus x p i, digit_plus y q j, digit_plus z r k, digit_plus u t l)) refl)

-- the two cases
four_cases : {P : Type 0} (v : ℕ) (s : List ℕ) (at : ℕ)
    → (four_from v s at ≡ record { value = v; end = at } → P)
    → (4 ≤ length s - at → all_digits (take 4 (drop at s)) ≡ true → four_from v s at ≡ record { value = value_from v (take 4 (drop at s)); end = at + 4 } → P) → P
unfolding four_from
four_cases v s at f g =
    let t = take 4 (drop at s) in
    cases (nat_le 4 (length s - at) && all_digits t)
    (λ e. g (leb-true 4 (length s - at) (and_left (nat_le 4 (length s - at)) (all_digits t) e)) (and_right (nat_le 4 (length s - at)) (all_digits t) e) (rw e))
    (λ e. f (rw e))

four_value : (v : ℕ) (t : List ℕ) → length t ≡ 4 → all_digits t ≡ true → value_from v t ≤ v * 10000 + 9999
unfolding value_from
four_value v [] h k = absurd (omega arith)
four_value v (a ∷ []) h k = absurd (omega arith)
four_value v (a ∷ b ∷ []) h k = absurd (omega arith)
four_value v (a ∷ b ∷ c ∷ []) h k = absurd (omega arith)
four_value v (a ∷ b ∷ c ∷ d ∷ []) h k =
    let m = all_tail a (b ∷ c ∷ d ∷ []) k in
    let n = all_tail b (c ∷ d ∷ []) m in
    let o = all_tail c (d ∷ []) n in
    let x = all_head a (b ∷ c ∷ d ∷ []) k in
    let y = all_head b (c ∷ d ∷ []) m in
    let z = all_head c (d ∷ []) n in
    let u = all_head d [] o in
    omega arith
four_value v (a ∷ b ∷ c ∷ d ∷ e ∷ t) h k = absurd (omega arith)

module _ {first : ℕ} {s : List ℕ} {from v i : ℕ} (m : Leading first s from v i) (l : v ≤ 9999) {r : Lead} (q : r ≡ four_from v s i) where
  pub four_small : r.value ≤ v * 10000 + 9999
  four_small =
      four_cases v s i
      (λ e. let z : r.value ≡ v = ap (λ (x : Lead). x.value) (q ∙ e) in omega arith)
      (λ k a e.
      let t = take 4 (drop i s) in
      let z : r.value ≡ value_from v t = ap (λ (x : Lead). x.value) (q ∙ e) in
      omega (arith, four_value v t (length-take-le 4 (drop i s) (simp length-drop k)) a))

  pub four_leading : Leading first s from r.value r.end
  four_leading =
      four_cases v s i
      (λ e. rw (q ∙ e) m)
      (λ k a e.
      let t = take 4 (drop i s) in
      let n = four_value v t (length-take-le 4 (drop i s) (simp length-drop k)) a in
      rw (q ∙ e) (record { within = omega arith; small = omega arith; same = sym (lead_more v s i 4 k a) ∙ m.same }))

-- ---- four digits, twice
module _ (s : List ℕ) (at : ℕ) (h : at ≤ length s) {f : Lead} (q : f ≡ four_from 0 s at) where
  four : Leading 0 s at f.value f.end
  four = four_leading (lead_start 0 s at h (omega arith)) (omega arith) q

  pub first_small : f.value ≤ 9999
  first_small = omega (arith, four_small (lead_start 0 s at h (omega arith)) (omega arith) q)

  pub first_within : f.end ≤ length s
  first_within = four.within

  pub first_once : f.end ≡ at → f ≡ first_of s at
  unfolding first_of
  first_once k =
      four_cases 0 s at
      (λ e. q ∙ rw (e, e))
      (λ l a e. absurd (let z : f.end ≡ at + 4 = ap (λ (x : Lead). x.end) (q ∙ e) in omega arith))

  pub first_twice : {r : Lead} → r ≡ four_from f.value s f.end → r ≡ first_of s at
  unfolding first_of
  first_twice p = p ∙ rw q

pub first_leading : (s : List ℕ) (at : ℕ) {r : Lead} → at ≤ length s → r ≡ first_of s at → Leading 0 s at r.value r.end
unfolding first_of
first_leading s at h q = four_leading (four s at h refl) (first_small s at h refl) q

-- ---- what is read

-- digits from a place to e say v
pub record LeadAt (s : List ℕ) (at v e : ℕ) : Type 0 where
  pub from : at ≤ e
  pub within : e ≤ length s
  pub same : digits_of (slice_range s at e) ≡ Some v

pub lead_at : (s : List ℕ) (at : ℕ) {r : Lead} → r ≡ lead_of s at → at ≤ length s → LeadAt s at r.value r.end
unfolding lead_from digits_of value
lead_at s at q h =
    let t = drop at s in
    let n : at + length (leading_digits t) - at ≡ length (leading_digits t) = omega arith in
    rw q (record { from = omega arith; within = omega (arith, leading_short t, length-drop at s); same = rw (n, leading_take t, leading_all t) })
