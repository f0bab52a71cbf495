-- Laws of keys and places: each says what a step of the code shows.
use Rattle.std.specs.Prelude.{ℕ, zero, suc, ◌+◌, ◌-◌, ◌*◌, ◌≤◌, ◌<◌, ◌≡◌, ◌⊎◌, refl, List, [], ◌∷◌, ◌++◌, Result, Ok, Err, Option, Some, None, ok_or, true, false, eqb, take, drop, get_or, ltb, cond}
use Rattle.std.proofs.Common.{sym, ◌∙◌, ap, add-zero, zero-add, drop_of_length-le, take_all}
use Rattle.std.specs.List.{position_or_len}
use Rattle.std.proofs.lemmas.List.Recursion.{is_position_or_len}
use Rattle.std.proofs.lemmas.Option.{same_Some}
use Rattle.std.proofs.Math.Logic.{inl, inr}
use native.Mathlib.Omega.{arith}
use Rattle.std.proofs.Math.Numerals.{add-one}
use Rattle.std.proofs.Math.ListN.{length, length-drop}
use Rattle.std.proofs.Math.Seq.{drop-cons, drop-drop}
use borrow.Author.Tests.{lt-ltb, le-ltb, eq-eqb, ne_eqb, eqb-true, eqb-false, ltb-false}
use Rattle.table.specs.Cases.{cases}
use Rattle.table.specs.Mask.{pick}
use Rattle.text.specs.declared.Fault.{Fault}
use Rattle.text.specs.declared.Fault.TheVariants.{Form, Ended}
use Rattle.text.specs.Number.{all_digits}
use Rattle.text.proofs.NumberLaws.{by_order, all_head, all_tail}
use Rattle.text.specs.Value.{ValueKind}
use Rattle.text.specs.Line.{Parser, took, refused, After, at as stands, differs, broken, after, after_key, run as count, stops, value_of, field_of}
use Rattle.scan.specs.Place.{keyed, AfterKey, quad_number, Bytes, QuadAt, RunEnd, value_token, token_after, key_token, ValueAt, TokenAt, FeedAt}

-- ---- from what `ok_or` gives
pub ok_some : {A : Type 0} (o : Option A) (f : Fault) {v : A} → Ok v ≡ ok_or o f → o ≡ Some v
ok_some None f q = cc
ok_some (Some v) f q = cc

pub err_none : {A : Type 0} (o : Option A) (f : Fault) {g : Fault} → Err g ≡ ok_or o f → (o ≡ None) × (g ≡ f)
err_none None f q = (refl, cc)
err_none (Some v) f q = cc

-- ---- what stands behind a key, by what its reader answers
keyed_ok : (a : After) {t : List ℕ} → Ok t ≡ keyed a → stands t ≡ a
keyed_ok (stands u) e = cc
keyed_ok differs e = absurd (cc)
keyed_ok broken e = absurd (cc)

keyed_err : (P : After → Fault → Type 0) → P differs Form → P broken Ended → (a : After) {f : Fault} → Err f ≡ keyed a → P a f
keyed_err P p q (stands u) e = absurd (cc)
keyed_err P p q differs {f} e = let z : f ≡ Form = cc in rw z p
keyed_err P p q broken {f} e = let z : f ≡ Ended = cc in rw z q

-- ---- a key, byte by byte
pub record Matching (key s : List ℕ) (at j : ℕ) : Type 0 where
  pub key_within : j ≤ length key
  pub within : at + j ≤ length s
  pub same : after (drop j key) (drop (at + j) s) ≡ after key (drop at s)

pub matching_start : (key s : List ℕ) (at : ℕ) → at ≤ length s → Matching key s at 0
matching_start key s at h = record { key_within = omega arith; within = omega arith; same = rw (add-zero at) }

module _ {key s : List ℕ} {at j : ℕ} (m : Matching key s at j) where
  pub matching_short : j < length key → length s ≤ at + j → AfterKey key s at (Err Ended)
  unfolding after
  matching_short k h = record { same = ap keyed (rw (drop_of_length-le s h, drop-cons key j 0 k) at m.same); within = tt }

  turn : j < length key → at + j < length s
      → pick (eqb (get_or key j 0) (get_or s (at + j) 0)) (after (drop (j + 1) key) (drop (at + (j + 1)) s)) differs ≡ after key (drop at s)
  unfolding after
  turn k h =
      let e : at + (j + 1) ≡ at + j + 1 = omega arith in
      rw (e, add-one (at + j), add-one j) (rw (drop-cons s (at + j) 0 h, drop-cons key j 0 k) at m.same)

  pub matching_differs : j < length key → at + j < length s → (get_or key j 0 ≡ get_or s (at + j) 0 → ⊥) → AfterKey key s at (Err Form)
  matching_differs k h d = record { same = ap keyed (rw (ne_eqb (get_or key j 0) (get_or s (at + j) 0) d) at (turn k h)); within = tt }

  pub matching_turn : j < length key → at + j < length s → get_or key j 0 ≡ get_or s (at + j) 0 → Matching key s at (j + 1)
  matching_turn k h e =
      record { key_within = omega arith; within = omega arith; same = rw (eq-eqb (get_or key j 0) (get_or s (at + j) 0) e) at (turn k h) }

  stand : length key ≤ j → AfterKey key s at (Ok (at + j))
  unfolding after
  stand k = record { same = ap keyed (rw (drop_of_length-le key k) at m.same); within = m.within }

  pub matching_end : length key ≤ j → AfterKey key s at (Ok (at + length key))
  matching_end k = let e : j ≡ length key = omega (arith, m.key_within) in rw e at (stand k)

-- ---- four bytes of a key as one number
lowest : (a x b y : ℕ) → a < 256 → x < 256 → a + b * 256 ≡ x + y * 256 → (a ≡ x) × (b ≡ y)
lowest a x b y h k e =
    let z : b ≡ y = by_order b y (λ l. absurd (omega arith)) (λ l. by_order y b (λ g. absurd (omega arith)) (λ g. omega arith)) in
    (omega arith, z)

module _ {s : List ℕ} {at r : ℕ} (m : QuadAt s at r) {a b c d : ℕ} (w : Bytes a b c d) where
  pub quad_bytes : r ≡ quad_number a b c d → (a ≡ get_or s at 0) × (b ≡ get_or s (at + 1) 0) × (c ≡ get_or s (at + 2) 0) × (d ≡ get_or s (at + 3) 0)
  quad_bytes e =
      let x = get_or s at 0 in
      let y = get_or s (at + 1) 0 in
      let z = get_or s (at + 2) 0 in
      let u = get_or s (at + 3) 0 in
      let f : quad_number a b c d ≡ quad_number x y z u = sym e ∙ m.same in
      let g = lowest a x (b + (c + d * 256) * 256) (y + (z + u * 256) * 256) w.b0 m.bytes.b0 (omega arith) in
      let h = lowest b y (c + d * 256) (z + u * 256) w.b1 m.bytes.b1 g.1 in
      let k = lowest c z d u w.b2 m.bytes.b2 h.1 in
      (g.0, h.0, k.0, k.1)

  module _ (h : 4 ≤ length s - at) where
    abbrev key : List ℕ
    key = a ∷ b ∷ c ∷ d ∷ []

    start : Matching key s at 0
    start = matching_start key s at (omega arith)

    one : a ≡ get_or s at 0 → Matching key s at 1
    one e = matching_turn start (omega arith) (omega arith) (rw (add-zero at) e)

    two : a ≡ get_or s at 0 → b ≡ get_or s (at + 1) 0 → Matching key s at 2
    two e f = matching_turn (one e) (omega arith) (omega arith) f

    three : a ≡ get_or s at 0 → b ≡ get_or s (at + 1) 0 → c ≡ get_or s (at + 2) 0 → Matching key s at 3
    three e f g = matching_turn (two e f) (omega arith) (omega arith) g

    pub quad_same : {x : ℕ} → x ≡ quad_number a b c d → r ≡ x → AfterKey key s at (Ok (at + 4))
    quad_same g e =
        let z = quad_bytes (e ∙ g) in
        stand (matching_turn (three z.0 z.1 z.2) (omega arith) (omega arith) z.3) (omega arith)

    pub quad_differs : {x : ℕ} → x ≡ quad_number a b c d → (r ≡ x → ⊥) → AfterKey key s at (Err Form)
    quad_differs {x} g n =
        cases (eqb a (get_or s at 0))
        (λ e0. let z0 = eqb-true a (get_or s at 0) e0 in cases (eqb b (get_or s (at + 1) 0))
        (λ e1. let z1 = eqb-true b (get_or s (at + 1) 0) e1 in cases (eqb c (get_or s (at + 2) 0))
        (λ e2. let z2 = eqb-true c (get_or s (at + 2) 0) e2 in cases (eqb d (get_or s (at + 3) 0))
        (λ e3. let z3 = eqb-true d (get_or s (at + 3) 0) e3 in absurd (n (omega (arith, g, m.same))))
        (λ e3. matching_differs (three z0 z1 z2) (omega arith) (omega arith) (eqb-false d (get_or s (at + 3) 0) e3)))
        (λ e2. matching_differs (two z0 z1) (omega arith) (omega arith) (eqb-false c (get_or s (at + 2) 0) e2)))
        (λ e1. matching_differs (one z0) (omega arith) (omega arith) (eqb-false b (get_or s (at + 1) 0) e1)))
        (λ e0. matching_differs start (omega arith) (omega arith) (rw (add-zero at) (eqb-false a (get_or s at 0) e0)))

-- ---- a key in two parts
after_at : (k l s : List ℕ) {t : List ℕ} → stands t ≡ after k s → after (k ++ l) s ≡ after l t
unfolding after
after_at [] l s e = cc
after_at (x ∷ k) l [] e = absurd (let z : ◌≡◌ {A = ℕ} 0 1 = cc in omega arith)
after_at (x ∷ k) l (y ∷ s) {t} e =
    cases (eqb x y)
    (λ h. rw h (after_at k l s (rw h at e)))
    (λ h. absurd (let g : stands t ≡ differs = rw h at e in let z : ◌≡◌ {A = ℕ} 0 1 = cc in omega arith))

after_differs : (k l s : List ℕ) → differs ≡ after k s → differs ≡ after (k ++ l) s
unfolding after
after_differs [] l s e = absurd (let z : ◌≡◌ {A = ℕ} 0 1 = cc in omega arith)
after_differs (x ∷ k) l [] e = absurd (let z : ◌≡◌ {A = ℕ} 0 1 = cc in omega arith)
after_differs (x ∷ k) l (y ∷ s) e = cases (eqb x y) (λ h. rw h (after_differs k l s (rw h at e))) (λ h. rw h)

after_broken : (k l s : List ℕ) → broken ≡ after k s → broken ≡ after (k ++ l) s
unfolding after
after_broken [] l s e = absurd (let z : ◌≡◌ {A = ℕ} 0 1 = cc in omega arith)
after_broken (x ∷ k) l [] e = refl
after_broken (x ∷ k) l (y ∷ s) e =
    cases (eqb x y)
    (λ h. rw h (after_broken k l s (rw h at e)))
    (λ h. absurd (let g : broken ≡ differs = rw h at e in let z : ◌≡◌ {A = ℕ} 0 1 = cc in omega arith))

after_err : (k l s : List ℕ) {f : Fault} → Err f ≡ keyed (after k s) → Err f ≡ keyed (after (k ++ l) s)
after_err k l s e =
    keyed_err (λ a f. a ≡ after k s → Err f ≡ keyed (after (k ++ l) s))
    (λ q. ap keyed (after_differs k l s q)) (λ q. ap keyed (after_broken k l s q)) (after k s) e refl

module _ {a b c d : ℕ} {s : List ℕ} {at : ℕ} where
  pub word_found : {l : List ℕ} {e : ℕ} {r : Result ℕ Fault} → AfterKey (a ∷ b ∷ c ∷ d ∷ []) s at (Ok e) → AfterKey l s e r
      → AfterKey (a ∷ b ∷ c ∷ d ∷ l) s at r
  word_found {l} m u =
      record {
        same = u.same ∙ ap keyed (sym (after_at (a ∷ b ∷ c ∷ d ∷ []) l (drop at s) (keyed_ok (after (a ∷ b ∷ c ∷ d ∷ []) (drop at s)) m.same)));
        within = u.within;
      }

  pub word_refused : (l : List ℕ) {f : Fault} → AfterKey (a ∷ b ∷ c ∷ d ∷ []) s at (Err f) → AfterKey (a ∷ b ∷ c ∷ d ∷ l) s at (Err f)
  word_refused l m = record { same = after_err (a ∷ b ∷ c ∷ d ∷ []) l (drop at s) m.same; within = tt }

-- ---- a key of three bytes
module _ (s : List ℕ) (at : ℕ) (h : 3 ≤ length s - at) (x : ℕ) where
  name_start : Matching (32 ∷ x ∷ 61 ∷ []) s at 0
  name_start = matching_start (32 ∷ x ∷ 61 ∷ []) s at (omega arith)

  name_one : get_or s at 0 ≡ 32 → Matching (32 ∷ x ∷ 61 ∷ []) s at 1
  name_one e = matching_turn name_start (omega arith) (omega arith) (rw (add-zero at) (sym e))

  name_two : get_or s at 0 ≡ 32 → get_or s (at + 1) 0 ≡ x → Matching (32 ∷ x ∷ 61 ∷ []) s at 2
  name_two e f = matching_turn (name_one e) (omega arith) (omega arith) (sym f)

  pub name_differs : ((get_or s at 0 ≡ 32) × (get_or s (at + 1) 0 ≡ x) × (get_or s (at + 2) 0 ≡ 61 → ⊥)) ⊎ ((get_or s at 0 ≡ 32) × (get_or s (at + 1) 0 ≡ x → ⊥)) ⊎ (get_or s at 0 ≡ 32 → ⊥)
      → AfterKey (32 ∷ x ∷ 61 ∷ []) s at (Err Form)
  name_differs (inl k) = matching_differs (name_two k.0 k.1) (omega arith) (omega arith) (λ g. k.2 (sym g))
  name_differs (inr (inl k)) = matching_differs (name_one k.0) (omega arith) (omega arith) (λ f. k.1 (sym f))
  name_differs (inr (inr n)) = matching_differs name_start (omega arith) (omega arith) (rw (add-zero at) (λ e. n (sym e)))

  pub name_found : get_or s at 0 ≡ 32 → get_or s (at + 1) 0 ≡ x → get_or s (at + 2) 0 ≡ 61 → AfterKey (32 ∷ x ∷ 61 ∷ []) s at (Ok (at + 3))
  name_found e f g = stand (matching_turn (name_two e f) (omega arith) (omega arith) (sym g)) (omega arith)

-- ---- a value's bytes
pub record Running (s : List ℕ) (at i : ℕ) : Type 0 where
  pub from : at ≤ i
  pub within : i ≤ length s
  pub same : i + count (drop i s) ≡ at + count (drop at s)

pub running_start : (s : List ℕ) (at : ℕ) → at ≤ length s → Running s at at
running_start s at h = record { from = omega arith; within = h; same = refl }

pub count_more : (b : ℕ) (s : List ℕ) → stops b ≡ false → count (b ∷ s) ≡ suc (count s)
unfolding count
count_more b s h = rw (h, count)

pub count_none : (b : ℕ) (s : List ℕ) → stops b ≡ true → count (b ∷ s) ≡ 0
unfolding count
count_none b s h = rw (h, count)

-- digits end no value
pub digits_run : (k : ℕ) (s : List ℕ) → k ≤ length s → all_digits (take k s) ≡ true → count s ≡ k + count (drop k s)
digits_run zero s h a = sym (zero-add (count s))
digits_run (suc k) [] h a = absurd (omega arith)
digits_run (suc k) (b ∷ s) h a =
    let d = all_head b (take k s) a in
    let g : stops b ≡ false = rw (ne_eqb b 32 (λ q. omega arith), ne_eqb b 10 (λ q. omega arith)) in
    count_more b s g ∙ ap suc (digits_run k s (omega arith) (all_tail b (take k s) a)) ∙ omega arith

pub running_digits : {s : List ℕ} {at from to : ℕ} → Running s at from → from ≤ to → to ≤ length s → all_digits (take (to - from) (drop from s)) ≡ true
    → Running s at to
running_digits {s} {at} {from} {to} m l h a =
    let k : to - from ≤ length (drop from s) = simp length-drop (omega arith) in
    let e : from + (to - from) ≡ to = omega arith in
    let d : count (drop from s) ≡ (to - from) + count (drop to s) = digits_run (to - from) (drop from s) k a ∙ rw (drop-drop (to - from) from s, e) in
    record { from = omega (arith, m.from); within = h; same = omega (arith, d, m.same) }

module _ {s : List ℕ} {at i : ℕ} (m : Running s at i) where
  pub run_stops : i < length s → stops (get_or s i 0) ≡ true → RunEnd s at i
  run_stops h e =
      let z : count (drop i s) ≡ 0 = rw (drop-cons s i 0 h) (count_none (get_or s i 0) (drop (suc i) s) e) in
      record { same = omega (arith, z, m.same); from = m.from; within = m.within }

  pub run_turn : i < length s → stops (get_or s i 0) ≡ false → Running s at (i + 1)
  run_turn h g =
      let e : count (drop i s) ≡ count (drop (i + 1) s) + 1 = rw (add-one (count (drop (i + 1) s)), add-one i, drop-cons s i 0 h) (count_more (get_or s i 0) (drop (suc i) s) g) in
      record { from = omega arith; within = omega arith; same = omega (arith, m.same) }

-- where a stop is looked for finds what is said
count_position : (s : List ℕ) → count s ≡ position_or_len stops s
unfolding count
count_position s = is_position_or_len count stops refl (λ x xs. cases (stops x) (λ e. rw e (count_none x xs e)) (λ e. rw e (omega (arith, count_more x xs e)))) s

pub count_within : (s : List ℕ) → count s ≤ length s
unfolding count
count_within [] = omega arith
count_within (b ∷ s) = cases (stops b) (λ e. rw (count_none b s e) (omega arith)) (λ e. rw (count_more b s e) (omega (arith, count_within s)))

module _ (s : List ℕ) (at : ℕ) (h : at ≤ length s) {u : List ℕ} (w : u ≡ take (length s - at) (drop at s)) {r : Option ℕ}
    (q : r ≡ cond (ltb (position_or_len stops u) (length u)) (Some (position_or_len stops u)) None) where
  found : r ≡ cond (ltb (count (drop at s)) (length (drop at s))) (Some (count (drop at s))) None
  found =
      let e : u ≡ drop at s = w ∙ take_all (length s - at) (drop at s) (simp length-drop (omega arith)) in
      rw (count_position (drop at s)) (rw e at q)

  pub run_some : {n : ℕ} → r ≡ Some n → RunEnd s at (at + n)
  run_some {n} k = cases (ltb (count (drop at s)) (length (drop at s)))
      (λ l.
      let f : ◌≡◌ {A = Option ℕ} (Some n) (Some (count (drop at s))) = sym k ∙ (rw l at found) in
      let e = same_Some n (count (drop at s)) f in
      record { same = omega (arith, e); from = omega arith; within = omega (arith, e, count_within (drop at s), length-drop at s) })
      (λ l. absurd (let f : ◌≡◌ {A = Option ℕ} (Some n) None = sym k ∙ (rw l at found) in cc))

  pub run_none : r ≡ None → RunEnd s at (length s)
  run_none k = cases (ltb (count (drop at s)) (length (drop at s)))
      (λ l. absurd (let f : ◌≡◌ {A = Option ℕ} None (Some (count (drop at s))) = sym k ∙ (rw l at found) in cc))
      (λ l.
      let d = ltb-false (count (drop at s)) (length (drop at s)) l in
      record { same = omega (arith, d, count_within (drop at s), length-drop at s); from = h; within = omega arith })

-- ---- a value, and a key and a value
module _ {s : List ℕ} {b e : ℕ} (u : RunEnd s b e) where
  size : count (drop b s) ≡ e - b
  size = omega (arith, u.same)

  pub value_ends : e < length s → ValueAt s b (Ok (b, e))
  unfolding value_token
  value_ends h =
      let l : e - b < length (drop b s) = simp length-drop (omega (arith, u.from)) in
      let d : b + (e - b) ≡ e = omega (arith, u.from) in
      record {
        is = rw (← u.same, lt-ltb e (length s) h);
        same = λ k n. rw (size, lt-ltb (e - b) (length (drop b s)) l, drop-drop (e - b) b s, d);
        within = (u.from, h);
      }

  pub value_over : length s ≤ e → ValueAt s b (Err Ended)
  unfolding value_token
  value_over h =
      let l : length (drop b s) ≤ e - b = simp length-drop (omega arith) in
      record { is = rw (← u.same, le-ltb e (length s) h); same = λ k n. rw (size, le-ltb (e - b) (length (drop b s)) l); within = tt }

-- what stands after a key is shorter by the key
after_length : (k s : List ℕ) {t : List ℕ} → stands t ≡ after k s → length k + length t ≡ length s
unfolding after
after_length [] s {t} e = let q : t ≡ s = cc in rw q (omega arith)
after_length (x ∷ k) [] e = absurd (let z : ◌≡◌ {A = ℕ} 0 1 = cc in omega arith)
after_length (x ∷ k) (y ∷ s) {t} e =
    cases (eqb x y)
    (λ h. omega (arith, after_length k s (rw h at e)))
    (λ h. absurd (let g : stands t ≡ differs = rw h at e in let z : ◌≡◌ {A = ℕ} 0 1 = cc in omega arith))

module _ {key s : List ℕ} {at b : ℕ} (m : AfterKey key s at (Ok b)) where
  standing : stands (drop b s) ≡ after key (drop at s)
  standing = keyed_ok (after key (drop at s)) m.same

  found_place : at ≤ length s → b ≡ at + length key
  found_place h = omega (arith, after_length key (drop at s) standing, length-drop at s, length-drop b s, m.within)

  pub found_within : b ≤ length s
  found_within = m.within

  -- the field is the value there
  pub field_found : (k : ValueKind) (l : ℕ) → value_of k l (drop b s) ≡ field_of key k l (drop at s)
  unfolding field_of
  field_found k l = rw (← standing)

  pub token_found : {t : Result (ℕ × ℕ) Fault} → at ≤ length s → ValueAt s b t → TokenAt key s at t
  unfolding key_token
  token_found h u = record { is = u.is ∙ rw (← standing, ← found_place h); same = λ k l. u.same k l ∙ field_found k l; within = u.within }

module _ {key s : List ℕ} {at : ℕ} {f : Fault} (m : AfterKey key s at (Err f)) where
  -- whatever was to follow is refused
  pub key_refused : {A : Type 0} (p : Parser A) (l : ℕ) → refused f l ≡ after_key (after key (drop at s)) p l
  key_refused {A} p l = keyed_err (λ a f. refused f l ≡ after_key a p l) refl refl (after key (drop at s)) m.same

  pub field_refused : (k : ValueKind) (l : ℕ) → refused f l ≡ field_of key k l (drop at s)
  unfolding field_of
  field_refused k l = key_refused (value_of k) l

  pub token_refused : TokenAt key s at (Err f)
  unfolding key_token
  token_refused =
      record {
        is = keyed_err (λ a f. Err f ≡ token_after s (at + length key) a) refl refl (after key (drop at s)) m.same;
        same = field_refused;
        within = tt;
      }

ok_pair : {x y u v : ℕ} → ◌≡◌ {A = Result (ℕ × ℕ) Fault} (Ok (x, y)) (Ok (u, v)) → (x ≡ u) × (y ≡ v)
ok_pair e = let p : ◌≡◌ {A = ℕ × ℕ} _ _ = cc in (ap (λ (p : ℕ × ℕ). p.0) p, ap (λ (p : ℕ × ℕ). p.1) p)

module _ {s : List ℕ} {at b e : ℕ} (m : ValueAt s at (Ok (b, e))) where
  pub value_within : (b ≤ e) × (e < length s)
  value_within = m.within

  -- the value is what runs from the place
  pub value_run : (b ≡ at) × RunEnd s at e
  unfolding value_token
  value_run =
      cases (ltb (at + count (drop at s)) (length s))
      (λ h.
      let p = ok_pair (rw h at m.is) in
      let l : (b ≤ e) × (e < length s) = value_within in
      (p.0, record { same = p.1; from = omega arith; within = omega arith }))
      (λ h. absurd (let z : ◌≡◌ {A = Result (ℕ × ℕ) Fault} (Ok (b, e)) (Err Ended) = rw h at m.is in cc))

count_short : (t : List ℕ) → count t ≤ length t
unfolding count
count_short [] = omega arith
count_short (b ∷ t) = cases (stops b) (λ h. rw (count_none b t h) (omega arith)) (λ h. rw (count_more b t h) (omega (arith, count_short t)))

-- or it runs to the text's end
pub value_broken : {s : List ℕ} {at : ℕ} {f : Fault} → at ≤ length s → ValueAt s at (Err f) → (f ≡ Ended) × RunEnd s at (length s)
unfolding value_token
value_broken {s} {at} {f} h m =
    cases (ltb (at + count (drop at s)) (length s))
    (λ k. absurd (let z : ◌≡◌ {A = Result (ℕ × ℕ) Fault} (Err f) (Ok (at, at + count (drop at s))) = rw k at m.is in cc))
    (λ k.
    let z : ◌≡◌ {A = Result (ℕ × ℕ) Fault} (Err f) (Err Ended) = rw k at m.is in
    let l = ltb-false (at + count (drop at s)) (length s) k in
    let n = count_short (drop at s) in
    (cc, record { same = omega (arith, l, n, length-drop at s); from = h; within = omega arith }))

module _ {key s : List ℕ} {at b e : ℕ} (m : TokenAt key s at (Ok (b, e))) where
  pub token_within : (b ≤ e) × (e < length s)
  token_within = m.within

-- ---- the end of a line
module _ {s : List ℕ} {at : ℕ} where
  feed_same : (r : Result ℕ Fault) → AfterKey (10 ∷ []) s at r → FeedAt s at r
  feed_same (Ok e) m = record { same = λ l. rw (← standing m); within = m.within }
  feed_same (Err f) m = record { same = λ l. key_refused m (λ k r. took tt (suc k) r) l; within = tt }

  pub feed_is : {r : Result ℕ Fault} → AfterKey (10 ∷ []) s at r → FeedAt s at r
  feed_is {r} m = feed_same r m
