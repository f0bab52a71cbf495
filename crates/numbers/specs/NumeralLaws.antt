-- Laws of the number that a value spells: each says what a step of the code shows.
use Rattle.std.specs.Prelude.{ℕ, suc, ◌+◌, ◌-◌, ◌*◌, ◌≤◌, ◌<◌, ◌≡◌, ◌⊎◌, Bool, false, Option, Some, None, Result, Ok, Err, List, [], ◌∷◌, length, take, drop, leb, eqb}
use Rattle.std.proofs.Math.Path.{refl, sym, ap}
use Rattle.std.specs.Option.{ok_or}
use Rattle.std.proofs.lemmas.Option.{same_Some, some_pair_parts}
use Rattle.std.proofs.Math.Logic.{inl, inr}
use Rattle.std.proofs.Common.{◌∙◌, length-drop, drop-cons, get_or-take, get_or-drop, length-take-le, add-zero, add-one}
use Rattle.std.proofs.Math.Bool.{true}
use native.Mathlib.Omega.{arith}
use Rattle.std.proofs.Math.ListN.{get_or}
use borrow.Author.Tests.{le-leb, lt-leb, leb-true, eq-eqb, ne_eqb, eqb-true}
use Rattle.text.specs.declared.Fault.{Fault}
use Rattle.text.specs.declared.Fault.TheVariants.{Misspelt}
use Rattle.text.proofs.NumberLaws.{digit_fact, spelt_all}
use Rattle.text.specs.Number.{is_digit, all_digits, spelt, value, value_from}
use Rattle.text.specs.Line.{stops}
use Rattle.digits.specs.declared.Lead.{Lead}
use Rattle.digits.specs.Read.{digit_of, capped, digits_of, number_of, lead_of}
use Rattle.digits.specs.LeadLaws.{digit_plus, digit_yes, digit_no, lead_at}
use Rattle.digits.specs.ReadLaws.{number_none, number_zero, number_digits}
use Rattle.digits.specs.NumeralLaws.{pick_good}
use Rattle.scan.specs.Place.{RunEnd, ValueAt}
use Rattle.numbers.specs.Numerals.{DigitsTo, NumeralTo, NumeralAt, short_of, before_space, short_value_of}
use Rattle.scan.specs.PlaceLaws.{running_start, running_digits, run_stops, value_run, value_broken}
use Rattle.table.specs.Cases.{cases}

-- digits up to the end of a value
pub digits_to_lem : (s : List ℕ) (at : ℕ) {r : Lead} {z : Bool} → r ≡ lead_of s at → at ≤ length s → r.end < length s → z ≡ stops (get_or s r.end 0) → z ≡ true
    → DigitsTo s at r.end r.value
unfolding digits_of
digits_to_lem s at {r} d l h q k =
    let m = lead_at s at d l in
    let t = take (r.end - at) (drop at s) in
    let a : all_digits t ≡ true = (pick_good (all_digits t) (capped (value t)) m.same).0 in
    record { run = run_stops (running_digits (running_start s at l) m.from m.within a) h (sym q ∙ k); inside = h; same = m.same }

module _ {s : List ℕ} {at e v : ℕ} (m : DigitsTo s at e v) where
  sized : length (take (e - at) (drop at s)) ≡ e - at
  sized = length-take-le (e - at) (drop at s) (simp length-drop (omega (arith, m.inside)))

  misspelt : None ≡ number_of (take (e - at) (drop at s)) → NumeralAt s at (Err Misspelt)
  misspelt q = record { is = inl (refl, (e, record { run = m.run; inside = m.inside; same = q })) }

  pub spelt_none : e ≡ at → NumeralAt s at (Err Misspelt)
  spelt_none h = misspelt (number_none _ (omega (arith, sized)))

  first : at < e → get_or (take (e - at) (drop at s)) 0 0 ≡ get_or s at 0
  first h = get_or-take (e - at) (drop at s) 0 0 (omega arith) ∙ get_or-drop at s 0 0 ∙ rw (add-zero at)

  pub spelt_zero : get_or s at 0 ≡ 48 → at + 1 < e → NumeralAt s at (Err Misspelt)
  spelt_zero z h = misspelt (number_zero _ (first (omega arith) ∙ z) (omega (arith, sized)))

  pub spelt_is : (e ≡ at → ⊥) → ((get_or s at 0 ≡ 48) × (e ≤ at + 1)) ⊎ (get_or s at 0 ≡ 48 → ⊥) → NumeralAt s at (Ok (v, e))
  spelt_is h z =
      let l : at < e = omega (arith, m.run.from) in
      record { is = record { run = m.run; inside = m.inside; same = number_digits _ (λ q. h (omega (arith, sized, q))) (go l z) (sym m.same) } }
    where
      go : at < e → ((get_or s at 0 ≡ 48) × (e ≤ at + 1)) ⊎ (get_or s at 0 ≡ 48 → ⊥)
          → ((get_or (take (e - at) (drop at s)) 0 0 ≡ 48) × (length (take (e - at) (drop at s)) ≤ 1)) ⊎ (get_or (take (e - at) (drop at s)) 0 0 ≡ 48 → ⊥)
      go l (inl k) = inl (first l ∙ k.0, omega (arith, sized, k.1))
      go l (inr k) = inr (λ q. k (sym (first l) ∙ q))

-- any value
pub any_ended : {s : List ℕ} {at : ℕ} {f : Fault} → ValueAt s at (Err f) → at ≤ length s → NumeralAt s at (Err f)
any_ended {s} m h = let z = value_broken h m in record { is = inr (z.0, (length s, z.1, omega arith)) }

module _ {s : List ℕ} {at b e : ℕ} (m : ValueAt s at (Ok (b, e))) where
  whole : (w : Option ℕ) → w ≡ number_of (take (e - b) (drop b s)) → NumeralTo s at e w
  whole w q = let z = value_run m in record { run = z.1; inside = m.within.1; same = rw z.0 at q }

  module _ {w : Option ℕ} (q : w ≡ number_of (take (e - b) (drop b s))) where
    pub any_misspelt : {f : Fault} → w ≡ None → ◌≡◌ {A = Result ℕ Fault} (Err f) (ok_or w Misspelt) → NumeralAt s at (Err f)
    any_misspelt {f} n k =
        let z : ◌≡◌ {A = Result ℕ Fault} (Err f) (Err Misspelt) = rw n at k in
        let g : f ≡ Misspelt = cc in
        record { is = inl (g, (e, whole None (sym n ∙ q))) }

    pub any_is : {v : ℕ} → w ≡ Some v → NumeralAt s at (Ok (v, e))
    any_is {v} n = record { is = whole (Some v) (sym n ∙ q) }

-- ---- one or two digits
module _ (u : List ℕ) (at : ℕ) where
  abbrev x : ℕ
  x = get_or u at 0

  abbrev y : ℕ
  y = get_or u (at + 1) 0

  pub short_few : length u - at < 3 → None ≡ short_of u at
  unfolding short_of
  short_few h = rw (lt-leb 3 (length u - at) h)

  module _ (h : 3 ≤ length u - at) {a : ℕ} (p : a ≡ digit_of x) where
    pub short_none : 9 < a → None ≡ short_of u at
    unfolding short_of
    short_none k = rw (le-leb 3 (length u - at) h, digit_no x p k)

    module _ (i : a ≤ 9) {b : ℕ} (q : b ≡ digit_of y) where
      pub short_one : 9 < b → Some (a, at + 1) ≡ short_of u at
      unfolding short_of
      short_one k = let e : a ≡ x - 48 = omega (arith, digit_plus x p i) in rw (le-leb 3 (length u - at) h, digit_yes x p i, digit_no y q k, e)

      pub short_zero : b ≤ 9 → a ≡ 0 → None ≡ short_of u at
      unfolding short_of
      short_zero k z = rw (le-leb 3 (length u - at) h, digit_yes x p i, digit_yes y q k, eq-eqb x 48 (omega (arith, digit_plus x p i)))

      pub short_two : b ≤ 9 → (a ≡ 0 → ⊥) → Some (a * 10 + b, at + 2) ≡ short_of u at
      unfolding short_of
      short_two k z =
          let e : a * 10 + b ≡ (x - 48) * 10 + (y - 48) = omega (arith, digit_plus x p i, digit_plus y q k) in
          rw (le-leb 3 (length u - at) h, digit_yes x p i, digit_yes y q k, ne_eqb x 48 (λ j. z (omega (arith, digit_plus x p i))), e)

-- a number of one or two digits from a place to another
pub record Spelt (u : List ℕ) (at to v : ℕ) : Type 0 where
  pub from : at < to
  pub within : to < length u
  pub good : spelt (take (to - at) (drop at u)) ≡ true
  pub value : value (take (to - at) (drop at u)) ≡ v
  pub small : v < 100

abbrev digits_to : List ℕ → ℕ → ℕ → List ℕ
digits_to u at to = take (to - at) (drop at u)

one_part : (u : List ℕ) (at : ℕ) → at < length u → digits_to u at (at + 1) ≡ get_or u at 0 ∷ []
one_part u at h =
    let e : at + 1 - at ≡ 1 = omega arith in
    rw (e, drop-cons u at 0 h)

two_part : (u : List ℕ) (at : ℕ) → at + 1 < length u → digits_to u at (at + 2) ≡ get_or u at 0 ∷ get_or u (at + 1) 0 ∷ []
two_part u at h =
    let e : at + 2 - at ≡ 2 = omega arith in
    let k : at < length u = omega arith in
    let g : suc at < length u = omega arith in
    rw (e, add-one at, drop-cons u at 0 k, drop-cons u (suc at) 0 g)

module _ (u : List ℕ) (at : ℕ) (h : 3 ≤ length u - at) (p : is_digit (x u at) ≡ true) where
  one_digit : Spelt u at (at + 1) (x u at - 48)
  unfolding spelt value value_from
  one_digit =
      let d = digit_fact (x u at) p in
      record {
        from = omega arith;
        within = omega arith;
        good = rw (one_part u at (omega arith), p);
        value = rw (one_part u at (omega arith)) (omega arith);
        small = omega arith;
      }

  two_digits : is_digit (y u at) ≡ true → eqb (x u at) 48 ≡ false → Spelt u at (at + 2) ((x u at - 48) * 10 + (y u at - 48))
  unfolding spelt value value_from all_digits
  two_digits q z =
      let d = digit_fact (x u at) p in
      let e = digit_fact (y u at) q in
      record {
        from = omega arith;
        within = omega arith;
        good = rw (two_part u at (omega arith), z, p, q);
        value = rw (two_part u at (omega arith)) (omega arith);
        small = omega arith;
      }

no_short : {P : Type 0} {v to : ℕ} → ◌≡◌ {A = Option (ℕ × ℕ)} (Some (v, to)) None → P
no_short e = absurd (cc)

is_short : {u : List ℕ} {at w f v e : ℕ} → ◌≡◌ {A = Option (ℕ × ℕ)} (Some (v, e)) (Some (w, f)) → Spelt u at f w → Spelt u at e v
is_short {w = w} {f = f} {v = v} {e = e} q p =
    let d = some_pair_parts v w e f q in
    rw (d.0, d.1) p

module _ (u : List ℕ) (at : ℕ) {v to : ℕ} (e : Some (v, to) ≡ short_of u at) where
  pub short_is : Spelt u at to v
  unfolding short_of
  short_is =
      cases (leb 3 (length u - at))
      (λ h.
      let k = leb-true 3 (length u - at) h in
      cases (is_digit (x u at))
      (λ a. cases (is_digit (y u at))
      (λ b. cases (eqb (x u at) 48)
      (λ z. no_short (rw (h, a, b, z) at e))
      (λ z. is_short (rw (h, a, b, z) at e) (two_digits u at k a b z)))
      (λ b. is_short (rw (h, a, b) at e) (one_digit u at k a)))
      (λ a. no_short (rw (h, a) at e)))
      (λ h. no_short (rw h at e))

  pub short_within : to < length u
  short_within = short_is.within

  pub short_less : at < length u → length u - (to + 1) < length u - at
  short_less h = omega (arith, short_is.from)

  -- a short number that is a whole value
  pub short_numeral : at ≤ length u → stops (get_or u to 0) ≡ true → NumeralTo u at to (Some v)
  unfolding number_of
  short_numeral h k =
      let i = short_is in
      let l : all_digits (digits_to u at to) ≡ true = spelt_all (digits_to u at to) i.good in
      let g : RunEnd u at to = run_stops (running_digits (running_start u at h) (omega (arith, i.from)) (omega (arith, i.within)) l) i.within k in
      let c : capped v ≡ v = omega (arith, i.small) in
      record { run = g; inside = i.within; same = rw (i.good, i.value, c) }

-- ---- before a space
module _ (s : List ℕ) (at : ℕ) where
  pub short_no : None ≡ short_of s at → None ≡ short_value_of s at
  unfolding short_value_of
  short_no p = rw (← p)

  module _ {v e : ℕ} (p : Some (v, e) ≡ short_of s at) where
    pub short_space : get_or s e 0 ≡ 32 → Some (v, e) ≡ short_value_of s at
    unfolding short_value_of
    short_space k = rw (← p, eq-eqb (get_or s e 0) 32 k)

    pub short_other : (get_or s e 0 ≡ 32 → ⊥) → None ≡ short_value_of s at
    unfolding short_value_of
    short_other k = rw (← p, ne_eqb (get_or s e 0) 32 k)

module _ (s : List ℕ) (at : ℕ) {v e : ℕ} (p : Some (v, e) ≡ short_value_of s at) (h : at ≤ length s) where
  pub short_whole : NumeralTo s at e (Some v)
  unfolding short_value_of
  short_whole = go (short_of s at) refl p
    where
      go : (o : Option (ℕ × ℕ)) → o ≡ short_of s at → Some (v, e) ≡ before_space s o → NumeralTo s at e (Some v)
      go None k z = no_short z
      go (Some q) k z =
          cases (eqb (get_or s q.1 0) 32)
          (λ l.
          let g : ◌≡◌ {A = Option (ℕ × ℕ)} (Some (v, e)) (Some q) = rw l at z in
          let i : get_or s e 0 ≡ 32 = ap (λ (x : ℕ × ℕ). get_or s x.1 0) (same_Some (v, e) q g) ∙ eqb-true (get_or s q.1 0) 32 l in
          short_numeral s at (g ∙ k) h (rw i))
          (λ l. no_short (rw l at z))

  pub numeral_short : NumeralAt s at (Ok (v, e))
  numeral_short = record { is = short_whole }
