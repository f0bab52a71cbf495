-- Laws of the readers of values: each says what a step of the code shows.
use Rattle.std.specs.Prelude.{ℕ, ◌-◌, ◌≤◌, ◌<◌, ◌≡◌, refl, Option, Some, None, Ok, Err, List, Bool, true, false, ◌&&◌, ◌⊎◌, ltb, leb, length, take, drop}
use Rattle.std.proofs.Common.{◌∙◌, inl, inr, arith}
use borrow.Author.Tests.{lt-ltb, le-ltb, le-leb, lt-leb}
use Rattle.text.specs.declared.Fault.{Fault}
use Rattle.text.specs.declared.Fault.TheVariants.{Misspelt}
use Rattle.text.specs.Number.{value}
use Rattle.text.proofs.NumberLaws.{by_order}
use Rattle.text.specs.Value.{number, said, unsaid, check}
use Rattle.text.specs.Line.{Outcome, took, refused}
use Rattle.digits.specs.Read.{number_of, capped}
use Rattle.digits.specs.NumeralLaws.{spelt_bad, spelt_good}
use Rattle.scan.specs.Place.{Answer, AfterKey, RunEnd}
use Rattle.numbers.specs.Numerals.{NumeralFault, NumeralAt}
use Rattle.scan.specs.PlaceLaws.{value_ends, value_over, field_found, field_refused}
use Rattle.numbers.specs.Answer.{NumberEnds, NumberWithin, NumberSaid, within_of, NumberIn, NumberAt, mapped}

and_false : (a : Bool) → a && false ≡ false
and_false true = refl
and_false false = refl

-- ---- numbers

-- a number that is outside where it is capped is outside, and one that is inside is not capped
pub outside : (lo n x v : ℕ) → capped x ≡ v → n ≤ 4294967296 → (v < lo) ⊎ (n ≤ v) → leb lo x && ltb x n ≡ false
outside lo n x v c u (inl l) =
    by_order x 4294967296 (λ s. rw (lt-leb lo x (omega arith))) (λ g. rw (le-ltb x n (omega arith), and_false (leb lo x)))
outside lo n x v c u (inr l) = rw (le-ltb x n (omega arith), and_false (leb lo x))

module _ (t : List ℕ) (e lo n : ℕ) (f : Fault) {w : Option ℕ} (d : w ≡ number_of t) where
  pub number_bad : w ≡ None → NumberSaid lo n f t e (Err Misspelt)
  unfolding said unsaid
  number_bad h = record { same = λ l s. rw (spelt_bad t d h); ends = tt }

  module _ {v : ℕ} (h : w ≡ Some v) (u : n ≤ 4294967296) where
    number_out : (v < lo) ⊎ (n ≤ v) → NumberSaid lo n f t e (Err f)
    unfolding said check
    number_out k = record { same = λ l s. rw ((spelt_good t d h).0, outside lo n (value t) v (spelt_good t d h).1 u k); ends = tt }

    pub number_low : v < lo → NumberSaid lo n f t e (Err f)
    number_low k = number_out (inl k)

    pub number_high : n ≤ v → NumberSaid lo n f t e (Err f)
    number_high k = number_out (inr k)

    pub number_good : lo ≤ v → v < n → NumberSaid lo n f t e (Ok (v, e))
    unfolding said check
    number_good k g =
        let x : value t ≡ v = omega (arith, (spelt_good t d h).1) in
        record { same = λ l s. rw ((spelt_good t d h).0, x, le-leb lo v k, lt-ltb v n g); ends = (refl, k, g) }

-- ---- an outcome with another value
pub mapped_took : {A B : Type 0} (g : A → B) (o : Outcome A) {x : B} {l : ℕ} {s : List ℕ} → took x l s ≡ mapped g o → (v : A) × (o ≡ took v l s) × (g v ≡ x)
mapped_took g (took v k r) e = (v, (cc), (cc))
mapped_took g (refused f k) e = absurd (let z : ◌≡◌ {A = ℕ} 0 1 = cc in omega arith)

pub mapped_refused : {A B : Type 0} (g : A → B) (o : Outcome A) {f : Fault} {l : ℕ} → refused f l ≡ mapped g o → o ≡ refused f l
mapped_refused g (took v k r) e = absurd (let z : ◌≡◌ {A = ℕ} 0 1 = cc in omega arith)
mapped_refused g (refused h k) e = cc

-- ---- a number at a place, and behind a key
module _ (lo n : ℕ) (f : Fault) (v e : ℕ) where
  pub is_low : v < lo → Err f ≡ within_of lo n f v e
  unfolding within_of
  is_low k = rw (lt-leb lo v k)

  pub is_high : n ≤ v → Err f ≡ within_of lo n f v e
  unfolding within_of
  is_high k = rw (le-ltb v n k, and_false (leb lo v))

  pub is_good : lo ≤ v → v < n → Ok (v, e) ≡ within_of lo n f v e
  unfolding within_of
  is_good k g = rw (le-leb lo v k, lt-ltb v n g)

  within_said : (t : List ℕ) → Some v ≡ number_of t → n ≤ 4294967296 → NumberSaid lo n f t e (within_of lo n f v e)
  within_said t d u =
      by_order v lo
      (λ k. rw (← is_low k) (number_low t e lo n f d refl u k))
      (λ k. by_order v n (λ g. rw (← is_good k g) (number_good t e lo n f d refl u k g)) (λ g. rw (← is_high g) (number_high t e lo n f d refl u g)))

number_to : {s : List ℕ} {at lo n : ℕ} {f : Fault} {e : ℕ} {r : Answer ℕ} → RunEnd s at e → e < length s
    → NumberSaid lo n f (take (e - at) (drop at s)) e r → NumberIn lo n f s at r
number_to {s} {at} {lo} {n} {f} {e} {r} u h d =
    record { same = λ l. d.same l s ∙ (value_ends u h).same (number lo n f) l; within = reach r d.ends h }
  where
    reach : (r : Answer ℕ) → NumberEnds lo n e r → e < length s → NumberWithin lo n s r
    reach (Ok p) h g = (rw h.0 g, h.1, h.2)
    reach (Err f) h g = tt

module _ {s : List ℕ} {at v e : ℕ} (m : NumeralAt s at (Ok (v, e))) where
  pub number_wide : {lo n : ℕ} {f : Fault} {r : Answer ℕ} → n ≤ 4294967296 → r ≡ within_of lo n f v e → NumberIn lo n f s at r
  number_wide {lo} {n} {f} u d = rw d (number_to m.is.run m.is.inside (within_said lo n f v e (take (e - at) (drop at s)) m.is.same u))

  -- a number of a byte
  pub number_is : {lo n : ℕ} {f : Fault} {r : Answer ℕ} → n ≤ 256 → r ≡ within_of lo n f v e → NumberIn lo n f s at r
  number_is u d = number_wide (omega arith) d

module _ {s : List ℕ} {at : ℕ} {g : Fault} (m : NumeralAt s at (Err g)) where
  pub number_refused : (lo n : ℕ) (f : Fault) → NumberIn lo n f s at (Err g)
  number_refused lo n f = go m.is
    where
      go : NumeralFault s at g → NumberIn lo n f s at (Err g)
      go (inl i) = rw i.0 (number_to i.1.1.run i.1.1.inside (number_bad (take (i.1.0 - at) (drop at s)) i.1.0 lo n f i.1.1.same refl))
      go (inr i) = rw i.0 (record { same = λ l. (value_over i.1.1 i.1.2).same (number lo n f) l; within = tt })

module _ {key s : List ℕ} {at b : ℕ} (m : AfterKey key s at (Ok b)) where
  pub number_found : {lo n : ℕ} {f : Fault} {r : Answer ℕ} → NumberIn lo n f s b r → NumberAt lo n f key s at r
  number_found {lo} {n} {f} u = record { same = λ l. u.same l ∙ field_found m (number lo n f) l; within = u.within }

module _ {key s : List ℕ} {at : ℕ} {g : Fault} (m : AfterKey key s at (Err g)) where
  pub number_unfound : (lo n : ℕ) (f : Fault) → NumberAt lo n f key s at (Err g)
  number_unfound lo n f = record { same = field_refused m (number lo n f); within = tt }
