-- Laws of a list's items: each says what a step of the code shows.
use Rattle.std.specs.Prelude.{ℕ, suc, ◌+◌, ◌-◌, ◌^◌, ◌≤◌, ◌<◌, ◌≡◌, refl, Bool, true, false, ◌&&◌, List, [], ◌∷◌, ltb, leb, eqb, length, take, drop, Option, Some, None, cond}
use Rattle.std.proofs.Common.{sym, ◌∙◌, arith, length-drop, drop-drop, take_all, ltb-false}
use Rattle.std.proofs.Math.Option.{none}
use Rattle.std.specs.List.{position_or_len}
use Rattle.std.proofs.lemmas.List.Recursion.{is_position_or_len}
use Rattle.std.proofs.lemmas.Option.{same_Some}
use borrow.Author.Tests.{lt-ltb, le-ltb}
use Rattle.table.specs.Cases.{cases}
use Rattle.table.specs.Mask.{pick}
use Rattle.text.specs.Number.{spelt, value}
use Rattle.text.proofs.NumberLaws.{by_order}
use Rattle.text.specs.Value.{numeral, split, each}
use Rattle.digits.specs.Read.{number_of, capped}
use Rattle.digits.specs.NumeralLaws.{spelt_good, numeral_bad}
use Rattle.lists.specs.Items.{up_to, next_comma, CommaAt, more, bit_of, part, item_for, item_of}

-- ---- up to the next comma
up_short : (s : List ℕ) → up_to s ≤ length s
unfolding up_to
up_short [] = omega arith
up_short (b ∷ s) = cases (eqb b 44) (λ e. rw e (omega arith)) (λ e. rw e (omega (arith, up_short s)))

abbrev pub is_comma : ℕ → Bool
is_comma b = eqb b 44

-- where a comma is looked for finds what is said
up_position : (s : List ℕ) → up_to s ≡ position_or_len is_comma s
unfolding up_to
up_position s = is_position_or_len up_to is_comma refl (λ x xs. cases (eqb x 44) (λ e. rw e) (λ e. rw e (omega arith))) s

module _ (t : List ℕ) (from : ℕ) (h : from ≤ length t) {u : List ℕ} (w : u ≡ take (length t - from) (drop from t)) {r : Option ℕ}
    (q : r ≡ cond (ltb (position_or_len is_comma u) (length u)) (Some (position_or_len is_comma u)) None) where
  found : r ≡ cond (ltb (up_to (drop from t)) (length (drop from t))) (Some (up_to (drop from t))) None
  found =
      let e : u ≡ drop from t = w ∙ take_all (length t - from) (drop from t) (simp length-drop (omega arith)) in
      rw (up_position (drop from t)) (rw e at q)

  pub comma_some : {n : ℕ} → r ≡ Some n → CommaAt t from (from + n)
  comma_some {n} k = cases (ltb (up_to (drop from t)) (length (drop from t)))
      (λ l.
      let f : ◌≡◌ {A = Option ℕ} (Some n) (Some (up_to (drop from t))) = sym k ∙ (rw l at found) in
      let e = same_Some n (up_to (drop from t)) f in
      let d = up_short (drop from t) in
      record { same = omega (arith, e); from_on = omega arith; within = omega (arith, e, d, length-drop from t) })
      (λ l. absurd (let f : ◌≡◌ {A = Option ℕ} (Some n) None = sym k ∙ (rw l at found) in cc))

  pub comma_none : r ≡ None → CommaAt t from (length t)
  comma_none k = cases (ltb (up_to (drop from t)) (length (drop from t)))
      (λ l. absurd (let f : ◌≡◌ {A = Option ℕ} None (Some (up_to (drop from t))) = sym k ∙ (rw l at found) in cc))
      (λ l.
      let d = ltb-false (up_to (drop from t)) (length (drop from t)) l in
      record { same = omega (arith, d, up_short (drop from t), length-drop from t); from_on = h; within = omega arith })

-- the first item and the others
pub split_first : (s : List ℕ) → split s ≡ take (up_to s) s ∷ more s (up_to s)
unfolding split up_to
split_first [] = refl
split_first (b ∷ s) =
    cases (eqb b 44)
    (λ e. rw (e, lt-ltb 0 (suc (length s)) (omega arith)))
    (λ e. rw (e, split_first s, suc_ltb (up_to s) (length s)))
  where
    suc_ltb : (a b : ℕ) → ltb (suc a) (suc b) ≡ ltb a b
    suc_ltb a b = by_order a b (λ l. lt-ltb (suc a) (suc b) (omega arith) ∙ sym (lt-ltb a b l)) (λ l. le-ltb (suc a) (suc b) (omega arith) ∙ sym (le-ltb a b l))

pub comma_split : {t : List ℕ} {from to : ℕ} → CommaAt t from to → split (drop from t) ≡ part t from to ∷ more t to
comma_split {t} {from} {to} c =
    let n : up_to (drop from t) ≡ to - from = omega (arith, c.same) in
    let d : from + suc (to - from) ≡ suc to = omega (arith, c.from_on) in
    split_first (drop from t) ∙ rw (n, drop-drop (suc (to - from)) from t, d, tests c)
  where
    tests : CommaAt t from to → ltb (to - from) (length (drop from t)) ≡ ltb to (length t)
    tests c = by_order to (length t)
        (λ l. lt-ltb (to - from) (length (drop from t)) (simp length-drop (omega (arith, c.from_on))) ∙ sym (lt-ltb to (length t) l))
        (λ l. le-ltb (to - from) (length (drop from t)) (simp length-drop (omega (arith, c.from_on, c.within))) ∙ sym (le-ltb to (length t) l))

-- ---- a number's bit
-- a number that is capped is as far outside as it is
pub bit_capped : (lo n x v : ℕ) → capped x ≡ v → n ≤ 32 → bit_of lo n v ≡ bit_of lo n x
bit_capped lo n x v c u =
    by_order x 4294967296
    (λ s. let e : v ≡ x = omega arith in rw e)
    (λ s. rw (le-ltb v n (omega arith), le-ltb x n (omega arith)) (go (leb lo v) (leb lo x)))
  where
    go : (a b : Bool) → pick (a && false) (2 ^ v) 0 ≡ pick (b && false) (2 ^ x) 0
    go true true = refl
    go true false = refl
    go false true = refl
    go false false = refl

-- ---- an item
module _ {t : List ℕ} {from to : ℕ} (c : CommaAt t from to) (lo n : ℕ) where
  pub item_bad : None ≡ number_of (part t from to) → None ≡ item_of lo n t from
  unfolding item_of
  item_bad h = rw (← c.same, ← h)

  pub item_good : {v m : ℕ} → Some v ≡ number_of (part t from to) → m ≡ bit_of lo n v → Some (m, to) ≡ item_of lo n t from
  unfolding item_of
  item_good h b = rw (← c.same, ← h, b)

-- an item that is a number, and the others
pub record Itemized (lo n : ℕ) (t : List ℕ) (from to m : ℕ) : Type 0 where
  pub from_on : from ≤ to
  pub within : to ≤ length t
  pub good : spelt (part t from to) ≡ true
  pub bit : m ≡ bit_of lo n (value (part t from to))
  pub split : split (drop from t) ≡ part t from to ∷ more t to

-- what an item says of the items from a place on
abbrev pub ItemIs : ℕ → ℕ → List ℕ → ℕ → Option (ℕ × ℕ) → Type 0
ItemIs lo n t from (Some (m, to)) = Itemized lo n t from to m
ItemIs lo n t from None = each numeral (split (drop from t)) ≡ none

pub record ItemAt (lo n : ℕ) (t : List ℕ) (from : ℕ) (r : Option (ℕ × ℕ)) : Type 0 where
  pub is : ItemIs lo n t from r

pub comma_here : (t : List ℕ) (from : ℕ) → from ≤ length t → CommaAt t from (next_comma t from)
comma_here t from h = record { same = refl; from_on = omega arith; within = omega (arith, up_short (drop from t), length-drop from t) }

pub item_read : (lo n : ℕ) (t : List ℕ) (from : ℕ) {r : Option (ℕ × ℕ)} → r ≡ item_of lo n t from → from ≤ length t → n ≤ 32 → ItemAt lo n t from r
unfolding item_of each
item_read lo n t from q h u = rw q (go (next_comma t from) (comma_here t from h) (number_of (part t from (next_comma t from))) refl)
  where
    go : (to : ℕ) → CommaAt t from to → (w : Option ℕ) → w ≡ number_of (part t from to) → ItemAt lo n t from (item_for lo n to w)
    go to c None d = record { is = rw (comma_split c, numeral_bad (part t from to) d refl) }
    go to c (Some v) d =
        let g = spelt_good (part t from to) d refl in
        record {
          is = record {
            from_on = c.from_on;
            within = c.within;
            good = g.0;
            bit = bit_capped lo n (value (part t from to)) v g.1 u;
            split = comma_split c;
          };
        }

pub item_next : (lo n : ℕ) (t : List ℕ) (to : ℕ) {r : Option (ℕ × ℕ)} → r ≡ item_of lo n t (to + 1) → to < length t → n ≤ 32 → ItemAt lo n t (to + 1) r
item_next lo n t to q h u = item_read lo n t (to + 1) q (omega arith) u

pub comma_from : {t : List ℕ} {from to : ℕ} → CommaAt t from to → from ≤ to
comma_from c = c.from_on

pub comma_to : {t : List ℕ} {from to : ℕ} → CommaAt t from to → to ≤ length t
comma_to c = c.within
