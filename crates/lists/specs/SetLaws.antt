-- Laws of the readers of sets: each says what a step of the code shows.
use Rattle.std.specs.Prelude.{ℕ, ◌+◌, ◌-◌, ◌^◌, ◌≤◌, ◌<◌, ◌≡◌, Bool, true, false, ◌&&◌, not, List, ◌∷◌, ltb, leb, eqb, length, drop, Option as Maybe, Some, Ok, Err, ok_or}
use Rattle.std.proofs.Math.Path.{refl}
use Rattle.std.proofs.Common.{sym, ◌∙◌, ap, arith, add_assoc, pow-suc, Fits, add-one, pow_pos, pow_mono}
use Rattle.std.proofs.Math.Option.{Option, none, some}
use Rattle.std.proofs.Math.Nat.{add-zero}
use Rattle.std.specs.Int.{w32}
use Rattle.std.proofs.Math.Pow.{pow-lt}
use borrow.Author.Tests.{lt-ltb, le-ltb, ltb-true, ne_eqb, not-true, not-false}
use Rattle.table.specs.Cases.{cases}
use Rattle.table.specs.Mask.{pick}
use Rattle.text.specs.declared.Fault.{Fault}
use Rattle.text.specs.declared.Fault.TheVariants.{Misspelt, Reference}
use Rattle.text.specs.Number.{spelt, value, every}
use Rattle.text.proofs.NumberLaws.{and_left, and_right}
use Rattle.text.specs.Value.{ascending, numeral, split, followed, each, ascends, within, unsaid, check}
use Rattle.text.specs.Line.{judged}
use Rattle.text.specs.Format.{set_of}
use Rattle.numbers.specs.Answer.{mapped}
use Rattle.scan.specs.Place.{Answer, answer_in}
use Rattle.lists.specs.Items.{more, inside, bit_of, part, item_of}
use Rattle.scan.specs.PlaceLaws.{err_none}
use Rattle.lists.specs.ItemLaws.{Itemized, ItemAt, item_next}
use Rattle.lists.specs.Sets.{SetJudged}
use Rattle.lists.specs.TotalLaws.{total, total_first, within_first, total_is}

-- the answer where the items up to x made m, all of them inside or not, and the others say o
abbrev pub finish : (lo n e x m : ℕ) → Bool → Option (List ℕ) → Answer ℕ
finish lo n e x m ok none = Err Misspelt
finish lo n e x m ok (some ys) = pick (ascends (x ∷ ys)) (pick (ok && within lo n ys) (Ok (m + total ys, e)) (Err Reference)) (Err Misspelt)

-- the first item
first_said : (lo n e x : ℕ) (o : Option (List ℕ)) → n ≤ 32 → (l : ℕ) (s : List ℕ)
    → answer_in l s (finish lo n e x (bit_of lo n x) (inside lo n x) o) ≡ mapped set_of (judged (ascending false lo n) (followed (some x) o) l (drop e s))
unfolding unsaid check
first_said lo n e x none u l s = refl
first_said lo n e x (some ys) u l s =
    cases (ascends (x ∷ ys))
    (λ a. cases (within lo n (x ∷ ys))
    (λ w.
    let v : inside lo n x && within lo n ys ≡ true = sym (within_first lo n x ys) ∙ w in
    let b : inside lo n x ≡ true = and_left (inside lo n x) (within lo n ys) v in
    let z : set_of (x ∷ ys) ≡ 2 ^ x + total ys = total_is lo n (x ∷ ys) u a w ∙ total_first x ys in
    rw (a, w, v, z, b))
    (λ w.
    let v : inside lo n x && within lo n ys ≡ false = sym (within_first lo n x ys) ∙ w in
    rw (a, w, v)))
    (λ a. rw a)

-- one item more
next_said : (lo n e x y m : ℕ) (ok : Bool) (o : Option (List ℕ)) → ltb x y ≡ true
    → finish lo n e x m ok (followed (some y) o) ≡ finish lo n e y (m + bit_of lo n y) (ok && inside lo n y) o
unfolding ascends every total
next_said lo n e x y m ok none k = refl
next_said lo n e x y m ok (some ys) k = rw k (ap (λ (r : Answer ℕ). pick (ascends (y ∷ ys)) r (Err Misspelt)) (go ok (inside lo n y)))
  where
    go : (a b : Bool) → pick {A = Answer ℕ} (a && (b && within lo n ys)) (Ok (m + (2 ^ y + total ys), e)) (Err Reference)
        ≡ pick {A = Answer ℕ} ((a && b) && within lo n ys) (Ok ((m + pick b (2 ^ y) 0) + total ys, e)) (Err Reference)
    go true true = rw (add_assoc m (2 ^ y) (total ys))
    go true false = refl
    go false b = refl

-- one that is not above the last
order_said : (lo n e x y m : ℕ) (ok : Bool) (o : Option (List ℕ)) → ltb x y ≡ false → finish lo n e x m ok (followed (some y) o) ≡ Err Misspelt
unfolding ascends
order_said lo n e x y m ok none k = refl
order_said lo n e x y m ok (some ys) k = rw k

-- ---- an item
module _ {lo n : ℕ} {t : List ℕ} {from : ℕ} {r : Maybe (ℕ × ℕ)} (a : ItemAt lo n t from r) where
  item_is : {to m : ℕ} → r ≡ Some (m, to) → Itemized lo n t from to m
  item_is q = rw q at a.is

  -- what the items from here on say
  item_said : {to m : ℕ} → r ≡ Some (m, to) → each numeral (split (drop from t)) ≡ followed (some (value (part t from to))) (each numeral (more t to))
  unfolding each
  item_said q = rw ((item_is q).split, (item_is q).good)

-- an item behind a comma
module _ (lo n : ℕ) (t : List ℕ) (last : ℕ) {r : Maybe (ℕ × ℕ)} (a : r ≡ item_of lo n t (last + 1)) (h : last < length t) (u : n ≤ 32) {to m : ℕ} (q : r ≡ Some (m, to)) where
  next : Itemized lo n t (last + 1) to m
  next = item_is (item_next lo n t last a h u) q

  pub item_from : last + 1 ≤ to
  item_from = next.from_on

  pub item_to : to ≤ length t
  item_to = next.within

  pub item_spelt : spelt (part t (last + 1) to) ≡ true
  item_spelt = next.good

  -- the text left behind it falls
  pub item_less : length t - to < length t - last
  item_less = omega (arith, next.from_on)

pub bit_inside : (lo n x m : ℕ) → m ≡ bit_of lo n x → not (eqb m 0) ≡ inside lo n x
bit_inside lo n x m q = rw q (go (inside lo n x))
  where
    go : (b : Bool) → not (eqb (pick b (2 ^ x) 0) 0) ≡ b
    go true = rw (ne_eqb (2 ^ x) 0 (λ z. omega (arith, pow_pos x)))
    go false = refl

bit_small : (lo n x m : ℕ) → m ≡ bit_of lo n x → m < 2 ^ (x + 1)
bit_small lo n x m q = rw q (go (inside lo n x))
  where
    go : (b : Bool) → pick b (2 ^ x) 0 < 2 ^ (x + 1)
    go true = pow-lt (omega arith)
    go false = pow_pos (x + 1)

bit_fits : (lo n x m : ℕ) → n ≤ 32 → m ≡ bit_of lo n x → m < 4294967296
bit_fits lo n x m u q = rw q (go (inside lo n x) refl)
  where
    go : (b : Bool) → inside lo n x ≡ b → pick b (2 ^ x) 0 < 2 ^ 32
    go true h =
        let k : x < n = ltb-true x n (and_right (leb lo x) (ltb x n) h) in
        let j : x < 32 = omega arith in
        pow-lt j
    go false h = pow_pos 32

-- a bit above all of a mask's
bit_above : (lo n x y m b : ℕ) → n ≤ 32 → m < 2 ^ (x + 1) → m < 4294967296 → ltb x y ≡ true → b ≡ bit_of lo n y → (m + b < 2 ^ (y + 1)) × (m + b < 4294967296)
bit_above lo n x y m b u s f k q = rw q (go (inside lo n y) refl)
  where
    wide : m < 2 ^ y
    wide =
        let j : x < y = ltb-true x y k in
        let i : x + 1 ≤ y = omega arith in
        let h : 2 ^ (x + 1) ≤ 2 ^ y = pow_mono i in
        omega arith

    twice : 2 ^ (y + 1) ≡ 2 ^ y + 2 ^ y
    twice = rw (add-one y) (omega (arith, pow-suc 2 y))

    go : (c : Bool) → inside lo n y ≡ c → (m + pick c (2 ^ y) 0 < 2 ^ (y + 1)) × (m + pick c (2 ^ y) 0 < 2 ^ 32)
    go true h =
        let j : y < n = ltb-true y n (and_right (leb lo y) (ltb y n) h) in
        let i : y + 1 ≤ 32 = omega arith in
        let w : 2 ^ (y + 1) ≤ 2 ^ 32 = pow_mono i in
        (omega (arith, wide, twice), omega (arith, wide, twice))
    go false h = (omega (arith, wide, twice), omega arith)

-- ---- items that ascend
pub record Rising (lo n e : ℕ) (t : List ℕ) (from to m : ℕ) (ok : Bool) : Type 0 where
  pub from_on : from ≤ to
  pub within_text : to ≤ length t
  pub good : spelt (part t from to) ≡ true
  pub small : m < 2 ^ (value (part t from to) + 1)
  pub fits : m < 4294967296
  pub rest : (l : ℕ) (s : List ℕ) → answer_in l s (finish lo n e (value (part t from to)) m ok (each numeral (more t to)))
      ≡ mapped set_of (judged (ascending false lo n) (each numeral (split t)) l (drop e s))

pub first_bad : {lo n : ℕ} {t : List ℕ} (e : ℕ) {r : Maybe (ℕ × ℕ)} → ItemAt lo n t 0 r → {f : Fault} → Err f ≡ ok_or r Misspelt → SetJudged false lo n (each numeral (split t)) e (Err f)
unfolding unsaid
first_bad e {r} a q = let z = err_none r Misspelt q in record { same = λ l s. rw (z.1, rw (z.0) at a.is); ends = tt }

pub rising_start : {lo n : ℕ} {t : List ℕ} {to m : ℕ} {ok : Bool} (e : ℕ) {r : Maybe (ℕ × ℕ)} → ItemAt lo n t 0 r → r ≡ Some (m, to) → n ≤ 32 → ok ≡ true && not (eqb m 0)
    → Rising lo n e t 0 to m ok
rising_start {lo} {n} {t} {to} {m} {ok} e a q u k =
    let i = item_is a q in
    let x = value (part t 0 to) in
    record {
      from_on = i.from_on;
      within_text = i.within;
      good = i.good;
      small = bit_small lo n x m i.bit;
      fits = bit_fits lo n x m u i.bit;
      rest = λ l s. rw (k, bit_inside lo n x m i.bit, i.bit, item_said a q) (first_said lo n e x (each numeral (more t to)) u l s);
    }

module _ {lo n e : ℕ} {t : List ℕ} {from to m : ℕ} {ok : Bool} (g : Rising lo n e t from to m ok) where
  pub rising_end : length t ≤ to → ok ≡ true → SetJudged false lo n (each numeral (split t)) e (Ok (m, e))
  unfolding each ascends every total
  rising_end h k = record { same = λ l s. rw (k, le-ltb to (length t) h, add-zero m) at (g.rest l s); ends = refl }

  pub rising_outside : length t ≤ to → ok ≡ false → SetJudged false lo n (each numeral (split t)) e (Err Reference)
  unfolding each ascends
  rising_outside h k = record { same = λ l s. rw (k, le-ltb to (length t) h) at (g.rest l s); ends = tt }

  module _ (h : to < length t) {r : Maybe (ℕ × ℕ)} (a : ItemAt lo n t (to + 1) r) where
    here : more t to ≡ split (drop (to + 1) t)
    here = rw (lt-ltb to (length t) h, add-one to)

    pub rising_bad : {f : Fault} → Err f ≡ ok_or r Misspelt → SetJudged false lo n (each numeral (split t)) e (Err f)
    rising_bad q = let z = err_none r Misspelt q in record { same = λ l s. rw (z.1) (rw (here, rw (z.0) at a.is) at (g.rest l s)); ends = tt }

    module _ {end b : ℕ} (q : r ≡ Some (b, end)) {z : Bool} (k : z ≡ ltb (value (part t from to)) (value (part t (to + 1) end))) where
      following : each numeral (more t to) ≡ followed (some (value (part t (to + 1) end))) (each numeral (more t end))
      following = ap (λ (ss : List (List ℕ)). each numeral ss) here ∙ item_said a q

      pub rising_order : not z ≡ true → SetJudged false lo n (each numeral (split t)) e (Err Misspelt)
      rising_order w =
          let x = value (part t from to) in
          let y = value (part t (to + 1) end) in
          let d : finish lo n e x m ok (each numeral (more t to)) ≡ Err Misspelt =
          ap (finish lo n e x m ok) following ∙ order_said lo n e x y m ok (each numeral (more t end)) (sym k ∙ not-true z w)
          in
          record { same = λ l s. sym (ap (answer_in l s) d) ∙ g.rest l s; ends = tt }

      pub rising_fits : not z ≡ false → n ≤ 32 → Fits w32 (m + b)
      rising_fits w u = record { fits = (bit_above lo n _ _ m b u g.small g.fits (sym k ∙ not-false z w) (item_is a q).bit).1 }

      pub rising_turn : {ok' : Bool} → not z ≡ false → n ≤ 32 → ok' ≡ ok && not (eqb b 0) → Rising lo n e t (to + 1) end (m + b) ok'
      rising_turn {ok'} w u j =
          let i = item_is a q in
          let x = value (part t from to) in
          let y = value (part t (to + 1) end) in
          let f = bit_above lo n x y m b u g.small g.fits (sym k ∙ not-false z w) i.bit in
          let v : finish lo n e y (m + bit_of lo n y) (ok && inside lo n y) (each numeral (more t end)) ≡ finish lo n e y (m + b) ok' (each numeral (more t end)) =
          rw (j, bit_inside lo n y b i.bit, i.bit)
          in
          let d : finish lo n e x m ok (each numeral (more t to)) ≡ finish lo n e y (m + b) ok' (each numeral (more t end)) =
          ap (finish lo n e x m ok) following ∙ next_said lo n e x y m ok (each numeral (more t end)) (sym k ∙ not-false z w) ∙ v
          in
          record {
            from_on = i.from_on;
            within_text = i.within;
            good = i.good;
            small = f.0;
            fits = f.1;
            rest = λ l s. sym (ap (answer_in l s) d) ∙ g.rest l s;
          }
