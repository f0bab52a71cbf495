-- Laws of whole lists of numbers: each says what a step of the code shows.
use Rattle.std.specs.Prelude.{ℕ, suc, ◌-◌, ◌^◌, ◌≤◌, ◌<◌, ◌≡◌, Bool, ◌&&◌, List, [], ◌∷◌, ltb, length, take, drop, Option as Maybe, Some, Ok, Err, ok_or}
use Rattle.std.proofs.Math.Path.{refl, sym}
use Rattle.std.proofs.Common.{◌∙◌, ap, arith, pow_pos, take_all, le-ltb, ltb-false, ne_eqb}
use Rattle.std.proofs.Math.Bool.{true, false}
use Rattle.std.proofs.Math.Option.{Option, none, some}
use Rattle.std.proofs.Math.Nat.{add-zero}
use Rattle.std.proofs.Math.Seq.{take-length}
use Rattle.text.specs.declared.Fault.{Fault}
use Rattle.text.specs.declared.Fault.TheVariants.{Misspelt, Reference}
use Rattle.text.specs.Number.{bytes, all_digits, spelt, value, every}
use Rattle.text.proofs.NumberLaws.{all_head, all_tail, spelt_all}
use Rattle.text.specs.Value.{ValueKind, Of, ascending, same, numeral, split, followed, each, said_list, ascends, within, said, unsaid, check}
use Rattle.text.specs.Line.{refused, judged}
use Rattle.text.specs.Format.{elem, set_of}
use Rattle.digits.specs.Read.{number_of}
use Rattle.digits.specs.NumeralLaws.{spelt_bad, spelt_good}
use Rattle.scan.specs.Place.{Answer, Within, AfterKey, ValueAt}
use Rattle.scan.specs.PlaceLaws.{ok_some, err_none, value_within, field_found, field_refused}
use Rattle.numbers.specs.Answer.{mapped}
use Rattle.lists.specs.Items.{up_to, more, inside, bit_of}
use Rattle.lists.specs.ItemLaws.{split_first, bit_capped}
use Rattle.lists.specs.Sets.{Ends, Judged, ValueIn, FieldAt, SetJudged, SetSaid, single_of}
use Rattle.lists.specs.TotalLaws.{total, total_is, mask_none}
use Rattle.lists.specs.SetLaws.{bit_inside}
use Rattle.table.specs.Cases.{cases}

-- ---- one number is one item, and no `none`
digits_up : (t : List ℕ) → all_digits t ≡ true → up_to t ≡ length t
unfolding up_to
digits_up [] a = refl
digits_up (b ∷ t) a = let d = all_head b t a in rw (ne_eqb b 44 (λ q. omega arith), digits_up t (all_tail b t a))

split_spelt : (t : List ℕ) → spelt t ≡ true → split t ≡ t ∷ []
split_spelt t h = split_first t ∙ rw (digits_up t (spelt_all t h), take-length t, le-ltb (length t) (length t) (omega arith))

spelt_some : (t : List ℕ) → spelt t ≡ true → same (bytes "none") t ≡ false
unfolding same spelt
spelt_some [] h = refl
spelt_some (b ∷ t) h = let d = all_head b t (spelt_all (b ∷ t) h) in rw (ne_eqb 110 b (λ q. omega arith))

one_said : (t : List ℕ) → spelt t ≡ true → said_list numeral t ≡ some (value t ∷ [])
unfolding each
one_said t h = rw (spelt_some t h, split_spelt t h, h)

-- two items or more are not one
two_refused : (lo n : ℕ) (a b : Option ℕ) (o : Option (List ℕ)) (l : ℕ) (s : List ℕ)
    → judged (ascending true lo n) (followed a (followed b o)) l s ≡ refused Misspelt l
unfolding unsaid check
two_refused lo n none b o l s = refl
two_refused lo n (some x) none o l s = refl
two_refused lo n (some x) (some y) none l s = refl
two_refused lo n (some x) (some y) (some zs) l s = rw (and_none (ascends (x ∷ y ∷ zs)))
  where
    and_none : (a : Bool) → a && false ≡ false
    and_none true = refl
    and_none false = refl

-- what is not a number is not a list of one
one_refused : (lo n : ℕ) (t : List ℕ) (l : ℕ) (s : List ℕ) → spelt t ≡ false → judged (ascending true lo n) (said_list numeral t) l s ≡ refused Misspelt l
unfolding unsaid check each ascends
one_refused lo n t l s h =
    cases (same (bytes "none") t)
    (λ e. rw e)
    (λ e. rw (e, split_first t) (cases (ltb (up_to t) (length t))
    (λ k.
    let r = drop (suc (up_to t)) t in
    rw (k, split_first r) (two_refused lo n (numeral (take (up_to t) t)) (numeral (take (up_to r) r)) (each numeral (more r (up_to r))) l s))
    (λ k. rw (k, take_all (up_to t) t (ltb-false (up_to t) (length t) k), h))))

-- ---- a list of one number
module _ (t : List ℕ) (e lo n : ℕ) where
  pub single_bad : {w : Maybe ℕ} {f : Fault} → w ≡ number_of t → Err f ≡ ok_or w Misspelt → SetSaid true lo n t e (Err f)
  unfolding said
  single_bad {w} d q =
      let z = err_none w Misspelt q in
      record { same = λ l s. rw (z.1, one_refused lo n t l (drop e s) (spelt_bad t d z.0)); ends = tt }

  module _ {v b : ℕ} (d : Some v ≡ number_of t) (u : n ≤ 32) (k : b ≡ bit_of lo n v) where
    bit_said : b ≡ bit_of lo n (value t)
    bit_said = k ∙ bit_capped lo n (value t) v (spelt_good t d refl).1 u

    single_outside : b ≡ 0 → SetSaid true lo n t e (Err Reference)
    unfolding said check ascends every
    single_outside z =
        let i : inside lo n (value t) ≡ false = sym (bit_inside lo n (value t) b bit_said) ∙ rw z in
        record { same = λ l s. rw (one_said t (spelt_good t d refl).0, i); ends = tt }

    single_is : (b ≡ 0 → ⊥) → SetSaid true lo n t e (Ok (b, e))
    unfolding said check ascends every total
    single_is z =
        let i : inside lo n (value t) ≡ true = sym (bit_inside lo n (value t) b bit_said) ∙ rw (ne_eqb b 0 z) in
        let m : b ≡ 2 ^ value t = bit_said ∙ rw i in
        let j : within lo n (value t ∷ []) ≡ true = rw i in
        let f : set_of (value t ∷ []) ≡ b = total_is lo n (value t ∷ []) u refl j ∙ add-zero (2 ^ value t) ∙ sym m in
        record { same = λ l s. rw (one_said t (spelt_good t d refl).0, i, f); ends = refl }

module _ (lo n v e : ℕ) {b : ℕ} (k : b ≡ bit_of lo n v) where
  pub one_outside : b ≡ 0 → Err Reference ≡ single_of lo n v e
  unfolding single_of
  one_outside z = let i : inside lo n v ≡ false = sym (bit_inside lo n v b k) ∙ rw z in rw i

  pub one_is : (b ≡ 0 → ⊥) → Ok (b, e) ≡ single_of lo n v e
  unfolding single_of
  one_is z =
      let i : inside lo n v ≡ true = sym (bit_inside lo n v b k) ∙ rw (ne_eqb b 0 z) in
      let m : b ≡ 2 ^ v = k ∙ rw i in
      rw (i, m)

pub one_value : (lo n : ℕ) (t : List ℕ) (v e : ℕ) {r : Answer ℕ} → Some v ≡ number_of t → n ≤ 32 → r ≡ single_of lo n v e → SetSaid true lo n t e r
unfolding single_of
one_value lo n t v e d u q =
    cases (inside lo n v)
    (λ i. rw (q, i) (single_is t e lo n d u (rw i) (λ z. omega (arith, pow_pos v))))
    (λ i. let k : 0 ≡ bit_of lo n v = rw i in rw (q, i) (single_outside t e lo n d u k refl))

pub single_one : (lo n : ℕ) (t : List ℕ) {v e : ℕ} {w : Maybe ℕ} {r : Answer ℕ} → w ≡ number_of t → Ok v ≡ ok_or w Misspelt → n ≤ 32 → r ≡ single_of lo n v e → SetSaid true lo n t e r
single_one lo n t {v} {e} {w} d h u q = one_value lo n t v e (sym (ok_some w Misspelt h) ∙ d) u q

-- ---- a list
pub list_none : {one : Bool} (lo n : ℕ) (t : List ℕ) (e : ℕ) {x : Bool} → one ≡ false → x ≡ same (bytes "none") t → x ≡ true → SetSaid one lo n t e (Ok (0, e))
unfolding said check ascends every elem
list_none lo n t e h p k =
    let f : set_of [] ≡ 0 = mask_none 32 in
    rw h (record { same = λ l s. rw (← p, k, f); ends = refl })

pub list_rising : {one : Bool} {lo n : ℕ} (t : List ℕ) {e : ℕ} {r : Answer ℕ} {x : Bool} → one ≡ false → x ≡ same (bytes "none") t → x ≡ false
    → SetJudged false lo n (each numeral (split t)) e r → SetSaid one lo n t e r
unfolding said
list_rising t h p k a = rw h (rw (← p, k) a)

-- ---- from a list to its place, and to its field
ends_within : {A : Type 0} (s : List ℕ) (e : ℕ) (r : Answer A) → Ends e r → e < length s → Within s r
ends_within s e (Ok p) h w = rw h w
ends_within s e (Err f) h w = tt

module _ {B : Type 0} (k : ValueKind) (g : Of k → B) {s : List ℕ} {at : ℕ} where
  pub value_judged : {b e : ℕ} {r : Answer B} → ValueAt s at (Ok (b, e)) → Judged k g (said k (take (e - b) (drop b s))) e r → ValueIn k g s at r
  value_judged {e = e} {r = r} m d = record { same = λ l. d.same l s ∙ ap (mapped g) (m.same k l); within = ends_within s e r d.ends (value_within m).1 }

  pub field_missing : {key : List ℕ} {f : Fault} → AfterKey key s at (Err f) → FieldAt k g key s at (Err f)
  field_missing a = record { same = λ l. ap (mapped g) (field_refused a k l); within = tt }

  pub field_value : {key : List ℕ} {b : ℕ} {r : Answer B} → AfterKey key s at (Ok b) → ValueIn k g s b r → FieldAt k g key s at r
  field_value a m = record { same = λ l. m.same l ∙ ap (mapped g) (field_found a k l); within = m.within }
