-- Laws of the readers of operands and variables: each says what a step of the code shows.
use Rattle.std.specs.Prelude.{ℕ, zero, suc, ◌+◌, ◌-◌, ◌≤◌, ◌<◌, ◌≡◌, Option as Maybe, Some, None, Ok, Err, ok_or, List, [], ◌∷◌, Bool, true, false, ℤ, pos, negsuc, ltb, leb, eqb, length, drop, get_or}
use Rattle.std.proofs.Math.Path.{refl}
use Rattle.std.proofs.Math.Logic.{inl, inr}
use Rattle.std.proofs.Common.{sym, ◌∙◌, ap, arith, add-zero, add-one, drop_of_length-le, length-drop, drop-cons, drop-drop}
use Rattle.std.proofs.Math.Option.{Option, none, some}
use Rattle.std.proofs.Math.ListN.{take}
use borrow.Author.Tests.{lt-ltb, le-ltb, lt-leb, ne_eqb, eqb-true, eqb-false}
use Rattle.table.specs.Cases.{cases}
use Rattle.table.specs.declared.Operand.{Operand}
use Rattle.table.specs.declared.Operand.TheVariants.{Var, Const}
use Rattle.text.specs.declared.Fault.{Fault}
use Rattle.text.specs.declared.Fault.TheVariants.{Misspelt, Ended, Range, Reference}
use Rattle.text.specs.Number.{bytes, spelt, value}
use Rattle.text.proofs.NumberLaws.{by_order}
use Rattle.text.specs.Line.{run, stops, judged, value_of}
use Rattle.text.specs.Value.{operand, variable, numeral, as_var, as_const, as_negative, said_operand, same, said, unsaid, check}
use Rattle.text.specs.Format.{variable_of}
use Rattle.digits.specs.Read.{capped, number_of}
use Rattle.digits.specs.NumeralLaws.{spelt_good, numeral_bad, numeral_good}
use Rattle.scan.specs.Place.{Answer, Within, AfterKey, RunEnd, ValueAt}
use Rattle.numbers.specs.Numerals.{NumeralTo, NumeralFault, NumeralAt, short_value_of}
use Rattle.numbers.specs.NumeralLaws.{short_whole}
use Rattle.scan.specs.PlaceLaws.{err_none, count_more, value_ends, field_found, field_refused}
use Rattle.operands.specs.Answer.{OperandEnds, OperandWithin, operand_answer, OperandJudged, skip, operand_kind, Judged, value_as, OperandAs, OperandIn, OperandAt, VariableEnds, VariableSaid, VariableIn, VariableAt}
use Rattle.numbers.specs.Answer.{mapped}

-- ---- the answer for the number x behind `v`, behind `-` or alone
module _ {n x : ℕ} (e : ℕ) where
  named_high : n ≤ x → Err Reference ≡ operand_answer n (as_var (some x)) e
  named_high l = rw (le-ltb x n l)

module _ (n : ℕ) {x : ℕ} (e : ℕ) where
  constant_high : 2147483647 < x → Err Range ≡ operand_answer n (as_const (some x)) e
  constant_high l = rw (lt-leb x 2147483647 l)

  negative_high : 2147483648 < x → Err Range ≡ operand_answer n (as_negative (some x)) e
  negative_high l = more (x - 1) (omega arith) (omega arith)
    where
      more : (k : ℕ) → x ≡ suc k → 2147483647 < k → Err Range ≡ operand_answer n (as_negative (some x)) e
      more k y h = rw (y, lt-leb k 2147483647 h)

-- by the first byte
module _ (b n x e : ℕ) {r : Answer Operand} where
  pub any_named : b ≡ 118 → r ≡ operand_answer n (as_var (some x)) e → r ≡ operand_answer n (operand_kind b (some x)) e
  any_named h a = rw h a

  pub any_minus : b ≡ 45 → r ≡ operand_answer n (as_negative (some x)) e → r ≡ operand_answer n (operand_kind b (some x)) e
  any_minus h a = rw h a

  pub any_plain : (b ≡ 118 → ⊥) → (b ≡ 45 → ⊥) → r ≡ operand_answer n (as_const (some x)) e → r ≡ operand_answer n (operand_kind b (some x)) e
  any_plain h k a = rw (ne_eqb b 118 h, ne_eqb b 45 k) a

-- what an answer says of any text
judged_var : (n v e : ℕ) → OperandJudged n (some (Var v)) e (operand_answer n (some (Var v)) e)
unfolding check
judged_var n v e = by_order v n
    (λ l. rw (lt-ltb v n l) (record { same = λ k s. rw (lt-ltb v n l); ends = (refl, l) }))
    (λ l. rw (le-ltb v n l) (record { same = λ k s. rw (le-ltb v n l); ends = tt }))

judged_const : (n e : ℕ) (z : ℤ) → OperandJudged n (some (Const z)) e (operand_answer n (some (Const z)) e)
unfolding check
judged_const n e (pos x) = cases (leb x 2147483647) (λ h. rw h (record { same = λ k s. rw h; ends = (refl, tt) })) (λ h. rw h (record { same = λ k s. rw h; ends = tt }))
judged_const n e (negsuc x) = cases (leb x 2147483647) (λ h. rw h (record { same = λ k s. rw h; ends = (refl, tt) })) (λ h. rw h (record { same = λ k s. rw h; ends = tt }))

judged_answer : (n : ℕ) (o : Option Operand) (e : ℕ) → OperandJudged n o e (operand_answer n o e)
unfolding unsaid
judged_answer n none e = record { same = λ k s. refl; ends = tt }
judged_answer n (some (Var v)) e = judged_var n v e
judged_answer n (some (Const z)) e = judged_const n e z

-- a number above 2^32 is answered as the 2^32 that is read for it
module _ (t : List ℕ) (n e : ℕ) {x : ℕ} (d : Some x ≡ number_of t) where
  read_as : capped (value t) ≡ x
  read_as = (spelt_good t d refl).1

  capped_var : n ≤ 256 → operand_answer n (as_var (some x)) e ≡ operand_answer n (as_var (numeral t)) e
  capped_var u = rw (numeral_good t d refl) (by_order (value t) n
      (λ l. let y : value t ≡ x = omega (arith, read_as) in rw y)
      (λ l. sym (named_high {n = n} {x = x} e (omega (arith, read_as))) ∙ named_high {n = n} {x = value t} e l))

  capped_const : operand_answer n (as_const (some x)) e ≡ operand_answer n (as_const (numeral t)) e
  capped_const = rw (numeral_good t d refl) (by_order 2147483647 (value t)
      (λ l. sym (constant_high n {x = x} e (omega (arith, read_as))) ∙ constant_high n {x = value t} e l)
      (λ l. let y : value t ≡ x = omega (arith, read_as) in rw y))

  capped_negative : operand_answer n (as_negative (some x)) e ≡ operand_answer n (as_negative (numeral t)) e
  capped_negative = rw (numeral_good t d refl) (by_order 2147483648 (value t)
      (λ l. sym (negative_high n {x = x} e (omega (arith, read_as))) ∙ negative_high n {x = value t} e l)
      (λ l. let y : value t ≡ x = omega (arith, read_as) in rw y))

of_capped : {kind : Option ℕ → Option Operand} {n x e : ℕ} {r : Answer Operand}
    → ((t : List ℕ) → Some x ≡ number_of t → operand_answer n (kind (some x)) e ≡ operand_answer n (kind (numeral t)) e)
    → r ≡ operand_answer n (kind (some x)) e → Judged kind n x e r
of_capped {kind} {n} {x} {e} k q = record { is = λ t d. rw (q, k t d) (judged_answer n (kind (numeral t)) e) }

module _ {n x e : ℕ} {r : Answer Operand} where
  pub judged_named : n ≤ 256 → r ≡ operand_answer n (as_var (some x)) e → Judged as_var n x e r
  judged_named u q = of_capped (λ t d. capped_var t n e d u) q

  pub judged_constant : r ≡ operand_answer n (as_const (some x)) e → Judged as_const n x e r
  judged_constant q = of_capped (λ t d. capped_const t n e d) q

  pub judged_negative : r ≡ operand_answer n (as_negative (some x)) e → Judged as_negative n x e r
  judged_negative q = of_capped (λ t d. capped_negative t n e d) q

  judged_any : (b : ℕ) → n ≤ 256 → r ≡ operand_answer n (operand_kind b (some x)) e → Judged (operand_kind b) n x e r
  judged_any b u q =
      cases (eqb b 118)
      (λ h. rw h (judged_named u (rw h at q)))
      (λ h. cases (eqb b 45) (λ k. rw (h, k) (judged_negative (rw (h, k) at q))) (λ k. rw (h, k) (judged_constant (rw (h, k) at q))))

-- the value of the digits at a place, where it ends
value_to : {s : List ℕ} {at : ℕ} (kind : Option ℕ → Option Operand) (n : ℕ) {e : ℕ} → RunEnd s at e → e < length s → (l : ℕ)
    → judged (operand n) (kind (numeral (take (e - at) (drop at s)))) l (drop e s) ≡ value_as kind n l (drop at s)
value_to {s} {at} kind n {e} u h l =
    let z : run (drop at s) ≡ e - at = omega (arith, u.same) in
    let k : e - at < length (drop at s) = simp length-drop (omega (arith, u.from)) in
    let d : at + (e - at) ≡ e = omega (arith, u.from) in
    rw (z, lt-ltb (e - at) (length (drop at s)) k, drop-drop (e - at) at s, d)

module _ {s : List ℕ} {at x e : ℕ} (m : NumeralAt s at (Ok (x, e))) where
  as_is : {kind : Option ℕ → Option Operand} {n : ℕ} {r : Answer Operand} → Judged kind n x e r → OperandAs kind n s at r
  as_is {kind} {n} {r} j =
      let d = j.is (take (e - at) (drop at s)) m.is.same in
      record { same = λ l. d.same l s ∙ value_to kind n m.is.run m.is.inside l; within = reach r d.ends m.is.inside }
    where
      reach : (r : Answer Operand) → OperandEnds n e r → e < length s → OperandWithin n s r
      reach (Ok p) h g = (rw h.0 g, h.1)
      reach (Err f) h g = tt

module _ {s : List ℕ} {at : ℕ} {f : Fault} (m : NumeralAt s at (Err f)) where
  as_refused : (kind : Option ℕ → Option Operand) (n : ℕ) → kind none ≡ none → OperandAs kind n s at (Err f)
  unfolding unsaid
  as_refused kind n z = go m.is
    where
      go : NumeralFault s at f → OperandAs kind n s at (Err f)
      go (inl i) =
          let t = take (i.1.0 - at) (drop at s) in
          let d : kind (numeral t) ≡ none = rw (numeral_bad t i.1.1.same refl) z in
          rw i.0 (record { same = λ l. rw d at (value_to kind n i.1.1.run i.1.1.inside l); within = tt })
      go (inr i) =
          let k : length (drop at s) ≤ run (drop at s) = simp length-drop (omega (arith, i.1.1.same, i.1.2)) in
          rw i.0 (record { same = λ l. rw (le-ltb (run (drop at s)) (length (drop at s)) k); within = tt })

-- ---- an operand, by its first byte
suc_ltb : (a b : ℕ) → ltb (suc a) (suc b) ≡ ltb a b
suc_ltb a b = by_order a b (λ l. lt-ltb (suc a) (suc b) (omega arith) ∙ sym (lt-ltb a b l)) (λ l. le-ltb (suc a) (suc b) (omega arith) ∙ sym (le-ltb a b l))

-- behind a first byte that ends no value
behind : (b : ℕ) (s : List ℕ) (kind : Option ℕ → Option Operand) (n l : ℕ) → stops b ≡ false → ((t : List ℕ) → said_operand (b ∷ t) ≡ kind (numeral t))
    → value_as kind n l s ≡ value_of (operand n) l (b ∷ s)
unfolding said
behind b s kind n l h d = rw (count_more b s h, suc_ltb (run s) (length s), d (take (run s) s))

module _ (s : List ℕ) (at : ℕ) (h : at < length s) where
  rest : drop at s ≡ get_or s at 0 ∷ drop (at + 1) s
  rest = rw (add-one at) (drop-cons s at 0 h)

  pub operand_named : {n : ℕ} {r : Answer Operand} → get_or s at 0 ≡ 118 → OperandAs as_var n s (at + 1) r → OperandIn n s at r
  unfolding said_operand
  operand_named {n} q a = record { same = λ l. a.same l ∙ rw (rest, q) (behind 118 (drop (at + 1) s) as_var n l refl (λ t. refl)); within = a.within }

  operand_minus : {n : ℕ} {r : Answer Operand} → get_or s at 0 ≡ 45 → OperandAs as_negative n s (at + 1) r → OperandIn n s at r
  unfolding said_operand
  operand_minus {n} q a = record { same = λ l. a.same l ∙ rw (rest, q) (behind 45 (drop (at + 1) s) as_negative n l refl (λ t. refl)); within = a.within }

plain_said : (b : ℕ) (s : List ℕ) (k : ℕ) → (b ≡ 118 → ⊥) → (b ≡ 45 → ⊥) → as_const (numeral (take k (b ∷ s))) ≡ said_operand (take k (b ∷ s))
unfolding said_operand spelt
plain_said b s zero h g = refl
plain_said b s (suc k) h g = rw (ne_eqb b 118 h, ne_eqb b 45 g)

operand_plain : {n : ℕ} {s : List ℕ} {at : ℕ} {r : Answer Operand} → at < length s → (get_or s at 0 ≡ 118 → ⊥) → (get_or s at 0 ≡ 45 → ⊥)
    → OperandAs as_const n s at r → OperandIn n s at r
unfolding said
operand_plain {n} {s} {at} h p g a =
    let u = drop at s in
    let d : as_const (numeral (take (run u) u)) ≡ said_operand (take (run u) u) = rw (rest s at h) (plain_said (get_or s at 0) (drop (at + 1) s) (run (get_or s at 0 ∷ drop (at + 1) s)) p g) in
    record { same = λ l. rw d at (a.same l); within = a.within }

-- by the first byte
operand_by : {n : ℕ} (s : List ℕ) (at b : ℕ) {r : Answer Operand} → at < length s → b ≡ get_or s at 0 → OperandAs (operand_kind b) n s (at + skip b) r → OperandIn n s at r
operand_by {n} s at b {r} h q a =
    cases (eqb b 118)
    (λ e. operand_named s at h (sym q ∙ eqb-true b 118 e) (rw e at a))
    (λ e. cases (eqb b 45)
    (λ f. operand_minus s at h (sym q ∙ eqb-true b 45 f) (rw (e, f) at a))
    (λ f. operand_plain h (λ z. eqb-false b 118 e (q ∙ z)) (λ z. eqb-false b 45 f (q ∙ z)) (rw (e, f, add-zero at) at a)))

operand_kind_none : (b : ℕ) → operand_kind b none ≡ none
operand_kind_none b = cases (eqb b 118) (λ e. rw e) (λ e. cases (eqb b 45) (λ f. rw (e, f)) (λ f. rw (e, f)))

module _ {s : List ℕ} {from x e : ℕ} (m : NumeralAt s from (Ok (x, e))) where
  pub by_is : {at b n : ℕ} {r : Answer Operand} → at < length s → b ≡ get_or s at 0 → from ≡ at + skip b → n ≤ 256
      → r ≡ operand_answer n (operand_kind b (some x)) e → OperandIn n s at r
  by_is {at} {b} h q k u j = operand_by s at b h q (rw k at (as_is m (judged_any b u j)))

module _ {s : List ℕ} {from : ℕ} {f : Fault} (m : NumeralAt s from (Err f)) where
  pub by_refused : (at n : ℕ) → at < length s → from ≡ at + skip (get_or s at 0) → OperandIn n s at (Err f)
  by_refused at n h k =
      let b = get_or s at 0 in
      operand_by s at b h refl (rw k at (as_refused m (operand_kind b) n (operand_kind_none b)))

-- the number behind `v`
module _ {s : List ℕ} {at x e : ℕ} (m : NumeralAt s at (Ok (x, e))) where
  pub named_is : {n : ℕ} {r : Answer Operand} → n ≤ 256 → r ≡ operand_answer n (as_var (some x)) e → OperandAs as_var n s at r
  named_is u j = as_is m (judged_named u j)

module _ {s : List ℕ} {at : ℕ} {f : Fault} (m : NumeralAt s at (Err f)) where
  pub named_refused : (n : ℕ) → OperandAs as_var n s at (Err f)
  named_refused n = as_refused m as_var n refl

-- no byte is left
pub operand_none : (n : ℕ) {s : List ℕ} {at : ℕ} → length s ≤ at → OperandIn n s at (Err Ended)
unfolding run
operand_none n {s} h = record { same = λ l. rw (drop_of_length-le s h); within = tt }

module _ {key s : List ℕ} {at b : ℕ} (m : AfterKey key s at (Ok b)) where
  pub operand_found : {n : ℕ} {r : Answer Operand} → OperandIn n s b r → OperandAt n key s at r
  operand_found {n} u = record { same = λ l. u.same l ∙ field_found m (operand n) l; within = u.within }

module _ {key s : List ℕ} {at : ℕ} {f : Fault} (m : AfterKey key s at (Err f)) where
  pub operand_unfound : (n : ℕ) → OperandAt n key s at (Err f)
  operand_unfound n = record { same = field_refused m (operand n); within = tt }

-- ---- a variable that may be `-`
module _ (c : Bool) (n : ℕ) (t : List ℕ) (e : ℕ) {x : Bool} (p : x ≡ same (bytes "-") t) where
  pub removed_is : x ≡ true → c ≡ true → VariableSaid c n t e (Ok (255, e))
  unfolding said check
  removed_is h k = record { same = λ l s. rw (← p, h, k); ends = refl }

  pub removed_not : x ≡ true → c ≡ false → VariableSaid c n t e (Err Misspelt)
  unfolding said check
  removed_not h k = record { same = λ l s. rw (← p, h, k); ends = tt }

-- and one that is not
pub variable_bad : (c : Bool) (n : ℕ) (t : List ℕ) (e : ℕ) {w : Maybe ℕ} {f : Fault} {x : Bool}
    → w ≡ number_of t → Err f ≡ ok_or w Misspelt → x ≡ same (bytes "-") t → x ≡ false → VariableSaid c n t e (Err f)
unfolding said unsaid
variable_bad c n t e {w} d q p h =
    let z = err_none w Misspelt q in
    let b : None ≡ number_of t = sym z.0 ∙ d in
    record { same = λ l s. rw (z.1, ← p, h, numeral_bad t b refl); ends = tt }

module _ {t : List ℕ} {v : ℕ} (d : Some v ≡ number_of t) {c x : Bool} {n e : ℕ} (p : x ≡ same (bytes "-") t) (h : x ≡ false) (u : n ≤ 256) where
  pub variable_good : v < n → VariableSaid c n t e (Ok (v, e))
  unfolding said check
  variable_good g =
      let z : value t ≡ v = omega (arith, (spelt_good t d refl).1) in
      record { same = λ l s. rw (← p, h, numeral_good t d refl, z, lt-ltb v n g); ends = refl }

  pub variable_high : n ≤ v → VariableSaid c n t e (Err Reference)
  unfolding said check
  variable_high g = record { same = λ l s. rw (← p, h, numeral_good t d refl, le-ltb (value t) n (omega (arith, (spelt_good t d refl).1))); ends = tt }

module _ {s : List ℕ} {at : ℕ} {f : Fault} (m : ValueAt s at (Err f)) where
  pub variable_refused : (c : Bool) (n : ℕ) → VariableIn c n s at (Err f)
  variable_refused c n = record { same = λ l. ap (mapped variable_of) (m.same (variable c n) l); within = tt }

module _ {s : List ℕ} {at b e : ℕ} (m : ValueAt s at (Ok (b, e))) where
  pub variable_step : {c : Bool} {n : ℕ} {r : Answer ℕ} → VariableSaid c n (take (e - b) (drop b s)) e r → VariableIn c n s at r
  variable_step {c} {n} {r} d =
      record { same = λ l. d.same l s ∙ ap (mapped variable_of) (m.same (variable c n) l); within = reach r d.ends }
    where
      reach : (r : Answer ℕ) → VariableEnds e r → Within s r
      reach (Ok p) h = rw h m.within.1
      reach (Err f) h = tt

-- a number is no `-`
not_minus : (t : List ℕ) {v : ℕ} → Some v ≡ number_of t → same (bytes "-") t ≡ false
unfolding same number_of spelt
not_minus [] q = refl
not_minus (y ∷ []) {v} q =
    cases (eqb 45 y)
    (λ h. let e : 45 ≡ y = eqb-true 45 y h in absurd (let g : Some v ≡ number_of (45 ∷ []) = rw (← e) at q in let z : ◌≡◌ {A = ℕ} 0 1 = cc in omega arith))
    (λ h. rw h)
not_minus (y ∷ z ∷ t) q = cases (eqb 45 y) (λ h. rw h) (λ h. rw h)

module _ {s : List ℕ} {at v e : ℕ} (m : Some (v, e) ≡ short_value_of s at) (h : at ≤ length s) where
  whole : NumeralTo s at e (Some v)
  whole = short_whole s at m h

  between : ValueAt s at (Ok (at, e))
  between = value_ends whole.run whole.inside

  module _ {c : Bool} {n : ℕ} (u : n ≤ 256) where
    pub short_variable : v < n → VariableIn c n s at (Ok (v, e))
    short_variable g = variable_step between (variable_good whole.same refl (not_minus _ whole.same) u g)

    pub short_undeclared : n ≤ v → VariableIn c n s at (Err Reference)
    short_undeclared g = variable_step between (variable_high whole.same refl (not_minus _ whole.same) u g)

module _ {s : List ℕ} {at b : ℕ} (m : AfterKey (bytes " var=") s at (Ok b)) where
  pub variable_found : {c : Bool} {n : ℕ} {r : Answer ℕ} → VariableIn c n s b r → VariableAt c n s at r
  variable_found {c} {n} u = record { same = λ l. u.same l ∙ ap (mapped variable_of) (field_found m (variable c n) l); within = u.within }

module _ {s : List ℕ} {at : ℕ} {f : Fault} (m : AfterKey (bytes " var=") s at (Err f)) where
  pub variable_unfound : (c : Bool) (n : ℕ) → VariableAt c n s at (Err f)
  variable_unfound c n = record { same = λ l. ap (mapped variable_of) (field_refused m (variable c n) l); within = tt }
