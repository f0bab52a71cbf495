-- Laws of the readers of a call's variables: each says what a step of the code shows.
use Rattle.std.specs.Prelude.{ℕ, ◌+◌, ◌-◌, ◌≤◌, ◌<◌, min, ◌≡◌, Bool, ◌||◌, List, [], ◌∷◌, ◌++◌, ltb, eqb, length, drop, Option as Maybe, Some, None, Ok, Err, ok_or}
use Rattle.std.proofs.Math.Path.{refl, ap}
use Rattle.std.proofs.Common.{sym, ◌∙◌, append_assoc, append-nil, arith, add-one, length-append}
use Rattle.std.proofs.Math.Bool.{true, false}
use Rattle.std.proofs.Math.Option.{Option, none, some}
use Rattle.std.proofs.Math.ListN.{get_or-append, get_or-eq_default}
use Rattle.std.proofs.Math.Seq.{get_or-append_seam}
use borrow.Author.Tests.{lt-ltb, le-ltb, ne_eqb, eq-eqb}
use Rattle.table.specs.Cases.{cases}
use Rattle.table.specs.Mask.{pick}
use Rattle.table.specs.declared.Args.{Args}
use Rattle.text.specs.declared.Fault.{Fault}
use Rattle.text.specs.declared.Fault.TheVariants.{Misspelt, Reference}
use Rattle.text.specs.Number.{bytes, value, every}
use Rattle.text.proofs.NumberLaws.{by_order}
use Rattle.text.specs.Value.{arguments, same, said_variable, split, followed, each, none_removed, all_declared, said, unsaid, check}
use Rattle.text.specs.Line.{judged}
use Rattle.text.specs.Format.{variable_of, arg_of, args_of}
use Rattle.digits.specs.Read.{number_of}
use Rattle.digits.specs.NumeralLaws.{spelt_good, numeral_bad, numeral_good}
use Rattle.numbers.specs.Answer.{mapped}
use Rattle.scan.specs.Place.{Answer, answer_in}
use Rattle.lists.specs.Items.{next_comma, CommaAt, more, part}
use Rattle.scan.specs.PlaceLaws.{ok_some, err_none}
use Rattle.lists.specs.ItemLaws.{comma_split, comma_here}
use Rattle.lists.specs.Passing.{argument_for, argument_of, ending, argument_from, pushed_of, with_of, PassedJudged, PassedSaid}

-- ---- one variable
module _ (c : Bool) (n : ℕ) (w : List ℕ) {x : Bool} (p : x ≡ same (bytes "-") w) where
  module _ (h : x ≡ true) where
    pub argument_removed : c ≡ true → Ok (Some 255) ≡ argument_of c n w
    unfolding argument_of
    argument_removed k = rw (← p, h, k)

    pub argument_open : c ≡ false → Err Misspelt ≡ argument_of c n w
    unfolding argument_of
    argument_open k = rw (← p, h, k)

  module _ (h : x ≡ false) where
    pub argument_bad : {o : Maybe ℕ} {f : Fault} → o ≡ number_of w → Err f ≡ ok_or o Misspelt → Err f ≡ argument_of c n w
    unfolding argument_of
    argument_bad {o} d q =
        let z = err_none o Misspelt q in
        rw (z.1, ← p, h, numeral_bad w (sym z.0 ∙ d) refl)

    module _ {o : Maybe ℕ} {v : ℕ} (d : o ≡ number_of w) (k : Ok v ≡ ok_or o Misspelt) (u : n ≤ 256) where
      number : Some v ≡ number_of w
      number = sym (ok_some o Misspelt k) ∙ d

      pub argument_is : v < n → Ok (Some v) ≡ argument_of c n w
      unfolding argument_of
      argument_is l =
          let z : value w ≡ v = omega (arith, (spelt_good w number refl).1) in
          rw (← p, h, numeral_good w number refl, z, lt-ltb v n l)

      pub argument_outside : n ≤ v → Ok None ≡ argument_of c n w
      unfolding argument_of
      argument_outside l = rw (← p, h, numeral_good w number refl, le-ltb (value w) n (omega (arith, (spelt_good w number refl).1)))

module _ (c : Bool) (n : ℕ) {t : List ℕ} {from to : ℕ} (m : CommaAt t from to) where
  pub argument_part : {v : Maybe ℕ} → Ok v ≡ argument_of c n (part t from to) → Ok (v, to) ≡ argument_from c n t from
  unfolding argument_from
  argument_part q = rw (← m.same, ← q)

  pub argument_fault : {f : Fault} → Err f ≡ argument_of c n (part t from to) → Err f ≡ argument_from c n t from
  unfolding argument_from
  argument_fault q = rw (← m.same, ← q)

-- ---- what a variable says of those from a place on
abbrev pub is_declared : ℕ → Option ℕ → Bool
is_declared n none = true
is_declared n (some v) = ltb v n

-- bytes say a variable, which may be `-` in closed form only
pub record Argued (c : Bool) (n : ℕ) (w : List ℕ) (v : Maybe ℕ) : Type 0 where
  pub name : Option ℕ
  pub says : said_variable w ≡ some name
  pub allowed : c || none_removed (name ∷ []) ≡ true
  pub known : v ≡ pick (is_declared n name) (Some (variable_of name)) None

-- the first variable of those from a place on
pub record First (c : Bool) (n : ℕ) (t : List ℕ) (from to : ℕ) (v : Maybe ℕ) : Type 0 where
  pub from_on : from ≤ to
  pub within : to ≤ length t
  pub splits : split (drop from t) ≡ part t from to ∷ more t to
  pub argued : Argued c n (part t from to) v

-- what is said is spelt, and has `-` in closed form only
abbrev pub spells : Bool → Option (List (Option ℕ)) → Bool
spells c none = false
spells c (some xs) = c || none_removed xs

abbrev pub FirstIs : Bool → ℕ → List ℕ → ℕ → Answer (Maybe ℕ) → Type 0
FirstIs c n t from (Ok (v, to)) = First c n t from to v
FirstIs c n t from (Err f) = (f ≡ Misspelt) × (spells c (each said_variable (split (drop from t))) ≡ false)

pub record ArgumentAt (c : Bool) (n : ℕ) (t : List ℕ) (from : ℕ) (r : Answer (Maybe ℕ)) : Type 0 where
  pub is : FirstIs c n t from r

removed_open : (o : Option (List (Option ℕ))) → spells false (followed (some none) o) ≡ false
unfolding every
removed_open none = refl
removed_open (some xs) = refl

or_true : (b : Bool) → b || true ≡ true
or_true true = refl
or_true false = refl

pub argument_read : (c : Bool) (n : ℕ) (t : List ℕ) (from : ℕ) {r : Answer (Maybe ℕ)} → r ≡ argument_from c n t from → from ≤ length t → ArgumentAt c n t from r
unfolding argument_from argument_of each every
argument_read c n t from q h = rw q (go c (next_comma t from) (comma_here t from h) (said_variable (part t from (next_comma t from))) refl)
  where
    is : (c : Bool) {to : ℕ} → CommaAt t from to → (v : Maybe ℕ) → Argued c n (part t from to) v → ArgumentAt c n t from (Ok (v, to))
    is c m v a = record { is = record { from_on = m.from_on; within = m.within; splits = comma_split m; argued = a } }

    go : (c : Bool) (to : ℕ) → CommaAt t from to → (o : Option (Option ℕ)) → said_variable (part t from to) ≡ o → ArgumentAt c n t from (ending to (argument_for c n o))
    go c to m none e = record { is = (refl, rw (comma_split m, e)) }
    go true to m (some none) e = is true m (Some 255) (record { name = none; says = e; allowed = refl; known = refl })
    go false to m (some none) e = record { is = (refl, rw (comma_split m, e) (removed_open (each said_variable (more t to)))) }
    go c to m (some (some v)) e = is c m (pick (ltb v n) (Some v) None) (record { name = some v; says = e; allowed = or_true c; known = refl })

-- ---- one variable more
-- one place of one variable more
place_is : (xs : List (Option ℕ)) (y : Option ℕ) (i : ℕ) → i < 5 → pick (eqb (min (length xs) 5) i) (variable_of y) (arg_of xs i) ≡ arg_of (xs ++ (y ∷ [])) i
place_is xs y i h =
    by_order i (length xs)
    (λ l. rw (ne_eqb (min (length xs) 5) i (λ e. omega arith), get_or-append xs (y ∷ []) (some 0) i l))
    (λ l. by_order (length xs) i
    (λ k.
    let z : length (xs ++ (y ∷ [])) ≤ i = simp length-append (omega arith) in
    rw (ne_eqb (min (length xs) 5) i (λ e. omega arith), get_or-eq_default xs (some 0) l, get_or-eq_default (xs ++ (y ∷ [])) (some 0) z))
    (λ k.
    let e : i ≡ length xs = omega arith in
    let m : min (length xs) 5 ≡ length xs = omega arith in
    rw (e, m, eq-eqb (length xs) (length xs) refl, get_or-append_seam xs y [] (some 0))))

pushed_is : (xs : List (Option ℕ)) (y : Option ℕ) → pushed_of (args_of xs) (variable_of y) ≡ args_of (xs ++ (y ∷ []))
pushed_is xs y =
    let l : min (min (length xs) 5 + 1) 5 ≡ min (length (xs ++ (y ∷ []))) 5 = rw (length-append xs (y ∷ [])) (omega arith) in
    rw (l, place_is xs y 0 (omega arith), place_is xs y 1 (omega arith), place_is xs y 2 (omega arith), place_is xs y 3 (omega arith))

unfoldable pub push_all : Args → List (Option ℕ) → Args
push_all a [] = a
push_all a (y ∷ ys) = push_all (pushed_of a (variable_of y)) ys

push_all_lem : (xs ys : List (Option ℕ)) → push_all (args_of xs) ys ≡ args_of (xs ++ ys)
unfolding push_all
push_all_lem xs [] = rw (append-nil xs)
push_all_lem xs (y ∷ ys) = ap (λ (a : Args). push_all a ys) (pushed_is xs y) ∙ push_all_lem (xs ++ (y ∷ [])) ys ∙ rw (append_assoc xs (y ∷ []) ys)

-- the answer where the variables so far made m, and the others are ys, or the others say o
abbrev pub made : ℕ → ℕ → Maybe Args → List (Option ℕ) → Answer Args
made n e None ys = Err Reference
made n e (Some a) ys = pick (all_declared n ys) (Ok (push_all a ys, e)) (Err Reference)

abbrev pub finish : Bool → ℕ → ℕ → Maybe Args → Option (List (Option ℕ)) → Answer Args
finish c n e m none = Err Misspelt
finish c n e m (some ys) = pick (c || none_removed ys) (made n e m ys) (Err Misspelt)

finish_refuses : (c : Bool) (n e : ℕ) (m : Maybe Args) (o : Option (List (Option ℕ))) → spells c o ≡ false → finish c n e m o ≡ Err Misspelt
finish_refuses c n e m none h = refl
finish_refuses c n e m (some ys) h = rw h

-- from the start
whole_said : (c : Bool) (n e : ℕ) (o : Option (List (Option ℕ))) (l : ℕ) (s : List ℕ)
    → answer_in l s (finish c n e (Some (args_of [])) o) ≡ mapped args_of (judged (arguments c n) o l (drop e s))
unfolding unsaid check
whole_said c n e none l s = refl
whole_said c n e (some ys) l s =
    cases (c || none_removed ys)
    (λ a. cases (all_declared n ys) (λ b. rw (a, b, push_all_lem [] ys)) (λ b. rw (a, b)))
    (λ a. rw a)

or_false : (c : Bool) → c || false ≡ true → c ≡ true
or_false true h = refl
or_false false h = h

-- one variable more
module _ (c : Bool) (n e : ℕ) where
  made_next : (m : Maybe Args) (x : Option ℕ) (ys : List (Option ℕ)) → made n e m (x ∷ ys) ≡ made n e (with_of m (pick (is_declared n x) (Some (variable_of x)) None)) ys
  unfolding every push_all
  made_next None x ys = refl
  made_next (Some a) none ys = refl
  made_next (Some a) (some y) ys = cases (ltb y n) (λ b. rw b) (λ b. rw b)

  name_next : (m : Maybe Args) (o : Option (List (Option ℕ))) (x : Option ℕ) → c || none_removed (x ∷ []) ≡ true
      → finish c n e m (followed (some x) o) ≡ finish c n e (with_of m (pick (is_declared n x) (Some (variable_of x)) None)) o
  unfolding every
  name_next m none x h = refl
  name_next m (some ys) none h = rw (or_false c h) (made_next m none ys)
  name_next m (some ys) (some y) h = ap (λ (r : Answer Args). pick (c || none_removed ys) r (Err Misspelt)) (made_next m (some y) ys)

  next_said : (m : Maybe Args) {w : List ℕ} {v : Maybe ℕ} (o : Option (List (Option ℕ))) → Argued c n w v
      → finish c n e m (followed (said_variable w) o) ≡ finish c n e (with_of m v) o
  next_said m o g = rw (g.says, g.known) (name_next m o g.name g.allowed)

-- ---- the variables, one after the other
pub record Going (c : Bool) (n e : ℕ) (t : List ℕ) (from : ℕ) (m : Maybe Args) : Type 0 where
  pub within_text : from ≤ length t
  pub rest : (l : ℕ) (s : List ℕ) → answer_in l s (finish c n e m (each said_variable (split (drop from t))))
      ≡ mapped args_of (judged (arguments c n) (each said_variable (split t)) l (drop e s))

pub going_start : (c : Bool) (n e : ℕ) (t : List ℕ) {a : Args} → a ≡ args_of [] → Going c n e t 0 (Some a)
going_start c n e t h = record { within_text = omega arith; rest = λ l s. rw h (whole_said c n e (each said_variable (split t)) l s) }

module _ {c : Bool} {n e : ℕ} {t : List ℕ} {from : ℕ} {m : Maybe Args} (g : Going c n e t from m) where
  pub going_stops : {f : Fault} → Err f ≡ argument_from c n t from → PassedJudged c n (each said_variable (split t)) e (Err f)
  going_stops q =
      let z = (argument_read c n t from q g.within_text).is in
      let d = finish_refuses c n e m (each said_variable (split (drop from t))) z.1 in
      record { same = λ l s. rw (z.0) (sym (ap (answer_in l s) d) ∙ g.rest l s); ends = tt }

  module _ {v : Maybe ℕ} {to : ℕ} (q : Ok (v, to) ≡ argument_from c n t from) {b : Maybe Args} (x : b ≡ with_of m v) where
    first : First c n t from to v
    first = (argument_read c n t from q g.within_text).is

    next : finish c n e m (each said_variable (split (drop from t))) ≡ finish c n e b (each said_variable (more t to))
    unfolding each
    next = rw (first.splits, x) (next_said c n e m (each said_variable (more t to)) first.argued)

    last : length t ≤ to → finish c n e m (each said_variable (split (drop from t))) ≡ made n e b []
    unfolding each every
    last h = next ∙ rw (le-ltb to (length t) h) (go c)
      where
        go : (c : Bool) → pick (c || true) (made n e b []) (Err Misspelt) ≡ made n e b []
        go true = refl
        go false = refl

    pub going_end : {z : Args} → length t ≤ to → Ok z ≡ ok_or b Reference → PassedJudged c n (each said_variable (split t)) e (Ok (z, e))
    unfolding every push_all
    going_end {z} h k =
        let d : finish c n e m (each said_variable (split (drop from t))) ≡ Ok (z, e) = last h ∙ rw (ok_some b Reference k) in
        record { same = λ l s. sym (ap (answer_in l s) d) ∙ g.rest l s; ends = refl }

    pub going_outside : {f : Fault} → length t ≤ to → Err f ≡ ok_or b Reference → PassedJudged c n (each said_variable (split t)) e (Err f)
    going_outside {f} h k =
        let z = err_none b Reference k in
        let d : finish c n e m (each said_variable (split (drop from t))) ≡ Err f = last h ∙ rw (z.0, z.1) in
        record { same = λ l s. sym (ap (answer_in l s) d) ∙ g.rest l s; ends = tt }

    pub going_turn : to < length t → Going c n e t (to + 1) b
    going_turn h =
        let d : more t to ≡ split (drop (to + 1) t) = rw (lt-ltb to (length t) h, add-one to) in
        let f : finish c n e m (each said_variable (split (drop from t))) ≡ finish c n e b (each said_variable (split (drop (to + 1) t))) =
        next ∙ ap (λ (ss : List (List ℕ)). finish c n e b (each said_variable ss)) d
        in
        record { within_text = omega arith; rest = λ l s. sym (ap (answer_in l s) f) ∙ g.rest l s }

    -- the text left behind it falls
    pub going_less : to < length t → length t - (to + 1) < length t - from
    going_less h = omega (arith, first.from_on)

-- ---- a list
empty_said : (c : Bool) (n e : ℕ) → finish c n e (Some (args_of [])) (some []) ≡ Ok (args_of [], e)
unfolding every push_all
empty_said true n e = refl
empty_said false n e = refl

pub passed_none : (c : Bool) (n : ℕ) (t : List ℕ) (e : ℕ) {x : Bool} {a : Args} → x ≡ same (bytes "none") t → x ≡ true → a ≡ args_of [] → PassedSaid c n t e (Ok (a, e))
unfolding said
passed_none c n t e {x} {a} p h q = record { same = λ l s. rw (q, ← p, h) (sym (ap (answer_in l s) (empty_said c n e)) ∙ whole_said c n e (some []) l s); ends = refl }

pub passed_some : {c : Bool} {n : ℕ} (t : List ℕ) {e : ℕ} {r : Answer Args} {x : Bool} → x ≡ same (bytes "none") t → x ≡ false
    → PassedJudged c n (each said_variable (split t)) e r → PassedSaid c n t e r
unfolding said
passed_some t p h a = rw (← p, h) a
