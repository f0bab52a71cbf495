-- Values and their spelling, for every kind: what is spelt says the value, what says a value is its spelling, and no spelling has a space or LF in it.
use Rattle.std.specs.Prelude.{ℕ, zero, suc, ◌≤◌, ◌<◌, ◌≡◌, Bool, true, false, eqb, pos, negsuc, length}
use Rattle.std.proofs.Math.Path.{refl, sym, ap}
use Rattle.std.proofs.Common.{◌∙◌, eqb-true, eq-eqb, ne_eqb}
use mathlib.Core.List.{List, [], ◌∷◌, ◌++◌, map}
use Rattle.std.proofs.Math.Option.{Option, none, some}
use native.Mathlib.Omega.{arith}
use Rattle.table.specs.Cases.{cases}
use Rattle.table.specs.declared.Operand.{Operand}
use Rattle.table.specs.declared.Operand.TheVariants.{Var, Const}
use Rattle.table.specs.declared.Op.{Op}
use Rattle.table.specs.declared.Op.TheVariants.{Add, Sub, And, Or, Xor, Shr, Lt, Eq}
use Rattle.text.specs.Number.{bytes, digits, spelt, value, all_digits}
use Rattle.text.proofs.NumberLaws.{and_left, and_right, all_head, all_tail, spelt_digits, digits_all, digits_first, value_digits, digits_value}
use Rattle.text.specs.ByWord.{by_word}
use Rattle.text.specs.Value.{NodeKind, ValueKind, number, choice, kind, operation, operand, variable, ascending, arguments, Of, kind_word, kinds, op_word, ops, same, named, chosen, numeral, spell_variable, as_variable, said_variable, spell_operand, as_var, as_const, as_negative, said_operand, commas, spell_list, split, followed, each, said_list, spell, said}
use Rattle.text.specs.Line.{stops, run}

-- from an equation between different constructors anything follows: `no (cc)`
pub no {ℓ} : {P : Type ℓ} → ◌≡◌ {A = ℕ} 0 1 → P
no z = absurd (omega arith)

-- ---- bytes over a bound: no value has a byte up to 32 in it, and no item of a list one up to 44, the comma

abbrev pub Over : ℕ → List ℕ → Type 0
Over m [] = Unit {0}
Over m (b ∷ s) = (m < b) × Over m s

over_less : (l m : ℕ) → l ≤ m → (s : List ℕ) → Over m s → Over l s
over_less l m h [] o = tt
over_less l m h (b ∷ s) o = (omega arith, over_less l m h s o.1)

over_append : (m : ℕ) (s t : List ℕ) → Over m s → Over m t → Over m (s ++ t)
over_append m [] t o p = p
over_append m (b ∷ s) t o p = (o.0, over_append m s t o.1 p)

digits_over : (s : List ℕ) → all_digits s ≡ true → Over 44 s
digits_over [] e = tt
digits_over (b ∷ s) e = let d = all_head b s e in (omega arith, digits_over s (all_tail b s e))

-- a value's bytes run to the first byte that stops them
run_over : (s : List ℕ) (b : ℕ) (r : List ℕ) → Over 32 s → stops b ≡ true → run (s ++ (b ∷ r)) ≡ length s
unfolding run
run_over [] b r o e = rw (e, run)
run_over (x ∷ s) b r o e = rw (ne_eqb x 32 (λ q. omega arith), ne_eqb x 10 (λ q. omega arith), run) (ap suc (run_over s b r o.1 e))

-- ---- words

pub same_refl : (s : List ℕ) → same s s ≡ true
unfolding same
same_refl [] = refl
same_refl (b ∷ s) = rw (eq-eqb b b refl, same_refl s)

pub same_eq : (s t : List ℕ) → same s t ≡ true → s ≡ t
unfolding same
same_eq [] [] e = refl
same_eq [] (c ∷ t) e = no (cc)
same_eq (b ∷ s) [] e = no (cc)
same_eq (b ∷ s) (c ∷ t) e = rw (eqb-true b c (and_left (eqb b c) (same s t) e), same_eq s t (and_right (eqb b c) (same s t) e))

-- what the bytes name has them as its word
named_said : {A : Type 0} (word : A → List ℕ) (xs : List A) (s : List ℕ) (v : A) → named word xs s ≡ some v → word v ≡ s
unfolding named
named_said word [] s v e = no (cc)
named_said word (a ∷ xs) s v e = cases (same (word a) s)
    (λ q. let p : a ≡ v = cc (rw (q, named) at e) in rw (← p) (same_eq (word a) s q))
    (λ q. named_said word xs s v (rw (q, named) at e))

-- and a word names what it is the word of: no two words are the same
choice_said : (a b : List ℕ) → same a b ≡ false → (v : Bool) → named (chosen a b) (false ∷ true ∷ []) (chosen a b v) ≡ some v
unfolding named
choice_said a b e false = rw (same_refl a, named)
choice_said a b e true = rw (e, same_refl b, named)

pub kind_said : (v : NodeKind) → named kind_word kinds (kind_word v) ≡ some v
unfolding named same
kind_said = by_word (search)

op_said : (v : Op) → named op_word ops (op_word v) ≡ some v
unfolding named same
op_said v = elim v as (λ k. named op_word ops (op_word k) ≡ some k) [ Add ↦ refl | Sub ↦ refl | And ↦ refl | Or ↦ refl | Xor ↦ refl | Shr ↦ refl | Lt ↦ refl | Eq ↦ refl ]

chosen_over : (a b : List ℕ) → Over 32 a → Over 32 b → (v : Bool) → Over 32 (chosen a b v)
chosen_over a b p q false = p
chosen_over a b p q true = q

kind_over : (v : NodeKind) → Over 32 (kind_word v)
kind_over = by_word (search arith)

op_over : (v : Op) → Over 32 (op_word v)
op_over v = elim v as (λ k. Over 32 (op_word k)) [ Add ↦ omega arith | Sub ↦ omega arith | And ↦ omega arith | Or ↦ omega arith | Xor ↦ omega arith | Shr ↦ omega arith | Lt ↦ omega arith | Eq ↦ omega arith ]

-- ---- numbers and variables

-- digits say their number, and nothing else says it
numeral_digits : (n : ℕ) → numeral (digits n) ≡ some n
numeral_digits n = rw (spelt_digits n, value_digits n)

numeral_said : (s : List ℕ) (v : ℕ) → numeral s ≡ some v → digits v ≡ s
numeral_said s v e = cases (spelt s)
    (λ q. let p : value s ≡ v = cc (rw q at e) in rw (← p) (digits_value s q))
    (λ q. no (cc (rw q at e)))

number_over : (n : ℕ) → Over 44 (digits n)
number_over n = digits_over (digits n) (digits_all n)

variable_said : (v : Option ℕ) → said_variable (spell_variable v) ≡ some v
unfolding same
variable_said none = refl
variable_said (some n) =
    let f = digits_first n in
    let d : same (bytes "-") (digits n) ≡ false = rw (f.2, ne_eqb 45 f.0 (λ q. omega arith)) in
    rw (d, numeral_digits n)

said_variable_lem : (s : List ℕ) (v : Option ℕ) → said_variable s ≡ some v → spell_variable v ≡ s
said_variable_lem s v e = cases (same (bytes "-") s)
    (λ q. let p : ◌≡◌ {A = Option ℕ} none v = cc (rw q at e) in rw (← p) (same_eq (bytes "-") s q))
    (λ q. go (numeral s) refl (rw q at e))
  where
    go : (o : Option ℕ) → numeral s ≡ o → as_variable o ≡ some v → spell_variable v ≡ s
    go none q e = no (cc)
    go (some n) q e = let p : some n ≡ v = cc e in rw (← p) (numeral_said s n q)

variable_over : (v : Option ℕ) → Over 44 (spell_variable v)
variable_over none = omega arith
variable_over (some n) = number_over n

-- ---- operands

operand_said : (v : Operand) → said_operand (spell_operand v) ≡ some v
unfolding said_operand
operand_said (Var n) = ap as_var (numeral_digits n)
operand_said (Const (pos n)) =
    let f = digits_first n in
    rw (f.2, ne_eqb f.0 118 (λ q. omega arith), ne_eqb f.0 45 (λ q. omega arith), ← f.2, numeral_digits n)
operand_said (Const (negsuc n)) = ap as_negative (numeral_digits (suc n))

said_operand_lem : (s : List ℕ) (v : Operand) → said_operand s ≡ some v → spell_operand v ≡ s
unfolding said_operand
said_operand_lem [] v e = no (cc)
said_operand_lem (b ∷ s) v e = cases (eqb b 118)
    (λ p. rw (eqb-true b 118 p) (var (numeral s) refl (rw p at e)))
    (λ p. cases (eqb b 45)
    (λ q. rw (eqb-true b 45 q) (negative (numeral s) refl (rw (p, q) at e)))
    (λ q. const (numeral (b ∷ s)) refl (rw (p, q) at e)))
  where
    var : (o : Option ℕ) → numeral s ≡ o → as_var o ≡ some v → spell_operand v ≡ 118 ∷ s
    var none q e = no (cc)
    var (some n) q e = let p : Var n ≡ v = cc e in rw (← p, numeral_said s n q)

    negative : (o : Option ℕ) → numeral s ≡ o → as_negative o ≡ some v → spell_operand v ≡ 45 ∷ s
    negative none q e = no (cc)
    negative (some zero) q e = no (cc)
    negative (some (suc n)) q e = let p : Const (negsuc n) ≡ v = cc e in rw (← p, numeral_said s (suc n) q)

    const : (o : Option ℕ) → numeral (b ∷ s) ≡ o → as_const o ≡ some v → spell_operand v ≡ b ∷ s
    const none q e = no (cc)
    const (some n) q e = let p : Const (pos n) ≡ v = cc e in rw (← p) (numeral_said (b ∷ s) n q)

operand_over : (v : Operand) → Over 44 (spell_operand v)
operand_over (Var n) = (omega arith, number_over n)
operand_over (Const (pos n)) = number_over n
operand_over (Const (negsuc n)) = (omega arith, number_over (suc n))

-- ---- what stands between commas

-- there is a first, and with commas between they are the bytes again
split_first : (s : List ℕ) → (t : List ℕ) × (ts : List (List ℕ)) × (split s ≡ t ∷ ts)
unfolding split
split_first [] = ([], [], refl)
split_first (b ∷ s) =
    let f = split_first s in
    cases (eqb b 44)
    (λ q. ([], split s, rw (q, split)))
    (λ q. (b ∷ f.0, f.1, rw (q, split, f.2)))

commas_split : (s : List ℕ) → commas (split s) ≡ s
unfolding split commas
commas_split [] = refl
commas_split (b ∷ s) =
    let f = split_first s in
    let ih : commas (f.0 ∷ f.1) ≡ s = rw f.2 at (commas_split s) in
    cases (eqb b 44)
    (λ q. rw (q, split, f.2, eqb-true b 44 q, ih))
    (λ q. rw (q, split, f.2) (longer f.0 f.1 ∙ ap (λ (r : List ℕ). b ∷ r) ih))
  where
    longer : (t : List ℕ) (ts : List (List ℕ)) → commas ((b ∷ t) ∷ ts) ≡ b ∷ commas (t ∷ ts)
    longer t [] = refl
    longer t (u ∷ ts) = refl

-- an item has no comma in it
split_last : (t : List ℕ) → Over 44 t → split t ≡ t ∷ []
unfolding split
split_last [] o = refl
split_last (b ∷ t) o = rw (ne_eqb b 44 (λ q. omega arith), split_last t o.1)

split_item : (t r : List ℕ) → Over 44 t → split (t ++ (44 ∷ r)) ≡ t ∷ split r
unfolding split
split_item [] r o = refl
split_item (b ∷ t) r o = rw (ne_eqb b 44 (λ q. omega arith), split_item t r o.1)

-- ---- lists of items, whatever the items: what is spelt says the item and back, with no comma, and `none` is no item

record Items {A : Type 0} (word : A → List ℕ) (item : List ℕ → Option A) : Type 0 where
  says : (x : A) → item (word x) ≡ some x
  back : (s : List ℕ) (x : A) → item s ≡ some x → word x ≡ s
  over : (x : A) → Over 44 (word x)
  never : item (bytes "none") ≡ none

numbers : Items digits numeral
unfolding spelt all_digits
numbers = record { says = numeral_digits; back = numeral_said; over = number_over; never = refl }

variables : Items spell_variable said_variable
unfolding spelt all_digits same
variables = record { says = variable_said; back = said_variable_lem; over = variable_over; never = refl }

module _ {A : Type 0} {word : A → List ℕ} {item : List ℕ → Option A} (items : Items word item) where
  word_over : (x : A) → Over 32 (word x)
  word_over x = over_less 32 44 (omega arith) (word x) (items.over x)

  split_words : (x : A) (xs : List A) → split (commas (map word (x ∷ xs))) ≡ map word (x ∷ xs)
  unfolding commas
  split_words x [] = split_last (word x) (items.over x)
  split_words x (y ∷ xs) = split_item (word x) (commas (map word (y ∷ xs))) (items.over x) ∙ rw (split_words y xs)

  each_word : (xs : List A) → each item (map word xs) ≡ some xs
  unfolding each
  each_word [] = refl
  each_word (x ∷ xs) = rw (items.says x, each_word xs)

  list_said : (xs : List A) → said_list item (spell_list (map word xs)) ≡ some xs
  unfolding same split
  list_said [] = refl
  list_said (x ∷ xs) = cases (same (bytes "none") (commas (map word (x ∷ xs))))
      (λ q.
      let p : word x ∷ map word xs ≡ bytes "none" ∷ [] = sym (split_words x xs) ∙ ap split (sym (same_eq (bytes "none") (commas (map word (x ∷ xs))) q)) in
      let w : word x ≡ bytes "none" = cc p in
      no (cc (items.says x, items.never)))
      (λ q. rw (q, split_words x xs) (each_word (x ∷ xs)))

  said_each : (ss : List (List ℕ)) (xs : List A) → each item ss ≡ some xs → map word xs ≡ ss
  unfolding each
  said_each [] xs e = let p : [] ≡ xs = cc e in rw (← p)
  said_each (s ∷ ss) xs e = go (item s) (each item ss) refl e (λ ys q. said_each ss ys q)
    where
      go : (o : Option A) (os : Option (List A)) → item s ≡ o → followed o os ≡ some xs → ((ys : List A) → os ≡ some ys → map word ys ≡ ss) → map word xs ≡ s ∷ ss
      go none os q e ih = no (cc)
      go (some x) none q e ih = no (cc)
      go (some x) (some ys) q e ih = let p : x ∷ ys ≡ xs = cc e in rw (← p, items.back s x q, ih ys refl)

  said_list_lem : (s : List ℕ) (xs : List A) → said_list item s ≡ some xs → spell_list (map word xs) ≡ s
  said_list_lem s xs e = cases (same (bytes "none") s)
      (λ q. let p : [] ≡ xs = cc (rw q at e) in rw (← p) (same_eq (bytes "none") s q))
      (λ q. let f = split_first s in rw (said_each (split s) xs (rw q at e), f.2) (rw f.2 at (commas_split s)))

  words_over : (x : A) (xs : List A) → Over 32 (commas (map word (x ∷ xs)))
  unfolding commas
  words_over x [] = word_over x
  words_over x (y ∷ xs) = over_append 32 (word x) _ (word_over x) (omega arith, words_over y xs)

  list_over : (xs : List A) → Over 32 (spell_list (map word xs))
  list_over [] = omega arith
  list_over (x ∷ xs) = words_over x xs

-- ---- every kind

-- the two words of a choice differ, and have no space or LF in them
abbrev pub Apart : ValueKind → Type 0
Apart (number lo n f) = Unit {0}
Apart (choice a b) = (same a b ≡ false) × Over 32 a × Over 32 b
Apart (kind c j) = Unit {0}
Apart (operation t) = Unit {0}
Apart (operand n) = Unit {0}
Apart (variable c n) = Unit {0}
Apart (ascending one lo n) = Unit {0}
Apart (arguments c n) = Unit {0}

-- a value's spelling says it, a faulty value's too
pub said_spell : (k : ValueKind) (v : Of k) → Apart k → said k (spell k v) ≡ some v
unfolding said spell
said_spell (number lo n f) v a = numeral_digits v
said_spell (choice x y) v a = choice_said x y a.0 v
said_spell (kind c j) v a = kind_said v
said_spell (operation t) v a = op_said v
said_spell (operand n) v a = operand_said v
said_spell (variable c n) v a = variable_said v
said_spell (ascending one lo n) v a = list_said numbers v
said_spell (arguments c n) v a = list_said variables v

-- bytes that say a value are its spelling
pub spell_said : (k : ValueKind) (s : List ℕ) (v : Of k) → said k s ≡ some v → spell k v ≡ s
unfolding said spell
spell_said (number lo n f) s v e = numeral_said s v e
spell_said (choice a b) s v e = named_said (chosen a b) (false ∷ true ∷ []) s v e
spell_said (kind c j) s v e = named_said kind_word kinds s v e
spell_said (operation t) s v e = named_said op_word ops s v e
spell_said (operand n) s v e = said_operand_lem s v e
spell_said (variable c n) s v e = said_variable_lem s v e
spell_said (ascending one lo n) s v e = said_list_lem numbers s v e
spell_said (arguments c n) s v e = said_list_lem variables s v e

-- no spelling has a space or LF in it
pub spell_plain : (k : ValueKind) (v : Of k) → Apart k → Over 32 (spell k v)
unfolding spell
spell_plain (number lo n f) v a = word_over numbers v
spell_plain (choice x y) v a = chosen_over x y a.1 a.2 v
spell_plain (kind c j) v a = kind_over v
spell_plain (operation t) v a = op_over v
spell_plain (operand n) v a = over_less 32 44 (omega arith) (spell_operand v) (operand_over v)
spell_plain (variable c n) v a = word_over variables v
spell_plain (ascending one lo n) v a = list_over numbers v
spell_plain (arguments c n) v a = list_over variables v

-- so a value runs to the byte that stops it
pub run_spell : (k : ValueKind) (v : Of k) → Apart k → (b : ℕ) (r : List ℕ) → stops b ≡ true → run (spell k v ++ (b ∷ r)) ≡ length (spell k v)
run_spell k v a b r e = run_over (spell k v) b r (spell_plain k v a) e
