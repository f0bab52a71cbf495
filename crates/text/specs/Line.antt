-- A line of table text, described as data: its fields in order, each with its key and the kind of its value, then LF.
use Rattle.std.specs.Prelude.{ℕ, suc, List, [], ◌∷◌, ◌++◌, Bool, true, false, ◌||◌, ltb, eqb, length, take, drop}
use Rattle.std.proofs.Math.Option.{Option, none, some}
use Rattle.table.specs.Mask.{pick}
use Rattle.text.specs.declared.Fault.{Fault}
use Rattle.text.specs.declared.Fault.TheVariants.{Form, Ended}
use Rattle.text.specs.Value.{ValueKind, Of, spell, said, unsaid, or_else, check}

pub data Line : Type 0 where
  end : Line
  -- what follows may depend on the value
  field : List ℕ → (k : ValueKind) → (Of k → Line) → Line

-- the values of a line
abbrev pub Vals : Line → Type 0
Vals end = Unit {0}
Vals (field key k next) = (v : Of k) × Vals (next v)

-- the line with such values
unfoldable pub write : (d : Line) → Vals d → List ℕ
write end w = 10 ∷ []
write (field key k next) w = key ++ (spell k w.0 ++ write (next w.0) w.1)

-- ---- reading: from a line's number and the text that is left there

pub data Outcome (A : Type 0) : Type 0 where
  -- what was read, the line reached and the text left
  took : A → ℕ → List ℕ → Outcome A
  -- the fault and its line
  refused : Fault → ℕ → Outcome A

abbrev pub Parser : Type 0 → Type 0
Parser A = ℕ → List ℕ → Outcome A

abbrev pub onto : {A B : Type 0} → Outcome A → (A → Parser B) → Outcome B
onto (took a l s) f = f a l s
onto (refused f l) g = refused f l

infixr 1 ◌>>=◌
abbrev pub ◌>>=◌ : {A B : Type 0} → Parser A → (A → Parser B) → Parser B
◌>>=◌ p f = λ l s. onto (p l s) f

abbrev pub give : {A : Type 0} → A → Parser A
give a = λ l s. took a l s

-- the text after a key, where the key stands there, something else does, or the text ends first
pub data After : Type 0 where
  at : List ℕ → After
  differs : After
  broken : After

unfoldable pub after : List ℕ → List ℕ → After
after [] s = at s
after (b ∷ key) [] = broken
after (b ∷ key) (x ∷ s) = pick (eqb b x) (after key s) differs

abbrev pub stops : ℕ → Bool
stops b = eqb b 32 || eqb b 10

-- "A value runs to the next space or LF": the count of its bytes
unfoldable pub run : List ℕ → ℕ
run [] = 0
run (b ∷ s) = elim (stops b) [ true ↦ 0 | false ↦ suc (run s) ]

abbrev pub verdict : {A : Type 0} → A → Option Fault → Parser A
verdict v none = λ l s. took v l s
verdict v (some f) = λ l s. refused f l

abbrev pub judged : (k : ValueKind) → Option (Of k) → Parser (Of k)
judged k none = λ l s. refused (unsaid k) l
judged k (some v) = verdict v (check k v)

-- "one that the text's end breaks off is an early end", whatever it is
abbrev pub value_of : (k : ValueKind) → Parser (Of k)
value_of k = λ l s. pick (ltb (run s) (length s)) (judged k (said k (take (run s) s)) l (drop (run s) s)) (refused Ended l)

-- "a wrong key, key order .. or spacing", or "text that ends early"
abbrev pub after_key : {A : Type 0} → After → Parser A → ℕ → Outcome A
after_key (at s) p l = p l s
after_key differs p l = refused Form l
after_key broken p l = refused Ended l

-- one field: its key, then its value
unfoldable pub field_of : List ℕ → (k : ValueKind) → Parser (Of k)
field_of key k = λ l s. after_key (after key s) (value_of k) l

-- the end of the line
abbrev pub feed : Parser (Unit {0})
feed = λ l s. after_key (after (10 ∷ []) s) (λ k r. took tt (suc k) r) l

unfoldable pub line : (d : Line) → Parser (Vals d)
line end = feed
line (field key k next) = λ l s. onto (field_of key k l s) (λ v k' r. onto (line (next v) k' r) (λ w l' r'. took (v, w) l' r'))

-- the first fault of a line's values, from left to right
unfoldable pub line_fault : (d : Line) → Vals d → Option Fault
line_fault end w = none
line_fault (field key k next) w = or_else (check k w.0) (line_fault (next w.0) w.1)
