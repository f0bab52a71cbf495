-- What the readers of keys and places answer: at a place, the text is what is left of it there.
use Rattle.std.specs.Prelude.{ℕ, suc, ◌+◌, ◌-◌, ◌*◌, ◌≤◌, ◌<◌, ◌≡◌, List, Result, Ok, Err, ltb, length, take, drop, get_or}
use Rattle.table.specs.Mask.{pick}
use Rattle.text.specs.declared.Fault.{Fault}
use Rattle.text.specs.declared.Fault.TheVariants.{Form, Ended}
use Rattle.text.specs.Value.{ValueKind, Of, said}
use Rattle.text.specs.Line.{Outcome, took, refused, After, at as stands, differs, broken, after, run as count, judged, value_of, field_of, feed as end_of}

-- ---- a value and the place after it, or the fault

abbrev pub Answer : Type 0 → Type 0
Answer A = Result (A × ℕ) Fault

-- the outcome of reading a text from a line on
abbrev pub answer_in : {A : Type 0} → ℕ → List ℕ → Answer A → Outcome A
answer_in l s (Ok p) = took p.0 l (drop p.1 s)
answer_in l s (Err f) = refused f l

-- the place is within the text
abbrev pub Within : {A : Type 0} → List ℕ → Answer A → Type 0
Within s (Ok p) = p.1 < length s
Within s (Err f) = Unit {0}

-- ---- a key

-- the text at the place reached, or the fault
abbrev pub found_in : List ℕ → Result ℕ Fault → Result (List ℕ) Fault
found_in s (Ok b) = Ok (drop b s)
found_in s (Err f) = Err f

-- the text after a key, "a wrong key, key order .. or spacing", or "text that ends early"
abbrev pub keyed : After → Result (List ℕ) Fault
keyed (stands t) = Ok t
keyed differs = Err Form
keyed broken = Err Ended

abbrev pub FoundWithin : List ℕ → Result ℕ Fault → Type 0
FoundWithin s (Ok b) = b ≤ length s
FoundWithin s (Err f) = Unit {0}

pub record AfterKey (key s : List ℕ) (at : ℕ) (r : Result ℕ Fault) : Type 0 where
  pub same : found_in s r ≡ keyed (after key (drop at s))
  pub within : FoundWithin s r

-- four bytes as one number, the first lowest
abbrev pub quad_number : ℕ → ℕ → ℕ → ℕ → ℕ
quad_number a b c d = a + b * 256 + c * 65536 + d * 16777216

pub record Bytes (a b c d : ℕ) : Type 0 where
  pub b0 : a < 256
  pub b1 : b < 256
  pub b2 : c < 256
  pub b3 : d < 256

pub record QuadAt (s : List ℕ) (at r : ℕ) : Type 0 where
  pub same : r ≡ quad_number (get_or s at 0) (get_or s (at + 1) 0) (get_or s (at + 2) 0) (get_or s (at + 3) 0)
  pub bytes : Bytes (get_or s at 0) (get_or s (at + 1) 0) (get_or s (at + 2) 0) (get_or s (at + 3) 0)

-- ---- a value's bytes

pub record RunEnd (s : List ℕ) (at r : ℕ) : Type 0 where
  pub same : r ≡ at + count (drop at s)
  pub from : at ≤ r
  pub within : r ≤ length s

-- where the value at a place begins and ends; one that the text's end breaks off is an early end
unfoldable pub value_token : List ℕ → ℕ → Result (ℕ × ℕ) Fault
value_token s at = pick (ltb (at + count (drop at s)) (length s)) (Ok (at, at + count (drop at s))) (Err Ended)

-- and the one that begins at a place behind a key
abbrev pub token_after : List ℕ → ℕ → After → Result (ℕ × ℕ) Fault
token_after s b (stands t) = value_token s b
token_after s b differs = Err Form
token_after s b broken = Err Ended

unfoldable pub key_token : List ℕ → List ℕ → ℕ → Result (ℕ × ℕ) Fault
key_token key s at = token_after s (at + length key) (after key (drop at s))

-- the outcome for a value of any kind that begins and ends so
abbrev pub token_in : (k : ValueKind) → ℕ → List ℕ → Result (ℕ × ℕ) Fault → Outcome (Of k)
token_in k l s (Ok p) = judged k (said k (take (p.1 - p.0) (drop p.0 s))) l (drop p.1 s)
token_in k l s (Err f) = refused f l

abbrev pub TokenWithin : List ℕ → Result (ℕ × ℕ) Fault → Type 0
TokenWithin s (Ok p) = (p.0 ≤ p.1) × (p.1 < length s)
TokenWithin s (Err f) = Unit {0}

pub record ValueAt (s : List ℕ) (at : ℕ) (r : Result (ℕ × ℕ) Fault) : Type 0 where
  pub is : r ≡ value_token s at
  pub same : (k : ValueKind) (l : ℕ) → token_in k l s r ≡ value_of k l (drop at s)
  pub within : TokenWithin s r

pub record TokenAt (key s : List ℕ) (at : ℕ) (r : Result (ℕ × ℕ) Fault) : Type 0 where
  pub is : r ≡ key_token key s at
  pub same : (k : ValueKind) (l : ℕ) → token_in k l s r ≡ field_of key k l (drop at s)
  pub within : TokenWithin s r

-- ---- the end of a line

abbrev pub feed_in : ℕ → List ℕ → Result ℕ Fault → Outcome (Unit {0})
feed_in l s (Ok e) = took tt (suc l) (drop e s)
feed_in l s (Err f) = refused f l

pub record FeedAt (s : List ℕ) (at : ℕ) (r : Result ℕ Fault) : Type 0 where
  pub same : (l : ℕ) → feed_in l s r ≡ end_of l (drop at s)
  pub within : FoundWithin s r
