-- What the readers of words answer. Of bytes t; and of the field at a place of a text.
use Rattle.std.specs.Prelude.{ℕ, ◌-◌, ◌<◌, ◌≡◌, Bool, List, length, take, drop, Option as Maybe, Some, None, Result, Ok, Err}
use Rattle.std.proofs.Math.Option.{Option, none, some}
use Rattle.table.specs.declared.Op.{Op}
use Rattle.text.specs.declared.Fault.{Fault}
use Rattle.text.specs.Number.{bytes}
use Rattle.text.specs.declared.NodeKind.{NodeKind}
use Rattle.text.specs.Value.{ValueKind, Of, choice, kind, operation}
use Rattle.text.specs.Line.{Outcome, refused, judged, value_of, field_of}
use Rattle.scan.specs.Place.{Answer, answer_in, Within, RunEnd}

-- an option and a fault of the descriptions, as the code has them
abbrev pub told : {A : Type 0} → Option A → Maybe A
told none = None
told (some v) = Some v

abbrev pub verdict_of : Option Fault → Result (Unit {0}) Fault
verdict_of none = Ok tt
verdict_of (some f) = Err f

-- ---- a field

-- the answer for the field of a kind of value, behind a key
pub record FieldAt (k : ValueKind) (key s : List ℕ) (at : ℕ) (r : Answer (Of k)) : Type 0 where
  pub same : (l : ℕ) → answer_in l s r ≡ field_of key k l (drop at s)
  pub within : Within s r

abbrev pub ChoiceAt : List ℕ → List ℕ → List ℕ → List ℕ → ℕ → Answer Bool → Type 0
ChoiceAt a b key s at r = FieldAt (choice a b) key s at r

abbrev pub KindAt : Bool → ℕ → List ℕ → ℕ → Answer NodeKind → Type 0
KindAt c j s at r = FieldAt (kind c j) (bytes " kind=") s at r

abbrev pub OpAt : Bool → List ℕ → ℕ → Answer Op → Type 0
OpAt x s at r = FieldAt (operation x) (bytes " op=") s at r

-- ---- a value that is read and not yet checked

abbrev pub unchecked_in : (k : ValueKind) → ℕ → List ℕ → Answer (Of k) → Outcome (Of k)
unchecked_in k l s (Ok p) = judged k (some p.0) l (drop p.1 s)
unchecked_in k l s (Err f) = refused f l

pub record ValueIn (k : ValueKind) (s : List ℕ) (at : ℕ) (r : Answer (Of k)) : Type 0 where
  pub same : (l : ℕ) → unchecked_in k l s r ≡ value_of k l (drop at s)
  pub within : Within s r

-- whatever its form and its node
pub record KindIn (s : List ℕ) (at : ℕ) (r : Answer NodeKind) : Type 0 where
  pub read : (c : Bool) (j : ℕ) → ValueIn (kind c j) s at r

-- in a test or not
pub record OpIn (s : List ℕ) (at : ℕ) (r : Answer Op) : Type 0 where
  pub read : (x : Bool) → ValueIn (operation x) s at r

-- ---- words that are told by their bytes

-- a word that is the whole value at a place
pub record WordTo (s : List ℕ) (at e : ℕ) (w : List ℕ) : Type 0 where
  pub run : RunEnd s at e
  pub inside : e < length s
  pub same : take (e - at) (drop at s) ≡ w

-- what is told has its word there
abbrev pub Stands : {A : Type 0} → (A → List ℕ) → List ℕ → ℕ → Maybe (A × ℕ) → Type 0
Stands word s at (Some p) = WordTo s at p.1 (word p.0)
Stands word s at None = Unit {0}
