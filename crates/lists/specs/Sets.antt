-- What the readers of lists answer.
use Rattle.std.specs.Prelude.{ℕ, ◌^◌, ◌≡◌, Bool, List, drop, Ok, Err}
use Rattle.std.proofs.Math.Option.{Option}
use Rattle.table.specs.Mask.{pick}
use Rattle.text.specs.declared.Fault.TheVariants.{Reference}
use Rattle.text.specs.Value.{ValueKind, Of, ascending, said}
use Rattle.text.specs.Line.{judged, value_of, field_of}
use Rattle.text.specs.Format.{set_of}
use Rattle.scan.specs.Place.{Answer, answer_in, Within}
use Rattle.numbers.specs.Answer.{mapped}
use Rattle.lists.specs.Items.{inside}

-- ---- what g makes of a list

-- the place after it is the one given
abbrev pub Ends : {A : Type 0} → ℕ → Answer A → Type 0
Ends e (Ok p) = p.1 ≡ e
Ends e (Err f) = Unit {0}

module _ {B : Type 0} (k : ValueKind) (g : Of k → B) where
  -- of what bytes that end at a place say
  pub record Judged (o : Option (Of k)) (e : ℕ) (r : Answer B) : Type 0 where
    pub same : (l : ℕ) (s : List ℕ) → answer_in l s r ≡ mapped g (judged k o l (drop e s))
    pub ends : Ends e r

  -- of the value at a place
  pub record ValueIn (s : List ℕ) (at : ℕ) (r : Answer B) : Type 0 where
    pub same : (l : ℕ) → answer_in l s r ≡ mapped g (value_of k l (drop at s))
    pub within : Within s r

  -- and of the value behind a key
  pub record FieldAt (key s : List ℕ) (at : ℕ) (r : Answer B) : Type 0 where
    pub same : (l : ℕ) → answer_in l s r ≡ mapped g (field_of key k l (drop at s))
    pub within : Within s r

-- ---- sets

abbrev pub SetJudged : Bool → ℕ → ℕ → Option (List ℕ) → ℕ → Answer ℕ → Type 0
SetJudged one lo n o e r = Judged (ascending one lo n) set_of o e r

abbrev pub SetSaid : Bool → ℕ → ℕ → List ℕ → ℕ → Answer ℕ → Type 0
SetSaid one lo n t e r = SetJudged one lo n (said (ascending one lo n) t) e r

-- the answer for a list of one number v
unfoldable pub single_of : ℕ → ℕ → ℕ → ℕ → Answer ℕ
single_of lo n v e = pick (inside lo n v) (Ok (2 ^ v, e)) (Err Reference)

abbrev pub SetIn : Bool → ℕ → ℕ → List ℕ → ℕ → Answer ℕ → Type 0
SetIn one lo n s at r = ValueIn (ascending one lo n) set_of s at r

abbrev pub SetAt : Bool → ℕ → ℕ → List ℕ → List ℕ → ℕ → Answer ℕ → Type 0
SetAt one lo n key s at r = FieldAt (ascending one lo n) set_of key s at r
