-- What the readers of numbers answer. Of bytes t that end at e; and of the field at a place of a text.
use Rattle.std.specs.Prelude.{ℕ, ◌≤◌, ◌<◌, ◌≡◌, List, Ok, Err, cond, ◌&&◌, leb, ltb, length, drop}
use Rattle.text.specs.declared.Fault.{Fault}
use Rattle.text.specs.Value.{number, said}
use Rattle.text.specs.Line.{Outcome, took, refused, judged, value_of, field_of}
use Rattle.scan.specs.Place.{Answer, answer_in}

abbrev pub NumberEnds : ℕ → ℕ → ℕ → Answer ℕ → Type 0
NumberEnds lo n e (Ok p) = (p.1 ≡ e) × (lo ≤ p.0) × (p.0 < n)
NumberEnds lo n e (Err f) = Unit {0}

abbrev pub NumberWithin : ℕ → ℕ → List ℕ → Answer ℕ → Type 0
NumberWithin lo n s (Ok p) = (p.1 < length s) × (lo ≤ p.0) × (p.0 < n)
NumberWithin lo n s (Err f) = Unit {0}

pub record NumberSaid (lo n : ℕ) (f : Fault) (t : List ℕ) (e : ℕ) (r : Answer ℕ) : Type 0 where
  pub same : (l : ℕ) (s : List ℕ) → answer_in l s r ≡ judged (number lo n f) (said (number lo n f) t) l (drop e s)
  pub ends : NumberEnds lo n e r

-- the answer for a number v that ends at e
unfoldable pub within_of : ℕ → ℕ → Fault → ℕ → ℕ → Answer ℕ
within_of lo n f v e = cond (leb lo v && ltb v n) (Ok (v, e)) (Err f)

-- for the number at a place, and behind a key
pub record NumberIn (lo n : ℕ) (f : Fault) (s : List ℕ) (at : ℕ) (r : Answer ℕ) : Type 0 where
  pub same : (l : ℕ) → answer_in l s r ≡ value_of (number lo n f) l (drop at s)
  pub within : NumberWithin lo n s r

pub record NumberAt (lo n : ℕ) (f : Fault) (key s : List ℕ) (at : ℕ) (r : Answer ℕ) : Type 0 where
  pub same : (l : ℕ) → answer_in l s r ≡ field_of key (number lo n f) l (drop at s)
  pub within : NumberWithin lo n s r

-- the outcome with another value
abbrev pub mapped : {A B : Type 0} → (A → B) → Outcome A → Outcome B
mapped g (took v l s) = took (g v) l s
mapped g (refused f l) = refused f l
