-- What is read of a text's first line.
use Rattle.std.specs.Prelude.{ℕ, suc, ◌+◌, ◌≤◌, ◌≡◌, List, drop, Option, Some, None, Ok, Err}
use Rattle.text.specs.declared.Fault.{Fault}
use Rattle.text.specs.declared.Fault.TheVariants.{Range}
use Rattle.text.specs.Line.{Line, Vals, took, refused, line}
use Rattle.closing.specs.Reasons.{refusal_line, stopped_line}
use Rattle.scan.specs.Place.{Answer}
use Rattle.numbers.specs.Answer.{NumberIn, NumberAt}

-- the fault of a number does not count here
abbrev pub count_of : Answer ℕ → Option (ℕ × ℕ)
count_of (Ok p) = Some p
count_of (Err f) = None

-- the number from lo to hi at a place, and behind a key
pub record CountIn (lo hi : ℕ) (s : List ℕ) (at : ℕ) (r : Option (ℕ × ℕ)) : Type 0 where
  pub number : Answer ℕ
  pub is : r ≡ count_of number
  pub there : NumberIn lo (hi + 1) Range s at number

pub record CountAt (lo hi : ℕ) (key s : List ℕ) (at : ℕ) (r : Option (ℕ × ℕ)) : Type 0 where
  pub number : Answer ℕ
  pub is : r ≡ count_of number
  pub there : NumberAt lo (hi + 1) Range key s at number

-- a line at a place: its values, or it does not stand there
pub record Stands (d : Line) (w : Vals d) (s : List ℕ) (at : ℕ) : Type 0 where
  pub read : (l : ℕ) → (r : List ℕ) × (line d l (drop at s) ≡ took w (suc l) r)

pub record Fails (d : Line) (s : List ℕ) (at : ℕ) : Type 0 where
  pub unread : (l : ℕ) → (f : Fault) × (line d l (drop at s) ≡ refused f l)

-- what a text's first line says: a number that has words, with a line or with steps
pub record RefusalIs (s : List ℕ) (n l : ℕ) : Type 0 where
  pub stands : Stands refusal_line (n, (l, tt)) s 0
  pub low : 1 ≤ n
  pub high : n ≤ 20

pub record StopIs (s : List ℕ) (n k : ℕ) : Type 0 where
  pub used : ℕ
  pub stands : Stands stopped_line (k, (used, (n, tt))) s 0
  pub low : 1 ≤ n
  pub high : n ≤ 20

abbrev pub RefusalOf : List ℕ → Option (ℕ × ℕ) → Type 0
RefusalOf s (Some p) = RefusalIs s p.0 p.1
RefusalOf s None = Fails refusal_line s 0

abbrev pub StopOf : List ℕ → Option (ℕ × ℕ) → Type 0
StopOf s (Some p) = StopIs s p.0 p.1
StopOf s None = Fails stopped_line s 0
