-- What the readers of several lines answer.
use Rattle.std.specs.Prelude.{ℕ, ◌+◌, ◌≤◌, ◌≡◌, List, length, drop, Result, Ok, Err, IfOk, MatchResult}
use Rattle.text.specs.Line.{Outcome, took, refused, Parser}
use Rattle.fields.specs.Answer.{Answer, line_in}
use Rattle.rows.specs.declared.Reached.{Reached}
use Rattle.rows.specs.declared.Refusal.{Refusal}

-- one row, on whatever line
pub record RowAt {A : Type 0} (p : Parser A) (s : List ℕ) (at : ℕ) (r : Answer A) : Type 0 where
  pub same : (l : ℕ) → line_in l s r ≡ p l (drop at s)
  pub within : IfOk r (λ a. a.1 ≤ length s)

-- what some lines hold, with the place and the line reached; or their first fault, with its line
abbrev pub Lines : Type 0 → Type 0
Lines A = Result (A × Reached) Refusal

abbrev pub lines_in : {A : Type 0} → List ℕ → Lines A → Outcome A
lines_in s (Ok a) = took a.0 a.1.line (drop a.1.at s)
lines_in s (Err x) = refused x.fault x.line

-- what p reads there, at most so many lines
pub record LinesAt {A : Type 0} (p : Parser A) (most : ℕ) (s : List ℕ) (at line : ℕ) (r : Lines A) : Type 0 where
  pub same : lines_in s r ≡ p line (drop at s)
  pub within : IfOk r (λ a. a.1.at ≤ length s)
  pub lines : MatchResult r (λ a. a.1.line ≤ line + most) (λ x. x.line ≤ line + most)
