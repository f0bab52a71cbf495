-- What the readers of lines answer: at a place, the text is what is left of it there.
use Rattle.std.specs.Prelude.{ℕ, suc, ◌≤◌, ◌≡◌, List, length, drop, Result, Ok, Err, IfOk}
use Rattle.std.specs.Result.{IsErrAnd}
use Rattle.text.specs.declared.Fault.{Fault}
use Rattle.text.specs.Line.{Line, Vals, Outcome, took, refused, line, ◌>>=◌, give}

-- what a line holds and the place after it, or its fault
abbrev pub Answer : Type 0 → Type 0
Answer A = Result (A × ℕ) Fault

-- the outcome on line l
abbrev pub line_in : {A : Type 0} → ℕ → List ℕ → Answer A → Outcome A
line_in l s (Ok a) = took a.0 (suc l) (drop a.1 s)
line_in l s (Err f) = refused f l

-- the line d, its values made into one by g: on whatever line, the answer is the outcome
pub record LineAt {A : Type 0} (d : Line) (g : Vals d → A) (s : List ℕ) (at : ℕ) (r : Answer A) : Type 0 where
  pub same : (l : ℕ) → line_in l s r ≡ (line d >>= λ w. give (g w)) l (drop at s)
  pub within : IfOk r (λ a. a.1 ≤ length s)

-- what a `?` hands on: the fault f
abbrev pub Fails : {A E : Type 0} → Result A E → E → Type 0
Fails r f = IsErrAnd r (λ x. x ≡ f)
