-- What the readers of a call's variables answer.
use Rattle.std.specs.Prelude.{ℕ, ◌+◌, min, Bool, List, ltb, eqb, Option as Maybe, Some, None, Result, Ok, Err}
use Rattle.std.proofs.Math.Option.{Option, none, some}
use Rattle.table.specs.Mask.{pick}
use Rattle.table.specs.Table.{removed}
use Rattle.table.specs.declared.Args.{Args}
use Rattle.text.specs.declared.Fault.{Fault}
use Rattle.text.specs.declared.Fault.TheVariants.{Misspelt}
use Rattle.text.specs.Number.{bytes}
use Rattle.text.specs.Value.{arguments, said_variable, said}
use Rattle.text.specs.Format.{args_of}
use Rattle.scan.specs.Place.{Answer}
use Rattle.lists.specs.Items.{next_comma, part}
use Rattle.lists.specs.Sets.{Judged, FieldAt}

-- ---- one variable

-- the answer for what bytes say: a variable, None for one that is not declared, or the fault
abbrev pub argument_for : Bool → ℕ → Option (Option ℕ) → Result (Maybe ℕ) Fault
argument_for c n none = Err Misspelt
argument_for c n (some none) = pick c (Ok (Some removed)) (Err Misspelt)
argument_for c n (some (some v)) = Ok (pick (ltb v n) (Some v) None)

unfoldable pub argument_of : Bool → ℕ → List ℕ → Result (Maybe ℕ) Fault
argument_of c n w = argument_for c n (said_variable w)

-- the one from a place to the next comma, and where it ends
abbrev pub ending : ℕ → Result (Maybe ℕ) Fault → Answer (Maybe ℕ)
ending to (Ok v) = Ok (v, to)
ending to (Err f) = Err f

unfoldable pub argument_from : Bool → ℕ → List ℕ → ℕ → Answer (Maybe ℕ)
argument_from c n t from = ending (next_comma t from) (argument_of c n (part t from (next_comma t from)))

-- ---- all of them

-- one variable more
abbrev pub pushed_of : Args → ℕ → Args
pushed_of a v = record {
  len = min (a.len + 1) 5;
  a0 = pick (eqb a.len 0) v a.a0;
  a1 = pick (eqb a.len 1) v a.a1;
  a2 = pick (eqb a.len 2) v a.a2;
  a3 = pick (eqb a.len 3) v a.a3;
}

-- no variables, once one is not declared
abbrev pub with_of : Maybe Args → Maybe ℕ → Maybe Args
with_of (Some a) (Some v) = Some (pushed_of a v)
with_of (Some a) None = None
with_of None v = None

-- the answer for a list that bytes say, and for the field

abbrev pub PassedJudged : Bool → ℕ → Option (List (Option ℕ)) → ℕ → Answer Args → Type 0
PassedJudged c n o e r = Judged (arguments c n) args_of o e r

abbrev pub PassedSaid : Bool → ℕ → List ℕ → ℕ → Answer Args → Type 0
PassedSaid c n t e r = PassedJudged c n (said (arguments c n) t) e r

abbrev pub PassedAt : Bool → ℕ → List ℕ → ℕ → Answer Args → Type 0
PassedAt c n s at r = FieldAt (arguments c n) args_of (bytes " args=") s at r
