-- What the readers of operands and variables answer. Of bytes t that end at e; and of the field at a place of a text.
use Rattle.std.specs.Prelude.{ℕ, ◌<◌, ◌≡◌, Bool, Some, Ok, Err, List, ltb, eqb, length, take, drop}
use Rattle.std.proofs.Math.Option.{Option, none, some}
use Rattle.table.specs.Mask.{pick}
use Rattle.text.specs.declared.Fault.{Fault}
use Rattle.text.specs.declared.Fault.TheVariants.{Ended, Misspelt}
use Rattle.table.specs.declared.Operand.{Operand}
use Rattle.table.specs.declared.Operand.TheVariants.{Var, Const}
use Rattle.text.specs.Number.{bytes}
use Rattle.text.specs.Value.{operand, variable, numeral, as_var, as_const, as_negative, said, operand_fault}
use Rattle.text.specs.Line.{Parser, refused, run, judged, value_of, field_of}
use Rattle.digits.specs.Read.{number_of}
use Rattle.text.specs.Format.{variable_of}
use Rattle.scan.specs.Place.{Answer, answer_in, Within}
use Rattle.numbers.specs.Answer.{mapped}

-- ---- operands

abbrev pub DeclaredBelow : ℕ → Operand → Type 0
DeclaredBelow n (Var v) = v < n
DeclaredBelow n (Const z) = Unit {0}

abbrev pub OperandEnds : ℕ → ℕ → Answer Operand → Type 0
OperandEnds n e (Ok p) = (p.1 ≡ e) × DeclaredBelow n p.0
OperandEnds n e (Err f) = Unit {0}

abbrev pub OperandWithin : ℕ → List ℕ → Answer Operand → Type 0
OperandWithin n s (Ok p) = (p.1 < length s) × DeclaredBelow n p.0
OperandWithin n s (Err f) = Unit {0}

-- the answer for an operand that ends at e, or for bytes that say none, with n variables declared
abbrev pub operand_or : Option Fault → Operand → ℕ → Answer Operand
operand_or none v e = Ok (v, e)
operand_or (some f) v e = Err f

abbrev pub operand_answer : ℕ → Option Operand → ℕ → Answer Operand
operand_answer n none e = Err Misspelt
operand_answer n (some v) e = operand_or (operand_fault n v) v e

-- what that answer says of any text
pub record OperandJudged (n : ℕ) (o : Option Operand) (e : ℕ) (r : Answer Operand) : Type 0 where
  pub same : (l : ℕ) (s : List ℕ) → answer_in l s r ≡ judged (operand n) o l (drop e s)
  pub ends : OperandEnds n e r

-- what the answer for the number x behind `v`, behind `-` or alone says of bytes that spell x, or a number above 2^32 for which x stands
pub record Judged (kind : Option ℕ → Option Operand) (n x e : ℕ) (r : Answer Operand) : Type 0 where
  pub is : (t : List ℕ) → Some x ≡ number_of t → OperandJudged n (kind (numeral t)) e r

-- what an operand's first byte says: how many bytes stand before its digits, and what the digits are
abbrev pub skip : ℕ → ℕ
skip b = pick (eqb b 118) 1 (pick (eqb b 45) 1 0)

abbrev pub operand_kind : ℕ → Option ℕ → Option Operand
operand_kind b = pick (eqb b 118) as_var (pick (eqb b 45) as_negative as_const)

-- the answer for the digits at a place
abbrev pub value_as : (Option ℕ → Option Operand) → ℕ → Parser Operand
value_as kind n = λ l s. pick (ltb (run s) (length s)) (judged (operand n) (kind (numeral (take (run s) s))) l (drop (run s) s)) (refused Ended l)

pub record OperandAs (kind : Option ℕ → Option Operand) (n : ℕ) (s : List ℕ) (at : ℕ) (r : Answer Operand) : Type 0 where
  pub same : (l : ℕ) → answer_in l s r ≡ value_as kind n l (drop at s)
  pub within : OperandWithin n s r

-- and for the operand at a place
pub record OperandIn (n : ℕ) (s : List ℕ) (at : ℕ) (r : Answer Operand) : Type 0 where
  pub same : (l : ℕ) → answer_in l s r ≡ value_of (operand n) l (drop at s)
  pub within : OperandWithin n s r

pub record OperandAt (n : ℕ) (key s : List ℕ) (at : ℕ) (r : Answer Operand) : Type 0 where
  pub same : (l : ℕ) → answer_in l s r ≡ field_of key (operand n) l (drop at s)
  pub within : OperandWithin n s r

-- ---- variables

abbrev pub VariableEnds : ℕ → Answer ℕ → Type 0
VariableEnds e (Ok p) = p.1 ≡ e
VariableEnds e (Err f) = Unit {0}

pub record VariableSaid (c : Bool) (n : ℕ) (t : List ℕ) (e : ℕ) (r : Answer ℕ) : Type 0 where
  pub same : (l : ℕ) (s : List ℕ) → answer_in l s r ≡ mapped variable_of (judged (variable c n) (said (variable c n) t) l (drop e s))
  pub ends : VariableEnds e r

pub record VariableIn (c : Bool) (n : ℕ) (s : List ℕ) (at : ℕ) (r : Answer ℕ) : Type 0 where
  pub same : (l : ℕ) → answer_in l s r ≡ mapped variable_of (value_of (variable c n) l (drop at s))
  pub within : Within s r

pub record VariableAt (c : Bool) (n : ℕ) (s : List ℕ) (at : ℕ) (r : Answer ℕ) : Type 0 where
  pub same : (l : ℕ) → answer_in l s r ≡ mapped variable_of (field_of (bytes " var=") (variable c n) l (drop at s))
  pub within : Within s r
