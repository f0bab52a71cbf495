-- The values that stand behind the keys: for each kind of value how one is spelt, what bytes say, and which fault it has.
use Rattle.std.specs.Prelude.{ℕ, zero, suc, ◌+◌, List, [], ◌∷◌, ◌++◌, map, Bool, true, false, ◌&&◌, ◌||◌, not, ltb, leb, eqb, pos, negsuc}
use Rattle.std.proofs.Math.Option.{Option, none, some}
use Rattle.table.specs.Mask.{pick}
use Rattle.table.specs.declared.Operand.{Operand}
use Rattle.table.specs.declared.Operand.TheVariants.{Var, Const}
use Rattle.table.specs.declared.Op.{Op}
use Rattle.table.specs.declared.Op.TheVariants.{Add, Sub, And, Or, Xor, Shr, Lt, Eq}
use Rattle.text.specs.Number.{bytes, digits, every, spelt, value}
pub use Rattle.text.specs.declared.NodeKind.{NodeKind}
pub use Rattle.text.specs.declared.NodeKind.TheVariants.{Start as start, Set as set_kind, Test as test, Read as read, Call as call, Wait as wait, Signal as signal, Send as send, Recv as recv, Assert as assert, Out as out, Return as return}
use Rattle.text.specs.declared.Fault.{Fault}
use Rattle.text.specs.declared.Fault.TheVariants.{Form, Misspelt, Range, Index, Reference}

pub data ValueKind : Type 0 where
  -- a number at least the first and below the second; outside, the fault
  number : ℕ → ℕ → Fault → ValueKind
  -- one of two words: the first for false, the second for true
  choice : List ℕ → List ℕ → ValueKind
  -- the kind of node j, in closed form or not
  kind : Bool → ℕ → ValueKind
  -- an operation; in a test or not
  operation : Bool → ValueKind
  -- an operand, with so many variables declared
  operand : ℕ → ValueKind
  -- a variable, with so many declared; in closed form it may be `-`
  variable : Bool → ℕ → ValueKind
  -- a list that ascends strictly, of numbers at least the first and below the second; of one number or of any count
  ascending : Bool → ℕ → ℕ → ValueKind
  -- a call's variables, with so many declared; in closed form each may be `-`
  arguments : Bool → ℕ → ValueKind

-- the values of a kind; a variable that is `none` is `-`
abbrev pub Of : ValueKind → Type 0
Of (number lo n f) = ℕ
Of (choice a b) = Bool
Of (kind c j) = NodeKind
Of (operation t) = Op
Of (operand n) = Operand
Of (variable c n) = Option ℕ
Of (ascending one lo n) = List ℕ
Of (arguments c n) = List (Option ℕ)

-- a number from lo to hi, else 3; the index i, else 4; a reference to one of n, else 5
abbrev pub from : ℕ → ℕ → ValueKind
from lo hi = number lo (hi + 1) Range

abbrev pub due : ℕ → ValueKind
due i = number i (i + 1) Index

abbrev pub one_of : ℕ → ValueKind
one_of n = number 0 n Reference

-- ---- words

abbrev pub kind_word : NodeKind → List ℕ
kind_word start = bytes "start"
kind_word set_kind = bytes "set"
kind_word test = bytes "test"
kind_word read = bytes "read"
kind_word call = bytes "call"
kind_word wait = bytes "wait"
kind_word signal = bytes "signal"
kind_word send = bytes "send"
kind_word recv = bytes "recv"
kind_word assert = bytes "assert"
kind_word out = bytes "out"
kind_word return = bytes "return"

abbrev pub kinds : List NodeKind
kinds = start ∷ set_kind ∷ test ∷ read ∷ call ∷ wait ∷ signal ∷ send ∷ recv ∷ assert ∷ out ∷ return ∷ []

abbrev pub op_word : Op → List ℕ
op_word Add = bytes "add"
op_word Sub = bytes "sub"
op_word And = bytes "and"
op_word Or = bytes "or"
op_word Xor = bytes "xor"
op_word Shr = bytes "shr"
op_word Lt = bytes "lt"
op_word Eq = bytes "eq"

abbrev pub ops : List Op
ops = Add ∷ Sub ∷ And ∷ Or ∷ Xor ∷ Shr ∷ Lt ∷ Eq ∷ []

unfoldable pub same : List ℕ → List ℕ → Bool
same [] [] = true
same [] (y ∷ ys) = false
same (x ∷ xs) [] = false
same (x ∷ xs) (y ∷ ys) = eqb x y && same xs ys

-- the first of some things whose word the bytes are
unfoldable pub named : {A : Type 0} → (A → List ℕ) → List A → List ℕ → Option A
named word [] s = none
named word (a ∷ as') s = pick (same (word a) s) (some a) (named word as' s)

abbrev pub chosen : List ℕ → List ℕ → Bool → List ℕ
chosen a b false = a
chosen a b true = b

-- ---- numbers and lists

abbrev pub numeral : List ℕ → Option ℕ
numeral s = pick (spelt s) (some (value s)) none

-- `-` or a number
abbrev pub spell_variable : Option ℕ → List ℕ
spell_variable none = bytes "-"
spell_variable (some v) = digits v

abbrev pub as_variable : Option ℕ → Option (Option ℕ)
as_variable none = none
as_variable (some v) = some (some v)

abbrev pub said_variable : List ℕ → Option (Option ℕ)
said_variable s = pick (same (bytes "-") s) (some none) (as_variable (numeral s))

-- "an operand is a variable or a constant: `v` with its number, or a signed 32-bit number"; "`-0` is misspelt"
abbrev pub spell_operand : Operand → List ℕ
spell_operand (Var v) = bytes "v" ++ digits v
spell_operand (Const (pos n)) = digits n
spell_operand (Const (negsuc n)) = bytes "-" ++ digits (suc n)

abbrev pub as_var : Option ℕ → Option Operand
as_var none = none
as_var (some v) = some (Var v)

abbrev pub as_const : Option ℕ → Option Operand
as_const none = none
as_const (some n) = some (Const (pos n))

abbrev pub as_negative : Option ℕ → Option Operand
as_negative none = none
as_negative (some zero) = none
as_negative (some (suc n)) = some (Const (negsuc n))

unfoldable pub said_operand : List ℕ → Option Operand
said_operand [] = none
said_operand (b ∷ s) = pick (eqb b 118) (as_var (numeral s)) (pick (eqb b 45) (as_negative (numeral s)) (as_const (numeral (b ∷ s))))

-- "Lists are separated by commas; .. an empty list is `none`"
unfoldable pub commas : List (List ℕ) → List ℕ
commas [] = []
commas (x ∷ []) = x
commas (x ∷ y ∷ xs) = x ++ (44 ∷ commas (y ∷ xs))

abbrev pub spell_list : List (List ℕ) → List ℕ
spell_list [] = bytes "none"
spell_list (x ∷ xs) = commas (x ∷ xs)

abbrev pub before : ℕ → List (List ℕ) → List (List ℕ)
before b [] = (b ∷ []) ∷ []
before b (x ∷ xs) = (b ∷ x) ∷ xs

-- what stands between the commas
unfoldable pub split : List ℕ → List (List ℕ)
split [] = [] ∷ []
split (b ∷ s) = pick (eqb b 44) ([] ∷ split s) (before b (split s))

abbrev pub followed : {A : Type 0} → Option A → Option (List A) → Option (List A)
followed none xs = none
followed (some x) none = none
followed (some x) (some xs) = some (x ∷ xs)

-- what each of some bytes say, where all say something
unfoldable pub each : {A : Type 0} → (List ℕ → Option A) → List (List ℕ) → Option (List A)
each f [] = some []
each f (s ∷ ss) = followed (f s) (each f ss)

abbrev pub said_list : {A : Type 0} → (List ℕ → Option A) → List ℕ → Option (List A)
said_list f s = pick (same (bytes "none") s) (some []) (each f (split s))

-- ---- spelling, and what bytes say

unfoldable pub spell : (k : ValueKind) → Of k → List ℕ
spell (number lo n f) v = digits v
spell (choice a b) v = chosen a b v
spell (kind c j) v = kind_word v
spell (operation t) v = op_word v
spell (operand n) v = spell_operand v
spell (variable c n) v = spell_variable v
spell (ascending one lo n) v = spell_list (map digits v)
spell (arguments c n) v = spell_list (map spell_variable v)

unfoldable pub said : (k : ValueKind) → List ℕ → Option (Of k)
said (number lo n f) s = numeral s
said (choice a b) s = named (chosen a b) (false ∷ true ∷ []) s
said (kind c j) s = named kind_word kinds s
said (operation t) s = named op_word ops s
said (operand n) s = said_operand s
said (variable c n) s = said_variable s
said (ascending one lo n) s = said_list numeral s
said (arguments c n) s = said_list said_variable s

-- the fault of bytes that say nothing of a kind: "a misspelt number, operand or list", or a wrong "kind, other word"
unfoldable pub unsaid : ValueKind → Fault
unsaid (number lo n f) = Misspelt
unsaid (choice a b) = Form
unsaid (kind c j) = Form
unsaid (operation t) = Form
unsaid (operand n) = Misspelt
unsaid (variable c n) = Misspelt
unsaid (ascending one lo n) = Misspelt
unsaid (arguments c n) = Misspelt

-- ---- faults of a value

abbrev pub unless : Bool → Fault → Option Fault
unless true f = none
unless false f = some f

-- the first fault of two
abbrev pub or_else : Option Fault → Option Fault → Option Fault
or_else (some f) g = some f
or_else none g = g

abbrev pub is_kind : NodeKind → NodeKind → Bool
is_kind a b = same (kind_word a) (kind_word b)

-- a `start`, or another kind, is due at place j: "Node 0 is the only `start`"
abbrev pub due_at : ℕ → Bool → Bool
due_at zero isStart = isStart
due_at (suc j) isStart = not isStart

-- "Closed form has no `read`"
abbrev pub kind_fault : Bool → ℕ → NodeKind → Option Fault
kind_fault c j k = or_else (unless (not (is_kind read k && c)) Form) (unless (due_at j (is_kind start k)) Index)

-- "A test has lt or eq"
abbrev pub op_fault : Bool → Op → Option Fault
op_fault false o = none
op_fault true Add = some Form
op_fault true Sub = some Form
op_fault true And = some Form
op_fault true Or = some Form
op_fault true Xor = some Form
op_fault true Shr = some Form
op_fault true Lt = none
op_fault true Eq = none

-- a constant lies in the signed 32-bit range
abbrev pub operand_fault : ℕ → Operand → Option Fault
operand_fault n (Var v) = unless (ltb v n) Reference
operand_fault n (Const (pos x)) = unless (leb x 2147483647) Range
operand_fault n (Const (negsuc x)) = unless (leb x 2147483647) Range

abbrev pub variable_fault : Bool → ℕ → Option ℕ → Option Fault
variable_fault c n none = unless c Misspelt
variable_fault c n (some v) = unless (ltb v n) Reference

-- "target and drop lists ascend strictly"
unfoldable pub ascends : List ℕ → Bool
ascends [] = true
ascends (x ∷ []) = true
ascends (x ∷ y ∷ xs) = ltb x y && ascends (y ∷ xs)

abbrev pub within : ℕ → ℕ → List ℕ → Bool
within lo n xs = every (λ x. leb lo x && ltb x n) xs

abbrev pub is_one : List ℕ → Bool
is_one [] = false
is_one (x ∷ []) = true
is_one (x ∷ y ∷ xs) = false

abbrev pub is_named : Option ℕ → Bool
is_named none = false
is_named (some v) = true

abbrev pub none_removed : List (Option ℕ) → Bool
none_removed xs = every is_named xs

abbrev pub is_declared : ℕ → Option ℕ → Bool
is_declared n none = true
is_declared n (some v) = ltb v n

abbrev pub all_declared : ℕ → List (Option ℕ) → Bool
all_declared n xs = every (is_declared n) xs

-- a whole list is one value: its spelling, its order and its count come before any item's range
unfoldable pub check : (k : ValueKind) → Of k → Option Fault
check (number lo n f) v = unless (leb lo v && ltb v n) f
check (choice a b) v = none
check (kind c j) v = kind_fault c j v
check (operation t) v = op_fault t v
check (operand n) v = operand_fault n v
check (variable c n) v = variable_fault c n v
check (ascending one lo n) v = or_else (unless (ascends v && (not one || is_one v)) Misspelt) (unless (within lo n v) Reference)
check (arguments c n) v = or_else (unless (c || none_removed v) Misspelt) (unless (all_declared n v) Reference)
