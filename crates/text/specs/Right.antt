-- What is right: of each kind of value what it means that it has no fault.
use Rattle.std.specs.Prelude.{ℕ, ◌≤◌, ◌<◌, ◌≡◌, Bool, true, false, ◌&&◌, pos, negsuc, length, get_or}
use mathlib.Core.List.{List, Memᴰ}
use Rattle.std.proofs.Math.Option.{Option, none, some}
use Rattle.table.specs.declared.Operand.{Operand}
use Rattle.table.specs.declared.Operand.TheVariants.{Var, Const}
use Rattle.table.specs.declared.Op.{Op}
use Rattle.table.specs.declared.Op.TheVariants.{Add, Sub, And, Or, Xor, Shr, Lt, Eq}
use Rattle.text.specs.Value.{NodeKind, start, read, is_kind, ValueKind, number, choice, kind, operation, operand, variable, ascending, arguments, Of, ascends, is_one}
use Rattle.text.specs.Line.{Line, end, field, Vals}

-- node 0 is the only start
abbrev pub DueAt : ℕ → Bool → Type 0
DueAt j true = j ≡ 0
DueAt j false = 0 < j

-- and only an open table reads
abbrev pub KindRight : Bool → ℕ → NodeKind → Type 0
KindRight c j k = DueAt j (is_kind start k) × (is_kind read k && c ≡ false)

abbrev pub Compares : Op → Type 0
Compares Add = ⊥
Compares Sub = ⊥
Compares And = ⊥
Compares Or = ⊥
Compares Xor = ⊥
Compares Shr = ⊥
Compares Lt = Unit {0}
Compares Eq = Unit {0}

abbrev pub Fits : Bool → Op → Type 0
Fits false o = Unit {0}
Fits true o = Compares o

-- a variable below n, or a number of 32 bits
abbrev pub OperandIn : ℕ → Operand → Type 0
OperandIn n (Var v) = v < n
OperandIn n (Const (pos x)) = x ≤ 2147483647
OperandIn n (Const (negsuc x)) = x ≤ 2147483647

-- a variable below n, or in closed form `-`
abbrev pub NameIn : Bool → ℕ → Option ℕ → Type 0
NameIn c n none = c ≡ true
NameIn c n (some v) = v < n

-- all numbers of a list lie from lo to below n
abbrev pub Within : ℕ → ℕ → List ℕ → Type 0
Within lo n xs = (m : ℕ) → Memᴰ m xs → (lo ≤ m) × (m < n)

abbrev pub Right : (k : ValueKind) → Of k → Type 0
Right (number lo n f) v = (lo ≤ v) × (v < n)
Right (choice a b) v = Unit {0}
Right (kind c j) v = KindRight c j v
Right (operation t) v = Fits t v
Right (operand n) v = OperandIn n v
Right (variable c n) v = NameIn c n v
Right (ascending one lo n) v = (ascends v ≡ true) × (one ≡ true → is_one v ≡ true) × Within lo n v
Right (arguments c n) v = (i : ℕ) → i < length v → NameIn c n (get_or v i (some 0))

abbrev pub Rights : (d : Line) → Vals d → Type 0
Rights end w = Unit {0}
Rights (field key k next) w = Right k w.0 × Rights (next w.0) w.1
