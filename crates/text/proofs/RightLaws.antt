-- A value, and a line, has no fault if and only if it is right.
use Rattle.std.specs.Prelude.{ℕ, zero, suc, ◌≤◌, ◌<◌, ◌≡◌, refl, ◌↔◌, List, [], ◌∷◌, Bool, true, false, ◌&&◌, ◌||◌, not, ltb, leb, pos, negsuc, length, get_or}
use Rattle.std.proofs.Common.{arith, ltb-true, lt-ltb, leb-true, le-leb}
use Rattle.std.proofs.Math.Option.{Option, none, some}
use Rattle.std.proofs.lemmas.Bool.{false≢true, not-true}
use Rattle.table.specs.declared.Operand.{Operand}
use Rattle.table.specs.declared.Operand.TheVariants.{Var, Const}
use Rattle.table.specs.declared.Op.{Op}
use Rattle.table.specs.declared.Op.TheVariants.{Add, Sub, And, Or, Xor, Shr, Lt, Eq}
use Rattle.text.specs.Number.{every}
use Rattle.text.specs.declared.Fault.{Fault}
use Rattle.text.specs.declared.Fault.TheVariants.{Form, Index}
use Rattle.text.proofs.NumberLaws.{and_left, and_right, every_all, all_every}
use Rattle.text.proofs.ValueLaws.{no}
use Rattle.text.specs.Value.{NodeKind, start, read, is_kind, due_at, ValueKind, number, choice, kind, operation, operand, variable, ascending, arguments, Of, unless, or_else, kind_fault, op_fault, operand_fault, variable_fault, ascends, within, is_one, none_removed, all_declared, check}
use Rattle.text.specs.Line.{Line, end, field, Vals, line_fault}
use Rattle.text.specs.Right.{DueAt, KindRight, Fits, OperandIn, NameIn, Within, Right, Rights}

-- ---- the first of some faults

pub unless_is : (b : Bool) (f : Fault) → (unless b f ≡ none) ↔ (b ≡ true)
unless_is true f = (λ e. refl, λ e. refl)
unless_is false f = (λ e. no (cc), λ e. absurd (false≢true e))

pub else_is : (a b : Option Fault) → (or_else a b ≡ none) ↔ ((a ≡ none) × (b ≡ none))
else_is none b = (λ e. (refl, e), λ e. e.1)
else_is (some f) b = (λ e. no (cc), λ e. no (cc e.0))

pub and_is : (a b : Bool) → (a && b ≡ true) ↔ ((a ≡ true) × (b ≡ true))
and_is a b = (λ e. (and_left a b e, and_right a b e), λ e. rw e.0 e.1)

-- ---- a value has no fault if and only if it is right

due_is : (j : ℕ) (s : Bool) → (due_at j s ≡ true) ↔ DueAt j s
due_is zero true = (λ e. refl, λ h. refl)
due_is zero false = (λ e. absurd (false≢true e), λ h. absurd (omega arith))
due_is (suc j) true = (λ e. absurd (false≢true e), λ h. absurd (omega arith))
due_is (suc j) false = (λ e. omega arith, λ h. refl)

kind_is : (c : Bool) (j : ℕ) (v : NodeKind) → (kind_fault c j v ≡ none) ↔ KindRight c j v
kind_is c j v =
    let r = is_kind read v && c in
    let d = due_is j (is_kind start v) in (
      λ e.
          let h = (else_is (unless (not r) Form) _).0 e in
          (d.0 ((unless_is _ Index).0 h.1), not-true r ((unless_is (not r) Form).0 h.0)),
      λ h. rw (h.1, d.1 h.0),
    )

op_is : (t : Bool) (v : Op) → (op_fault t v ≡ none) ↔ Fits t v
op_is false v = (λ e. tt, λ h. refl)
op_is true Add = (λ e. no (cc), λ h. absurd h)
op_is true Sub = (λ e. no (cc), λ h. absurd h)
op_is true And = (λ e. no (cc), λ h. absurd h)
op_is true Or = (λ e. no (cc), λ h. absurd h)
op_is true Xor = (λ e. no (cc), λ h. absurd h)
op_is true Shr = (λ e. no (cc), λ h. absurd h)
op_is true Lt = (λ e. tt, λ h. refl)
op_is true Eq = (λ e. tt, λ h. refl)

below_is : (v n : ℕ) (f : Fault) → (unless (ltb v n) f ≡ none) ↔ (v < n)
below_is v n f = (λ e. ltb-true v n ((unless_is (ltb v n) f).0 e), λ h. (unless_is (ltb v n) f).1 (lt-ltb v n h))

upto_is : (v n : ℕ) (f : Fault) → (unless (leb v n) f ≡ none) ↔ (v ≤ n)
upto_is v n f = (λ e. leb-true v n ((unless_is (leb v n) f).0 e), λ h. (unless_is (leb v n) f).1 (le-leb v n h))

operand_is : (n : ℕ) (v : Operand) → (operand_fault n v ≡ none) ↔ OperandIn n v
operand_is n (Var v) = below_is v n _
operand_is n (Const (pos x)) = upto_is x 2147483647 _
operand_is n (Const (negsuc x)) = upto_is x 2147483647 _

variable_is : (c : Bool) (n : ℕ) (v : Option ℕ) → (variable_fault c n v ≡ none) ↔ NameIn c n v
variable_is c n none = unless_is c _
variable_is c n (some v) = below_is v n _

range_is : (lo v n : ℕ) → (leb lo v && ltb v n ≡ true) ↔ ((lo ≤ v) × (v < n))
range_is lo v n = (λ e. (leb-true lo v (and_left (leb lo v) (ltb v n) e), ltb-true v n (and_right (leb lo v) (ltb v n) e)), λ h. rw (le-leb lo v h.0) (lt-ltb v n h.1))

pub within_all : (lo n : ℕ) (xs : List ℕ) → within lo n xs ≡ true → Within lo n xs
within_all lo n xs e m d = (range_is lo m n).0 (every_all _ xs e m d)

pub all_within : (lo n : ℕ) (xs : List ℕ) → Within lo n xs → within lo n xs ≡ true
all_within lo n xs f = all_every _ xs (λ m d. (range_is lo m n).1 (f m d))

-- each argument is right by itself
names_all : (c : Bool) (n : ℕ) (xs : List (Option ℕ)) → c || none_removed xs ≡ true → all_declared n xs ≡ true → (i : ℕ) → i < length xs → NameIn c n (get_or xs i (some 0))
unfolding every
names_all c n [] r a i l = absurd (omega arith)
names_all true n (none ∷ xs) r a zero l = refl
names_all true n (none ∷ xs) r a (suc i) l = names_all true n xs refl a i (omega arith)
names_all false n (none ∷ xs) r a i l = absurd (false≢true r)
names_all c n (some v ∷ xs) r a zero l = ltb-true v n (and_left (ltb v n) (all_declared n xs) a)
names_all c n (some v ∷ xs) r a (suc i) l = names_all c n xs r (and_right (ltb v n) (all_declared n xs) a) i (omega arith)

all_names : (c : Bool) (n : ℕ) (xs : List (Option ℕ)) → ((i : ℕ) → i < length xs → NameIn c n (get_or xs i (some 0))) → (c || none_removed xs ≡ true) × (all_declared n xs ≡ true)
unfolding every
all_names true n [] f = (refl, refl)
all_names false n [] f = (refl, refl)
all_names c n (none ∷ xs) f = let ih = all_names c n xs (λ i l. f (suc i) (omega arith)) in (rw (f 0 (omega arith)), ih.1)
all_names c n (some v ∷ xs) f = let ih = all_names c n xs (λ i l. f (suc i) (omega arith)) in (ih.0, rw (lt-ltb v n (f 0 (omega arith))) ih.1)

pub check_right : (k : ValueKind) (v : Of k) → check k v ≡ none → Right k v
unfolding check
check_right (number lo n f) v e = (range_is lo v n).0 ((unless_is _ f).0 e)
check_right (choice a b) v e = tt
check_right (kind c j) v e = (kind_is c j v).0 e
check_right (operation t) v e = (op_is t v).0 e
check_right (operand n) v e = (operand_is n v).0 e
check_right (variable c n) v e = (variable_is c n v).0 e
check_right (ascending one lo n) v e =
    let h = (else_is _ _).0 e in
    let a = (and_is (ascends v) (not one || is_one v)).0 ((unless_is _ _).0 h.0) in
    (a.0, λ o. rw o at a.1, within_all lo n v ((unless_is _ _).0 h.1))
check_right (arguments c n) v e = let h = (else_is _ _).0 e in names_all c n v ((unless_is _ _).0 h.0) ((unless_is _ _).0 h.1)

pub right_check : (k : ValueKind) (v : Of k) → Right k v → check k v ≡ none
unfolding check
right_check (number lo n f) v h = (unless_is _ f).1 ((range_is lo v n).1 h)
right_check (choice a b) v h = refl
right_check (kind c j) v h = (kind_is c j v).1 h
right_check (operation t) v h = (op_is t v).1 h
right_check (operand n) v h = (operand_is n v).1 h
right_check (variable c n) v h = (variable_is c n v).1 h
right_check (ascending one lo n) v h = rw (h.0, one_of one h.1, all_within lo n v h.2)
  where
    one_of : (one : Bool) → (one ≡ true → is_one v ≡ true) → not one || is_one v ≡ true
    one_of true f = f refl
    one_of false f = refl
right_check (arguments c n) v h = let a = all_names c n v h in rw (a.0, a.1)

-- a line has no fault if and only if its values are right
pub line_is : (d : Line) (w : Vals d) → (line_fault d w ≡ none) ↔ Rights d w
unfolding line_fault
line_is end w = (λ e. tt, λ h. refl)
line_is (field key k next) w =
    let ih = line_is (next w.0) w.1 in
    (λ e. let h = (else_is (check k w.0) (line_fault (next w.0) w.1)).0 e in (check_right k w.0 h.0, ih.0 h.1), λ h. rw (right_check k w.0 h.0) (ih.1 h.1))
