-- What a place of a procedure is judged by: the line that its node stands for.
use Rattle.std.specs.Prelude.{ℕ, suc, ◌≡◌, refl, Option, Some, None, Result, Ok, Bool, true, false, not, ◌&&◌, ◌⊎◌, ltb}
use Rattle.std.proofs.Common.{sym, ◌∙◌, ap, inl, inr, arith, lt-ltb, le-leb}
use Rattle.std.proofs.Math.Option.{none, some, Option as Maybe}
use Rattle.table.specs.Cases.{cases}
use Rattle.table.specs.Mask.{pick, members}
use Rattle.table.specs.Table.{parts, is_absent}
use Rattle.table.specs.declared.Op.{Op}
use Rattle.table.specs.declared.Operand.{Operand}
use Rattle.table.specs.declared.Args.{Args}
use Rattle.table.specs.declared.Node.{Node}
use Rattle.table.specs.declared.Node.TheVariants.{Absent, Start, Set, Test, Read, Call, Wait, Signal, Send, Recv, Assert, Out, Return}
use Rattle.text.specs.declared.Fault.{Fault}
use Rattle.text.specs.declared.Fault.TheVariants.{Form, Index}
use Rattle.text.specs.declared.NodeKind.{NodeKind}
use Rattle.text.specs.declared.NodeKind.TheVariants.{Start as start, Set as set_kind, Test as test, Read as read, Call as call, Wait as wait, Signal as signal, Send as send, Recv as recv, Assert as assert, Out as out, Return as return}
use Rattle.text.specs.Value.{ValueKind, operation, operand, variable, arguments, one_of, same, unless, or_else, due_at, kind_fault, check}
use Rattle.text.specs.Line.{Vals, line_fault}
use Rattle.text.specs.Format.{Scope, targets, node_line, fields, name_of, arg_names, Described, no_line, described, describe}
use Rattle.text.proofs.NodeLaws.{absent_is, by_line}
use Rattle.targets.specs.Judged.{judged}
use Rattle.checks.specs.declared.Limits.{Limits}

abbrev pub scope_in : Limits → Scope
scope_in c = record { closed = c.closed; procs = c.procs; sems = c.sems; queues = c.queues; vars = c.vars; nodes = c.nodes }

-- ---- the line of a node at place j

due_is : (j : ℕ) → check (ValueKind.number j (suc j) Index) j ≡ none
unfolding check
due_is j = rw (le-leb j j (omega arith), lt-ltb j (suc j) (omega arith))

-- the line that a node stands for; an absent node has none
abbrev pub described_fault : (c : Scope) → ℕ → Described c → Maybe Fault
described_fault c j no_line = none
described_fault c j (described k w) = line_fault (node_line c j (suc j)) (j, (k, w))

-- what a place is judged by: its line; only in closed form, and there behind place 0, may a node be absent. Nothing is said where a node is due and absent: which fault that is depends on
-- the places behind it
abbrev pub place_judged : (c : Scope) → ℕ → Described c → Option (Result (Unit {0}) Fault)
place_judged c j no_line = pick (c.closed && ltb 0 j) (Some (Ok tt)) None
place_judged c j (described k w) = Some (judged (line_fault (node_line c j (suc j)) (j, (k, w))))

-- ---- the line of a node by its kind: the kind's fault comes first, then those of the values behind it

line_is : (c : Scope) (j : ℕ) (k : NodeKind) (w : Vals (fields c k)) → line_fault (node_line c j (suc j)) (j, (k, w)) ≡ or_else (kind_fault c.closed j k) (line_fault (fields c k) w)
unfolding line_fault check
line_is c j k w = rw (due_is j)

any_op : (o : Op) → check (operation false) o ≡ none
unfolding check
any_op o = refl

else_none : (o : Maybe Fault) → or_else o none ≡ o
else_none none = refl
else_none (some f) = refl

-- node 0 is no start, or another node is
abbrev pub misplaced : Bool → ℕ → Maybe Fault
misplaced is_start j = unless (due_at j is_start) Index

abbrev pub arc : Scope → ℕ → Maybe Fault
arc c to = check (targets c) (members to)

pub start_line : (c : Scope) (j : ℕ) (to : ℕ) {x : Node} {r : Result (Unit {0}) Fault} → x ≡ Start to → r ≡ judged (or_else (misplaced true j) (arc c to)) → r ≡ judged (described_fault c j (describe c x))
unfolding describe line_fault same
start_line c j to e h = h ∙ ap judged (sym (line_is c j start _ ∙ simp else_none)) ∙ ap (λ (y : Node). judged (described_fault c j (describe c y))) (sym e)

pub set_line : (c : Scope) (j : ℕ) (v : ℕ) (o : Op) (a b : Operand) (to : ℕ) {x : Node} {r : Result (Unit {0}) Fault} → x ≡ Set v o a b to → r ≡ judged (or_else (misplaced false j) (or_else (check (one_of c.vars) v) (or_else (check (operand c.vars) a) (or_else (check (operand c.vars) b) (arc c to))))) → r ≡ judged (described_fault c j (describe c x))
unfolding describe line_fault same
set_line c j v o a b to e h = h ∙ ap judged (sym (line_is c j set_kind _ ∙ simp (any_op, else_none))) ∙ ap (λ (y : Node). judged (described_fault c j (describe c y))) (sym e)

pub test_line : (c : Scope) (j : ℕ) (o : Op) (a b : Operand) (y n : ℕ) {x : Node} {r : Result (Unit {0}) Fault} → x ≡ Test o a b y n → r ≡ judged (or_else (misplaced false j) (or_else (check (operation true) o) (or_else (check (operand c.vars) a) (or_else (check (operand c.vars) b) (or_else (arc c y) (arc c n)))))) → r ≡ judged (described_fault c j (describe c x))
unfolding describe line_fault same
test_line c j o a b y n e h = h ∙ ap judged (sym (line_is c j test _ ∙ simp else_none)) ∙ ap (λ (y : Node). judged (described_fault c j (describe c y))) (sym e)

pub read_line : (c : Scope) (j : ℕ) (v to : ℕ) {x : Node} {r : Result (Unit {0}) Fault} → x ≡ Read v to → r ≡ judged (or_else (or_else (unless (not c.closed) Form) (misplaced false j)) (or_else (check (one_of c.vars) v) (arc c to))) → r ≡ judged (described_fault c j (describe c x))
unfolding describe line_fault same
read_line c j v to e h = h ∙ ap judged (sym (line_is c j read _ ∙ simp else_none)) ∙ ap (λ (y : Node). judged (described_fault c j (describe c y))) (sym e)

pub call_line : (c : Scope) (j : ℕ) (q : ℕ) (xs : Args) (to : ℕ) {x : Node} {r : Result (Unit {0}) Fault} → x ≡ Call q xs to → r ≡ judged (or_else (misplaced false j) (or_else (check (one_of c.procs) q) (or_else (check (arguments c.closed c.vars) (arg_names xs)) (arc c to)))) → r ≡ judged (described_fault c j (describe c x))
unfolding describe line_fault same
call_line c j q xs to e h = h ∙ ap judged (sym (line_is c j call _ ∙ simp else_none)) ∙ ap (λ (y : Node). judged (described_fault c j (describe c y))) (sym e)

pub sem_line : (c : Scope) (j : ℕ) (s to : ℕ) {x : Node} {r : Result (Unit {0}) Fault} → (x ≡ Wait s to) ⊎ (x ≡ Signal s to) → r ≡ judged (or_else (misplaced false j) (or_else (check (one_of c.sems) s) (arc c to))) → r ≡ judged (described_fault c j (describe c x))
unfolding describe line_fault same
sem_line c j s to (inl e) h = h ∙ ap judged (sym (line_is c j wait _ ∙ simp else_none)) ∙ ap (λ (y : Node). judged (described_fault c j (describe c y))) (sym e)
sem_line c j s to (inr e) h = h ∙ ap judged (sym (line_is c j signal _ ∙ simp else_none)) ∙ ap (λ (y : Node). judged (described_fault c j (describe c y))) (sym e)

pub queue_line : (c : Scope) (j : ℕ) (q v to : ℕ) {x : Node} {r : Result (Unit {0}) Fault} → (x ≡ Send q v to) ⊎ (x ≡ Recv q v to) → r ≡ judged (or_else (misplaced false j) (or_else (check (one_of c.queues) q) (or_else (check (variable c.closed c.vars) (name_of v)) (arc c to)))) → r ≡ judged (described_fault c j (describe c x))
unfolding describe line_fault same
queue_line c j q v to (inl e) h = h ∙ ap judged (sym (line_is c j send _ ∙ simp else_none)) ∙ ap (λ (y : Node). judged (described_fault c j (describe c y))) (sym e)
queue_line c j q v to (inr e) h = h ∙ ap judged (sym (line_is c j recv _ ∙ simp else_none)) ∙ ap (λ (y : Node). judged (described_fault c j (describe c y))) (sym e)

pub variable_line : (c : Scope) (j : ℕ) (v to : ℕ) {x : Node} {r : Result (Unit {0}) Fault} → (x ≡ Assert v to) ⊎ (x ≡ Out v to) → r ≡ judged (or_else (misplaced false j) (or_else (check (variable c.closed c.vars) (name_of v)) (arc c to))) → r ≡ judged (described_fault c j (describe c x))
unfolding describe line_fault same
variable_line c j v to (inl e) h = h ∙ ap judged (sym (line_is c j assert _ ∙ simp else_none)) ∙ ap (λ (y : Node). judged (described_fault c j (describe c y))) (sym e)
variable_line c j v to (inr e) h = h ∙ ap judged (sym (line_is c j out _ ∙ simp else_none)) ∙ ap (λ (y : Node). judged (described_fault c j (describe c y))) (sym e)

pub return_line : (c : Scope) (j : ℕ) {x : Node} {r : Result (Unit {0}) Fault} → x ≡ Return → r ≡ judged (misplaced false j) → r ≡ judged (described_fault c j (describe c x))
unfolding describe line_fault same
return_line c j e h = h ∙ ap judged (sym (line_is c j return tt ∙ simp else_none)) ∙ ap (λ (y : Node). judged (described_fault c j (describe c y))) (sym e)

-- ---- an absent node

pub absent_line : (c : Scope) (j : ℕ) {x : Node} → x ≡ Absent → Ok tt ≡ judged (described_fault c j (describe c x))
unfolding describe
absent_line c j e = rw e

pub place_line : (c : Scope) (j : ℕ) (x : Node) {r : Result (Unit {0}) Fault} → is_absent x ≡ false → r ≡ judged (described_fault c j (describe c x)) → Some r ≡ place_judged c j (describe c x)
unfolding parts
place_line c j x {r} a h = by_line c x
    (λ e d. let t : is_absent x ≡ true = rw e in absurd (cc))
    (λ k w e d. rw d (ap Some (rw d at h)))

pub place_absent : (c : Scope) (j : ℕ) (x : Node) → true ≡ is_absent x → c.closed ≡ true → (j ≡ 0 → ⊥) → Some (Ok tt) ≡ place_judged c j (describe c x)
unfolding describe
place_absent c j x a e q = rw (absent_is x (sym a), e, lt-ltb 0 j (omega (arith, q)))

pub place_due : (c : Scope) (j : ℕ) (x : Node) → true ≡ is_absent x → ((c.closed ≡ true) × (j ≡ 0)) ⊎ (c.closed ≡ false) → None ≡ place_judged c j (describe c x)
unfolding describe
place_due c j x a (inl h) = rw (absent_is x (sym a), h.0, h.1)
place_due c j x a (inr h) = rw (absent_is x (sym a), h)

pub not_absent : (x : Node) → (x ≡ Absent → ⊥) → false ≡ is_absent x
not_absent x h = cases (is_absent x) (λ e. absurd (h (absent_is x e))) sym
