-- The lines of a table have no fault if and only if the table is `Lined`.
use Rattle.std.specs.Prelude.{ℕ, zero, suc, ◌+◌, ◌≤◌, ◌<◌, min, ◌≡◌, refl, ◌↔◌, Bool, true, false, ltb, eqb, length, get_or, take, replicate}
use Rattle.std.proofs.Common.{sym, ◌∙◌, inl, inr, true≢false, arith, ltb-true, lt-ltb, eqb-true}
use mathlib.Core.List.Memᴰ
use mathlib.Core.List.{List, [], ◌∷◌, ◌++◌, Memᴰ}
use Rattle.std.proofs.Math.Option.{Option, none, some}
use Rattle.std.proofs.lemmas.Bool.{false≢true, eqb-false, not-true}
use Rattle.table.specs.Cases.{cases}
use Rattle.table.specs.Mask.{bit, members_from, members}
use Rattle.table.specs.Table.{removed, arg_places, arg_at, operand_uses, task_at, sem_at, queue_at, proc_at, node_in, Exit, ends, by, either, parts, uses, variable_set, act, first_arc, second_arc, arcs}
use Rattle.table.specs.declared.Operand.{Operand}
use Rattle.table.specs.declared.Operand.TheVariants.{Var, Const}
use Rattle.table.specs.declared.Args.{Args}
use Rattle.table.specs.declared.Node.{Node}
use Rattle.table.specs.declared.Node.TheVariants.{Absent, Start, Set, Test, Read, Call, Wait, Signal, Send, Recv, Assert, Out, Return}
use Rattle.table.specs.declared.Proc.{Proc}
use Rattle.table.specs.declared.Queue.{Queue}
use Rattle.table.specs.declared.Table.{Table}
use Rattle.text.specs.declared.Fault.{Fault}
use Rattle.text.proofs.ValueLaws.{no}
use Rattle.text.specs.Value.{same, or_else, NodeKind, start, set_kind, test, read, call, wait, signal, send, recv, assert, out, return, arguments, is_one}
use Rattle.text.specs.Line.{Vals, line_fault}
use Rattle.text.specs.Format.{head_line, counts_line, task_line, sem_line, queue_line, proc_line, Scope, targets, node_line, fields, name_of, arg_names, describe, task_vals, sem_vals}
use Rattle.text.specs.Writer.{queue_vals, proc_vals, scope}
use Rattle.text.proofs.MaskLists.{members_ascends}
use Rattle.text.specs.Right.{KindRight, Right, Rights, OperandIn, NameIn, Within}
use Rattle.text.proofs.RightLaws.{unless_is, else_is, and_is, line_is}
use Rattle.text.proofs.ArgsLaws.{names_length, name_any, name_at}
use Rattle.text.specs.Structure.{first_of, place_fault, nodes_fault, last_proc, proc_fault, head_fault, counts_fault, tasks_fault, sems_fault, queues_fault, procs_fault, lines_fault}
use Rattle.text.specs.Valid.{Named, Arc, NodeValid, ActValid, ExitValid, PartsValid, ProcValid, Lined}

-- ---- the first fault of n things

pub first_none : (f : ℕ → Option Fault) (n i : ℕ) → first_of f n i ≡ none → (j : ℕ) → i ≤ j → j < i + n → f j ≡ none
unfolding first_of
first_none f zero i e j l u = absurd (omega arith)
first_none f (suc n) i e j l u =
    let h = (else_is (f i) (first_of f n (suc i))).0 e in
    cases (eqb j i)
    (λ q. rw (eqb-true j i q) h.0)
    (λ q. first_none f n (suc i) h.1 j (omega (arith, eqb-false j i q)) (omega arith))

pub none_first : (f : ℕ → Option Fault) (n i : ℕ) → ((j : ℕ) → i ≤ j → j < i + n → f j ≡ none) → first_of f n i ≡ none
unfolding first_of
none_first f zero i h = refl
none_first f (suc n) i h = rw (h i (omega arith) (omega arith)) (none_first f n (suc i) (λ j l u. h j (omega arith) (omega arith)))

-- ---- the values of a node's line

arc_is : (c : Scope) (m : ℕ) → Right (targets c) (members m) ↔ Arc c m
arc_is c m = (λ h. (h.2, λ o. one (members m) (h.1 (rw o))), λ a. (members_ascends m, λ o. rw (a.1 (not-true c.closed o)).1, a.0))
  where
    one : (xs : List ℕ) → is_one xs ≡ true → (k : ℕ) × (xs ≡ k ∷ [])
    one [] e = absurd (false≢true e)
    one (x ∷ []) e = (x, refl)
    one (x ∷ y ∷ xs) e = absurd (false≢true e)

name_is : (c : Scope) (v : ℕ) → NameIn c.closed c.vars (name_of v) ↔ Named c v
name_is c v = cases (eqb v removed)
    (λ q. rw q (λ h. (λ e. h, λ n. absurd (n (eqb-true v removed q))), λ h. h.0 (eqb-true v removed q)))
    (λ q. rw q (λ h. (λ e. absurd (eqb-false v removed q e), λ n. h), λ h. h.1 (eqb-false v removed q)))

pub all_same : {A : Type 0} (d : A) (n j : ℕ) → get_or (replicate n d) j d ≡ d
all_same d zero j = refl
all_same d (suc n) zero = refl
all_same d (suc n) (suc j) = all_same d n j

args_is : (c : Scope) (x : Args) → Right (arguments c.closed c.vars) (arg_names x) ↔ ((i : ℕ) → i < x.len → i < 4 → Named c (arg_at x i))
args_is c x = (
  λ h i l u. (name_is c (arg_at x i)).0 (rw (name_at x i l u) at (h i (omega (arith, names_length x)))),
  λ h i l. let u : i < x.len = omega (arith, names_length x) in rw (name_any x i u) ((name_is c (arg_at x (min i 3))).1 (h (min i 3) (omega arith) (omega arith))),
)

-- ---- places

-- node j's line has the number due
node_is : (c : Scope) (j : ℕ) (k : NodeKind) (w : Vals (fields c k)) → (line_fault (node_line c j (suc j)) (j, (k, w)) ≡ none) ↔ (KindRight c.closed j k × Rights (fields c k) w)
node_is c j k w = (
  λ e. ((line_is (node_line c j (suc j)) (j, (k, w))).0 e).1,
  λ h. (line_is (node_line c j (suc j)) (j, (k, w))).1 ((omega arith, omega arith), h),
)

place_is : (c : Scope) (is_last : Bool) (q : Proc) (j : ℕ) (x : Node) → (place_fault c is_last q j (describe c x) ≡ none) ↔ NodeValid c j x
unfolding describe same
place_is c is_last q j Absent = (
  λ e. let h = (and_is c.closed (ltb 0 j)).0 ((unless_is _ _).0 e) in (ltb-true 0 j h.1, h.0),
  λ v. (unless_is _ _).1 ((and_is c.closed (ltb 0 j)).1 (v.1, lt-ltb 0 j v.0)),
)
place_is c is_last q j (Start to) = (
  λ e. let h = (node_is c j start _).0 e in (h.0.0, (arc_is c to).0 h.1.0),
  λ v. (node_is c j start _).1 ((v.0, refl), ((arc_is c to).1 v.1, tt)),
)
place_is c is_last q j (Set x o a b to) = (
  λ e. let h = (node_is c j set_kind _).0 e in (h.0.0, h.1.0.1, h.1.1.1.0, h.1.1.1.1.0, (arc_is c to).0 h.1.1.1.1.1.0),
  λ v. (node_is c j set_kind _).1 ((v.0, refl), ((omega arith, v.1), (tt, (v.2, (v.3, ((arc_is c to).1 v.4, tt)))))),
)
place_is c is_last q j (Test o a b y n) = (
  λ e. let h = (node_is c j test _).0 e in (h.0.0, h.1.0, h.1.1.0, h.1.1.1.0, (arc_is c y).0 h.1.1.1.1.0, (arc_is c n).0 h.1.1.1.1.1.0),
  λ v. (node_is c j test _).1 ((v.0, refl), (v.1, (v.2, (v.3, ((arc_is c y).1 v.4, ((arc_is c n).1 v.5, tt)))))),
)
place_is c is_last q j (Read x to) = (
  λ e. let h = (node_is c j read _).0 e in (h.0.0, h.0.1, h.1.0.1, (arc_is c to).0 h.1.1.0),
  λ v. (node_is c j read _).1 ((v.0, v.1), ((omega arith, v.2), ((arc_is c to).1 v.3, tt))),
)
place_is c is_last q j (Call p xs to) = (
  λ e. let h = (node_is c j call _).0 e in (h.0.0, h.1.0.1, (args_is c xs).0 h.1.1.0, (arc_is c to).0 h.1.1.1.0),
  λ v. (node_is c j call _).1 ((v.0, refl), ((omega arith, v.1), ((args_is c xs).1 v.2, ((arc_is c to).1 v.3, tt)))),
)
place_is c is_last q j (Wait s to) = (
  λ e. let h = (node_is c j wait _).0 e in (h.0.0, h.1.0.1, (arc_is c to).0 h.1.1.0),
  λ v. (node_is c j wait _).1 ((v.0, refl), ((omega arith, v.1), ((arc_is c to).1 v.2, tt))),
)
place_is c is_last q j (Signal s to) = (
  λ e. let h = (node_is c j signal _).0 e in (h.0.0, h.1.0.1, (arc_is c to).0 h.1.1.0),
  λ v. (node_is c j signal _).1 ((v.0, refl), ((omega arith, v.1), ((arc_is c to).1 v.2, tt))),
)
place_is c is_last q j (Send p x to) = (
  λ e. let h = (node_is c j send _).0 e in (h.0.0, h.1.0.1, (name_is c x).0 h.1.1.0, (arc_is c to).0 h.1.1.1.0),
  λ v. (node_is c j send _).1 ((v.0, refl), ((omega arith, v.1), ((name_is c x).1 v.2, ((arc_is c to).1 v.3, tt)))),
)
place_is c is_last q j (Recv p x to) = (
  λ e. let h = (node_is c j recv _).0 e in (h.0.0, h.1.0.1, (name_is c x).0 h.1.1.0, (arc_is c to).0 h.1.1.1.0),
  λ v. (node_is c j recv _).1 ((v.0, refl), ((omega arith, v.1), ((name_is c x).1 v.2, ((arc_is c to).1 v.3, tt)))),
)
place_is c is_last q j (Assert x to) = (
  λ e. let h = (node_is c j assert _).0 e in (h.0.0, (name_is c x).0 h.1.0, (arc_is c to).0 h.1.1.0),
  λ v. (node_is c j assert _).1 ((v.0, refl), ((name_is c x).1 v.1, ((arc_is c to).1 v.2, tt))),
)
place_is c is_last q j (Out x to) = (
  λ e. let h = (node_is c j out _).0 e in (h.0.0, (name_is c x).0 h.1.0, (arc_is c to).0 h.1.1.0),
  λ v. (node_is c j out _).1 ((v.0, refl), ((name_is c x).1 v.1, ((arc_is c to).1 v.2, tt))),
)
place_is c is_last q j Return = (λ e. ((node_is c j return _).0 e).0.0, λ v. (node_is c j return _).1 ((v, refl), tt))

-- ---- parts

-- what names a variable in open form names one of the procedure's
pub named_open : (c : Scope) (x : ℕ) → c.closed ≡ false → Named c x → x < c.vars
named_open c x o h = h.1 (λ e. true≢false (sym (h.0 e) ∙ o))

operand_used : (n : ℕ) (a : Operand) → OperandIn n a → (u : ℕ) → Memᴰ u (operand_uses a) → u < n
operand_used n (Var v) h u (Memᴰ.head e) = rw e h
operand_used n (Var v) h u (Memᴰ.tail d) = absurd (Memᴰ.not-nil d)
operand_used n (Const x) h u d = absurd (Memᴰ.not-nil d)

-- among the first k of a list: at which place
place_of : (u k : ℕ) (l : List ℕ) → Memᴰ u (take k l) → (i : ℕ) × (i < k) × (i < length l) × (get_or l i 0 ≡ u)
place_of u zero l d = absurd (Memᴰ.not-nil d)
place_of u (suc k) [] d = absurd (Memᴰ.not-nil d)
place_of u (suc k) (x ∷ l) (Memᴰ.head e) = (0, omega arith, omega arith, sym e)
place_of u (suc k) (x ∷ l) (Memᴰ.tail d) = let r = place_of u k l d in (suc r.0, omega (arith, r.1), omega (arith, r.2), r.3)

module _ (c : Scope) (n : ℕ) where
  -- a node other than `start`: what it does, where it goes on, what it uses and what it sets
  later : (x : Node) → 0 < n → ActValid c (act x) → ExitValid c (parts x).exit → (c.closed ≡ false → (u : ℕ) → Memᴰ u (uses x) → u < c.vars)
      → (c.closed ≡ false → (v : ℕ) → variable_set x ≡ some v → v < c.vars) → PartsValid c n x
  later x l a e u s = record { start = λ z. absurd (omega arith); act = a; exit = e; uses = u; sets = s }

  none_used : c.closed ≡ false → (u : ℕ) → Memᴰ u [] → u < c.vars
  none_used o u d = absurd (Memᴰ.not-nil d)

  one_used : (v : ℕ) → Named c v → c.closed ≡ false → (u : ℕ) → Memᴰ u (v ∷ []) → u < c.vars
  one_used v h o u (Memᴰ.head e) = rw e (named_open c v o h)
  one_used v h o u (Memᴰ.tail d) = absurd (Memᴰ.not-nil d)

  two_used : (a b : Operand) → OperandIn c.vars a → OperandIn c.vars b → c.closed ≡ false → (u : ℕ) → Memᴰ u (operand_uses a ++ operand_uses b) → u < c.vars
  two_used a b h k o u d = elim (Memᴰ.append_cases (operand_uses a) d) [ inl x ↦ operand_used c.vars a h u x | inr y ↦ operand_used c.vars b k u y ]

  none_set : c.closed ≡ false → (v : ℕ) → none ≡ some v → v < c.vars
  none_set o v e = no (cc)

  one_set : (x : ℕ) → (c.closed ≡ false → x < c.vars) → c.closed ≡ false → (v : ℕ) → some x ≡ some v → v < c.vars
  one_set x h o v e = let q : x ≡ v = cc in rw (← q) (h o)

  -- a valid node by its parts
  pub valid_parts : (x : Node) → NodeValid c n x → PartsValid c n x
  unfolding parts
  valid_parts Absent h = later Absent h.0 tt tt none_used none_set
  valid_parts (Start to) h = record { start = λ z. (to, refl); act = tt; exit = h.1; uses = none_used; sets = none_set }
  valid_parts (Set v o a b to) h = later _ h.0 tt h.4 (two_used a b h.2 h.3) (one_set v (λ z. h.1))
  valid_parts (Test o a b y z) h = later _ h.0 tt (h.4, h.5) (two_used a b h.2 h.3) none_set
  valid_parts (Read v to) h = later _ h.0 tt h.3 none_used (one_set v (λ z. h.2))
  valid_parts (Call q xs to) h = later _ h.0 (h.1, h.2) h.3
      (λ o u d. let r = place_of u xs.len (arg_places xs) d in rw r.3 at (named_open c (arg_at xs r.0) o (h.2 r.0 r.1 r.2))) none_set
  valid_parts (Wait s to) h = later _ h.0 h.1 h.2 none_used none_set
  valid_parts (Signal s to) h = later _ h.0 h.1 h.2 none_used none_set
  valid_parts (Send q v to) h = later _ h.0 (h.1, h.2) h.3 (one_used v h.2) none_set
  valid_parts (Recv q v to) h = later _ h.0 (h.1, h.2) h.3 none_used (one_set v (λ o. named_open c v o h.2))
  valid_parts (Assert v to) h = later _ h.0 tt h.2 (one_used v h.1) none_set
  valid_parts (Out v to) h = later _ h.0 tt h.2 (one_used v h.1) none_set
  valid_parts Return h = later _ h tt tt none_used none_set

-- ---- targets

within_none : (lo n : ℕ) → Within lo n (members 0)
unfolding members_from bit
within_none lo n m d = absurd (Memᴰ.not-nil d)

within_append : (lo n : ℕ) (xs ys : List ℕ) → Within lo n xs → Within lo n ys → Within lo n (xs ++ ys)
within_append lo n xs ys f g m d = elim (Memᴰ.append_cases xs d) [ inl a ↦ f m a | inr b ↦ g m b ]

exit_within : (c : Scope) (e : Exit) → ExitValid c e → Within 1 c.nodes (members (first_arc e) ++ members (second_arc e))
exit_within c ends h = within_append 1 c.nodes (members 0) (members 0) (within_none 1 c.nodes) (within_none 1 c.nodes)
exit_within c (by m) h = within_append 1 c.nodes (members m) (members 0) h.0 (within_none 1 c.nodes)
exit_within c (either y n) h = within_append 1 c.nodes (members y) (members n) h.0.0 h.1.0

-- a valid node's targets are 1 to n-1
pub arcs_within : (c : Scope) (n : ℕ) (x : Node) → NodeValid c n x → Within 1 c.nodes (arcs x)
arcs_within c n x v = exit_within c (parts x).exit (valid_parts c n x v).exit

-- ---- procedures

-- what a procedure's line says of it
abbrev pub LineValid : Bool → Proc → Type 0
LineValid c q = (q.params ≤ 4) × (q.params ≤ q.vars) × (q.vars ≤ 16) × (2 ≤ q.nodes) × (q.nodes ≤ 32) × (c ≡ true → Within 0 q.params (members q.drop))

pub proc_is : (c : Bool) (p : ℕ) (q : Proc) → (line_fault (proc_line c p) (proc_vals c p q) ≡ none) ↔ LineValid c q
proc_is false p q = (
  λ e. let h = (line_is (proc_line false p) (proc_vals false p q)).0 e in (omega arith, omega arith, omega arith, omega arith, omega arith, λ o. absurd (false≢true o)),
  λ v. (line_is (proc_line false p) (proc_vals false p q)).1 ((omega arith, omega arith), ((omega arith, omega arith), ((omega arith, omega arith), ((omega arith, omega arith), tt)))),
)
proc_is true p q = (
  λ e. let h = (line_is (proc_line true p) (proc_vals true p q)).0 e in (omega arith, omega arith, omega arith, omega arith, omega arith, λ o. h.1.1.1.1.0.2),
  λ v. (line_is (proc_line true p) (proc_vals true p q)).1 ((omega arith, omega arith), ((omega arith, omega arith), ((omega arith, omega arith), ((omega arith, omega arith), ((members_ascends q.drop, λ o. absurd (false≢true o), v.5 refl), tt))))),
)

cap_is : (c : Bool) (i : ℕ) (x : Queue) → (line_fault (queue_line c i) (queue_vals c i x) ≡ none) ↔ ((1 ≤ x.cap) × (x.cap ≤ 8))
cap_is false i x = (
  λ e. let h = (line_is (queue_line false i) (queue_vals false i x)).0 e in (omega arith, omega arith),
  λ v. (line_is (queue_line false i) (queue_vals false i x)).1 ((omega arith, omega arith), ((omega arith, omega arith), tt)),
)
cap_is true i x = (
  λ e. let h = (line_is (queue_line true i) (queue_vals true i x)).0 e in (omega arith, omega arith),
  λ v. (line_is (queue_line true i) (queue_vals true i x)).1 ((omega arith, omega arith), ((omega arith, omega arith), (tt, tt))),
)

proc_valid : (t : Table) (p : ℕ) → proc_fault t p ≡ none → ProcValid t p
proc_valid t p e =
    let q = proc_at t p in
    let h = (else_is (line_fault (proc_line t.closed p) (proc_vals t.closed p q)) (nodes_fault t (last_proc t p) q)).0 e in
    let l = (proc_is t.closed p q).0 h.0 in
    record { params = l.0; vars_low = l.1; vars = l.2; nodes_low = l.3; nodes = l.4; drop = l.5; node = λ n u. (place_is (scope t q) (last_proc t p) q n (node_in q n)).0 (first_none _ q.nodes 0 h.1 n (omega arith) (omega arith)) }

valid_proc : (t : Table) (p : ℕ) → ProcValid t p → proc_fault t p ≡ none
valid_proc t p v =
    let q = proc_at t p in
    (else_is (line_fault (proc_line t.closed p) (proc_vals t.closed p q)) (nodes_fault t (last_proc t p) q)).1 (
      (proc_is t.closed p q).1 (v.params, v.vars_low, v.vars, v.nodes_low, v.nodes, v.drop),
      none_first _ q.nodes 0 (λ n l u. (place_is (scope t q) (last_proc t p) q n (node_in q n)).1 (v.node n (omega arith))),
    )

-- ---- tables

pub lines_is : (t : Table)
    → (lines_fault t ≡ none) ↔ ((head_fault t ≡ none) × (counts_fault t ≡ none) × (tasks_fault t ≡ none) × (sems_fault t ≡ none) × (queues_fault t ≡ none) × (procs_fault t ≡ none))
unfolding lines_fault
lines_is t =
    let f₄ = or_else (queues_fault t) (procs_fault t) in
    let f₃ = or_else (sems_fault t) f₄ in
    let f₂ = or_else (tasks_fault t) f₃ in
    let f₁ = or_else (counts_fault t) f₂ in (
      λ e.
          let h₁ = (else_is (head_fault t) f₁).0 e in
          let h₂ = (else_is (counts_fault t) f₂).0 h₁.1 in
          let h₃ = (else_is (tasks_fault t) f₃).0 h₂.1 in
          let h₄ = (else_is (sems_fault t) f₄).0 h₃.1 in
          let h₅ = (else_is (queues_fault t) (procs_fault t)).0 h₄.1 in
          (h₁.0, h₂.0, h₃.0, h₄.0, h₅.0, h₅.1),
      λ h. rw (h.0, h.1, h.2, h.3, h.4) h.5,
    )

pub lined_of : (t : Table) → lines_fault t ≡ none → Lined t
lined_of t e =
    let h = (lines_is t).0 e in
    let a = (line_is head_line (t.trap, (t.closed, tt))).0 h.0 in
    let b = (line_is counts_line (t.tasks, (t.procs, (t.sems, (t.queues, tt))))).0 h.1 in
    record {
      trap = omega (arith, a.0);
      tasks_low = b.0.0;
      tasks = omega (arith, b.0);
      procs_low = b.1.0.0;
      procs = omega (arith, b.1.0);
      sems = omega (arith, b.1.1.0);
      queues = omega (arith, b.1.1.1.0);
      top = λ i l. ((line_is (task_line t.procs i) (task_vals t.procs i (task_at t i))).0 (first_none _ t.tasks 0 h.2 i (omega arith) (omega arith))).1.0.1;
      count = λ i l. let c = (line_is (sem_line i) (sem_vals i (sem_at t i))).0 (first_none _ t.sems 0 h.3 i (omega arith) (omega arith)) in omega (arith, c.1.0);
      cap = λ i l. (cap_is t.closed i (queue_at t i)).0 (first_none _ t.queues 0 h.4 i (omega arith) (omega arith));
      proc = λ p l. proc_valid t p (first_none (proc_fault t) t.procs 0 h.5 p (omega arith) (omega arith));
    }

pub of_lined : (t : Table) → Lined t → lines_fault t ≡ none
of_lined t v = (lines_is t).1 (
  (line_is head_line (t.trap, (t.closed, tt))).1 ((omega (arith, v.trap), omega (arith, v.trap)), (tt, tt)),
  (line_is counts_line (t.tasks, (t.procs, (t.sems, (t.queues, tt))))).1 ((v.tasks_low, omega (arith, v.tasks)), ((v.procs_low, omega (arith, v.procs)), ((omega arith, omega (arith, v.sems)), ((omega arith, omega (arith, v.queues)), tt)))),
  none_first _ t.tasks 0 (λ i l u. (line_is (task_line t.procs i) (task_vals t.procs i (task_at t i))).1 ((omega arith, omega arith), ((omega arith, v.top i (omega arith)), tt))),
  none_first _ t.sems 0 (λ i l u. (line_is (sem_line i) (sem_vals i (sem_at t i))).1 ((omega arith, omega arith), ((omega arith, omega (arith, v.count i (omega arith))), tt))),
  none_first _ t.queues 0 (λ i l u. (cap_is t.closed i (queue_at t i)).1 (v.cap i (omega arith))),
  none_first (proc_fault t) t.procs 0 (λ p l u. valid_proc t p (v.proc p (omega arith))),
)
