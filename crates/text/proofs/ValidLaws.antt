-- A table has no fault if and only if it is valid; and where its nodes are.
use Rattle.std.specs.Prelude.{ℕ, zero, suc, ◌+◌, ◌-◌, ◌≤◌, ◌<◌, ◌≡◌, refl, ◌↔◌, ◌⊎◌, Bool, true, false, ◌&&◌, ◌||◌, not, get_or, drop, replicate}
use Rattle.std.proofs.Common.{sym, ◌∙◌, inl, inr, arith, get_or-drop, eqb-true}
use Rattle.std.proofs.Math.Path.{fun_ext}
use mathlib.Core.List.{List, [], ◌∷◌, ◌++◌, Memᴰ}
use Rattle.std.proofs.Math.Option.{Option, none, some}
use Rattle.std.proofs.lemmas.Bool.{not-true}
use Rattle.table.specs.Cases.{cases}
use Rattle.table.specs.Mask.{bit, members_from}
use Rattle.table.specs.Table.{no_slot, outside, task_at, queue_at, proc_at, node_in, node_at, arcs, is_absent, parts}
use Rattle.table.specs.declared.Node.{Node}
use Rattle.table.specs.declared.Node.TheVariants.{Absent, Start}
use Rattle.table.specs.declared.Proc.{Proc}
use Rattle.table.specs.declared.Table.{Table}
use Rattle.text.specs.declared.Fault.{Fault}
use Rattle.text.specs.declared.Fault.TheVariants.{Arguments, Unclosed, Unused}
use Rattle.text.proofs.FaultLaws.{number_range}
use Rattle.text.proofs.NumberLaws.{by_order, and_left, and_right, every_all, all_every}
pub use Rattle.text.proofs.TableLaws.{below_all, all_below_lem}
use Rattle.text.proofs.ValueLaws.{no}
use Rattle.text.specs.Value.{unless, or_else}
use Rattle.text.specs.Reader.{all_below, all_present, count_right, removed_right, node_fault, task_fault, concat_from, node_late, proc_late, late}
use Rattle.text.specs.Writer.{scope, every, is_zero, slot_empty, task_empty, sem_empty, queue_empty, proc_empty, proc_tidy, tidy, fault}
use Rattle.text.proofs.RightLaws.{unless_is, else_is, and_is}
use Rattle.text.specs.Structure.{first_of, first_in, lines_fault, table_fault, numbered}
use Rattle.text.specs.Valid.{Valid}
pub use Rattle.text.proofs.NodeLaws.{absent_is}
use Rattle.text.proofs.LinedLaws.{first_none, none_first, valid_parts, lined_of, of_lined}
pub use Rattle.text.proofs.LinedLaws.{named_open}
use Rattle.text.proofs.StructureLaws.{fault_is}

-- ---- tests

or_is : (a b : Bool) → (not a || b ≡ true) ↔ (a ≡ true → b ≡ true)
or_is true b = (λ e o. e, λ f. f refl)
or_is false b = (λ e o. no (cc), λ f. refl)

pub present_all : (q : Proc) (ms : List ℕ) → all_present q ms ≡ true → (m : ℕ) → Memᴰ m ms → is_absent (node_in q m) ≡ false
present_all q ms e m d = not-true (is_absent (node_in q m)) (every_all _ ms e m d)

pub all_present_lem : (q : Proc) (ms : List ℕ) → ((m : ℕ) → Memᴰ m ms → is_absent (node_in q m) ≡ false) → all_present q ms ≡ true
all_present_lem q ms f = all_every _ ms (λ m d. rw (f m d))

-- ---- the late faults

in_append : (xs ys : List (Option Fault)) → first_in (xs ++ ys) ≡ or_else (first_in xs) (first_in ys)
unfolding first_in
in_append [] ys = refl
in_append (none ∷ xs) ys = in_append xs ys
in_append (some f ∷ xs) ys = refl

in_concat : (f : ℕ → List (Option Fault)) (n i : ℕ) → first_in (concat_from f n i) ≡ first_of (λ j. first_in (f j)) n i
unfolding first_in concat_from first_of
in_concat f zero i = refl
in_concat f (suc n) i = in_append (f i) (concat_from f n (suc i)) ∙ rw (in_concat f n (suc i))

in_none : (n : ℕ) → first_in (replicate n none) ≡ none
unfolding first_in
in_none zero = refl
in_none (suc n) = in_none n

-- a task's, a node's
late_task : (t : Table) (i : ℕ)
    → (first_in (task_fault t i ∷ []) ≡ none) ↔ (t.closed ≡ true → (j : ℕ) → j < (proc_at t (task_at t i).top).params → bit j (proc_at t (task_at t i).top).drop ≡ true)
unfolding first_in
late_task t i =
    let q = proc_at t (task_at t i).top in
    let f : ℕ → Bool = λ j. bit j q.drop in
    let b = all_below q.params f in (
      λ e o. below_all q.params f ((or_is t.closed b).0 ((unless_is (not t.closed || b) Unclosed).0 ((else_is (task_fault t i) none).0 e).0) o),
      λ h. rw ((or_is t.closed b).1 (λ o. all_below_lem q.params f (h o))),
    )

abbrev LateValid : Table → Proc → Node → Type 0
LateValid t q x = (count_right t x ≡ true) × (t.closed ≡ true → (all_present q (arcs x) ≡ true) × (removed_right t x ≡ true))

late_absent : (t : Table) (q : Proc) → (first_in (node_late t q Absent) ≡ none) ↔ LateValid t q Absent
unfolding first_in parts every members_from bit
late_absent t q = (λ z. (refl, λ o. (refl, refl)), λ v. refl)

late_node : (t : Table) (q : Proc) (x : Node) → (first_in (node_late t q x) ≡ none) ↔ LateValid t q x
unfolding first_in
late_node t q x =
    let k = count_right t x in
    let a = all_present q (arcs x) in
    let m = removed_right t x in
    cases (is_absent x)
    (λ e. rw (absent_is x e) (late_absent t q))
    (λ e. rw e (
      λ z.
          let h = (else_is (unless k Arguments) (unless (not t.closed || (a && m)) Unclosed)).0 ((else_is (node_fault t q x) none).0 z).0 in
          ((unless_is k Arguments).0 h.0, λ o. (and_is a m).0 ((or_is t.closed (a && m)).0 ((unless_is _ Unclosed).0 h.1) o)),
      λ v. rw (v.0, (or_is t.closed (a && m)).1 (λ o. (and_is a m).1 (v.1 o))),
    ))

-- the tasks' and the nodes', one after another
unfoldable pub tasks_late : Table → Option Fault
tasks_late t = first_of (λ i. first_in (task_fault t i ∷ [])) t.tasks 0

unfoldable pub nodes_late : Table → ℕ → Option Fault
nodes_late t p = first_of (λ n. first_in (node_late t (proc_at t p) (node_at t p n))) (proc_at t p).nodes 0

pub late_parts : (t : Table) → first_in (late t) ≡ or_else (tasks_late t) (first_of (nodes_late t) t.procs 0)
unfolding late first_in tasks_late nodes_late
late_parts t =
    let ts = concat_from (λ i. task_fault t i ∷ []) t.tasks 0 in
    let ss = replicate t.sems none in
    let qs = replicate t.queues none in
    let ps = concat_from (proc_late t) t.procs 0 in
    let p : (λ p. first_in (proc_late t p)) ≡ nodes_late t = fun_ext (λ p. in_concat (λ n. node_late t (proc_at t p) (node_at t p n)) (proc_at t p).nodes 0) in
    rw (in_append ts (ss ++ (qs ++ ps)), in_append ss (qs ++ ps), in_none t.sems, in_append qs ps, in_none t.queues, in_concat (λ i. task_fault t i ∷ []) t.tasks 0, in_concat (proc_late t) t.procs 0, p)

-- ---- a table

pub numbered_none : (f : Option Fault) → numbered f ≡ 0 → f ≡ none
numbered_none none e = refl
numbered_none (some f) e = absurd (omega (arith, number_range f))

pub valid_of : (t : Table) → fault t ≡ 0 → Valid t
unfolding table_fault tasks_late nodes_late
valid_of t z =
    let h = (else_is (lines_fault t) (or_else (first_in (late t)) (unless (tidy t) Unused))).0 (numbered_none (table_fault t) (sym (fault_is t) ∙ z)) in
    let k = (else_is (first_in (late t)) (unless (tidy t) Unused)).0 h.1 in
    let l = (else_is (tasks_late t) (first_of (nodes_late t) t.procs 0)).0 (sym (late_parts t) ∙ k.0) in
    let task : (i : ℕ) → i < t.tasks → first_in (task_fault t i ∷ []) ≡ none = λ i u. first_none (λ i. first_in (task_fault t i ∷ [])) t.tasks 0 l.0 i (omega arith) (omega arith) in
    let node : (p n : ℕ) → p < t.procs → n < (proc_at t p).nodes → LateValid t (proc_at t p) (node_at t p n) =
    λ p n u w. (late_node t (proc_at t p) (node_at t p n)).0 (first_none (λ n. first_in (node_late t (proc_at t p) (node_at t p n))) (proc_at t p).nodes 0 (first_none (nodes_late t) t.procs 0 l.1 p (omega arith) (omega arith)) n (omega arith) (omega arith))
    in
    record {
      lines = lined_of t h.0;
      dropped = λ o i u. (late_task t i).0 (task i u) o;
      counts = λ p n u w. (node p n u w).0;
      present = λ o p n u w. present_all (proc_at t p) (arcs (node_at t p n)) ((node p n u w).1 o).0;
      removals = λ o p n u w. ((node p n u w).1 o).1;
      unused = (unless_is (tidy t) Unused).0 k.1;
    }

pub of_valid : (t : Table) → Valid t → fault t ≡ 0
unfolding table_fault tasks_late nodes_late
of_valid t v =
    let tasks : tasks_late t ≡ none = none_first (λ i. first_in (task_fault t i ∷ [])) t.tasks 0 (λ i l u. (late_task t i).1 (λ o. v.dropped o i (omega arith))) in
    let nodes : first_of (nodes_late t) t.procs 0 ≡ none = none_first (nodes_late t) t.procs 0 (λ p l u. none_first (λ n. first_in (node_late t (proc_at t p) (node_at t p n))) (proc_at t p).nodes 0 (λ n k w.
    let x : p < t.procs = omega arith in
    let y : n < (proc_at t p).nodes = omega arith in
    (late_node t (proc_at t p) (node_at t p n)).1 (v.counts p n x y, λ o. (all_present_lem (proc_at t p) (arcs (node_at t p n)) (v.present o p n x y), v.removals o p n x y))))
    in
    fault_is t ∙ rw (of_lined t v.lines, late_parts t, tasks, nodes, v.unused)

-- ---- where the nodes are

all_at : {A : Type 0} (f : A → Bool) (xs : List A) (d : A) → every f xs ≡ true → f d ≡ true → (i : ℕ) → f (get_or xs i d) ≡ true
unfolding every
all_at f [] d e h i = h
all_at f (x ∷ xs) d e h zero = and_left (f x) (every f xs) e
all_at f (x ∷ xs) d e h (suc i) = all_at f xs d (and_right (f x) (every f xs) e) h i

-- behind what is counted, and back
pub all_behind : {A : Type 0} (f : A → Bool) (xs : List A) (d : A) (n i : ℕ) → every f (drop n xs) ≡ true → f d ≡ true → n ≤ i → f (get_or xs i d) ≡ true
all_behind f xs d n i e h l = let p : n + (i - n) ≡ i = omega arith in rw (p) at (rw (get_or-drop n xs (i - n) d) at (all_at f (drop n xs) d e h (i - n)))

pub behind_all : {A : Type 0} (f : A → Bool) (xs : List A) (d : A) (n : ℕ) → ((i : ℕ) → n ≤ i → f (get_or xs i d) ≡ true) → every f (drop n xs) ≡ true
unfolding every
behind_all f [] d zero h = refl
behind_all f [] d (suc n) h = refl
behind_all f (x ∷ xs) d zero h = rw (h 0 (omega arith)) (behind_all f xs d zero (λ i l. h (suc i) (omega arith)))
behind_all f (x ∷ xs) d (suc n) h = behind_all f xs d n (λ i l. h (suc i) (omega arith))

-- the unused places, part by part
pub tidy_parts : (t : Table) → tidy t ≡ true
    → (every task_empty (drop t.tasks t.task) ≡ true) × (every sem_empty (drop t.sems t.sem) ≡ true) × (every queue_empty (drop t.queues t.queue) ≡ true) × (every proc_empty (drop t.procs t.proc) ≡ true)
    × ((i : ℕ) → i < t.queues → t.closed || not (queue_at t i).blank ≡ true) × ((p : ℕ) → p < t.procs → proc_tidy t.closed (proc_at t p) ≡ true)
unfolding tidy
tidy_parts t e =
    let h₁ = (and_is (every task_empty (drop t.tasks t.task)) _).0 e in
    let h₂ = (and_is (every sem_empty (drop t.sems t.sem)) _).0 h₁.1 in
    let h₃ = (and_is (every queue_empty (drop t.queues t.queue)) _).0 h₂.1 in
    let h₄ = (and_is (every proc_empty (drop t.procs t.proc)) _).0 h₃.1 in
    let h₅ = (and_is (all_below t.queues (λ i. t.closed || not (queue_at t i).blank)) (all_below t.procs (λ p. proc_tidy t.closed (proc_at t p)))).0 h₄.1 in
    (h₁.0, h₂.0, h₃.0, h₄.0, below_all t.queues _ h₅.0, below_all t.procs _ h₅.1)

-- behind the procedures every place is 0,
pub far_empty : (t : Table) → tidy t ≡ true → (p : ℕ) → t.procs ≤ p → ((proc_at t p).params ≡ 0) × ((proc_at t p).vars ≡ 0) × ((proc_at t p).nodes ≡ 0) × (every slot_empty (proc_at t p).slots ≡ true)
unfolding every
far_empty t e p l =
    let q = proc_at t p in
    let h₁ = (and_is (is_zero q.params) _).0 (all_behind proc_empty t.proc outside t.procs p (tidy_parts t e).3 refl l) in
    let h₂ = (and_is (is_zero q.vars) _).0 h₁.1 in
    let h₃ = (and_is (is_zero q.nodes) _).0 h₂.1 in
    (eqb-true q.params 0 h₁.0, eqb-true q.vars 0 h₂.0, eqb-true q.nodes 0 h₃.0, and_right (is_zero q.drop) (every slot_empty q.slots) h₃.1)

-- and no place holds a node
far_absent : (t : Table) → tidy t ≡ true → (p n : ℕ) → t.procs ≤ p → node_at t p n ≡ Absent
unfolding parts
far_absent t e p n l = absent_is (node_at t p n) (all_at slot_empty (proc_at t p).slots no_slot (far_empty t e p l).3 refl n)

-- nor does one behind a procedure's nodes
pub outside_absent : (t : Table) → fault t ≡ 0 → (p n : ℕ) → (t.procs ≤ p) ⊎ ((proc_at t p).nodes ≤ n) → node_at t p n ≡ Absent
unfolding parts
outside_absent t z p n h =
    let e = (valid_of t z).unused in
    let q = proc_at t p in
    elim h [
      | inl l ↦ far_absent t e p n l
      | inr l ↦ by_order p t.procs
          (λ u. absent_is (node_in q n) (all_behind slot_empty q.slots no_slot q.nodes n (and_left (every slot_empty (drop q.nodes q.slots)) _ ((tidy_parts t e).5 p u)) refl l))
          (far_absent t e p n)
    ]

-- so a node stands within the counts
pub inside_of : (t : Table) → fault t ≡ 0 → (p n : ℕ) → is_absent (node_at t p n) ≡ false → (p < t.procs) × (n < (proc_at t p).nodes)
unfolding parts
inside_of t z p n e = (
  by_order p t.procs (λ l. l) (λ l. let a = outside_absent t z p n (inl l) in no (cc)),
  by_order n (proc_at t p).nodes (λ l. l) (λ l. let a = outside_absent t z p n (inr l) in no (cc)),
)

-- in an open table every place within the counts holds one, and node 0 is a start in both forms
pub open_present : (t : Table) → Valid t → t.closed ≡ false → (p n : ℕ) → p < t.procs → n < (proc_at t p).nodes → is_absent (node_at t p n) ≡ false
unfolding parts
open_present t v o p n u l = cases (is_absent (node_at t p n))
    (λ e. let h = rw (absent_is (node_at t p n) e) at ((v.lines.proc p u).node n l) in no (cc h.1))
    (λ e. e)

pub start_at : (t : Table) → Valid t → (p : ℕ) → p < t.procs → (to : ℕ) × (node_at t p 0 ≡ Start to)
start_at t v p u = let h = v.lines.proc p u in (valid_parts (scope t (proc_at t p)) 0 (node_at t p 0) (h.node 0 (omega (arith, h.nodes_low)))).start refl
