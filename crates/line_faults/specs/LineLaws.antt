-- The fault of each line, from those of its values, and of each place of a procedure.
use Rattle.std.specs.Prelude.{ℕ, suc, ◌+◌, ◌-◌, ◌≤◌, ◌<◌, ◌≡◌, refl, List, Option, Some, None, Result, Ok, Err, Bool, true, false, ◌&&◌, ltb}
use Rattle.std.proofs.Common.{sym, ◌∙◌, ap, arith, lt-ltb, le-leb}
use Rattle.std.proofs.Math.Option.{none, some, Option as Maybe}
use Rattle.table.specs.Mask.{pick, members}
use Rattle.table.specs.Table.{node_in, is_absent}
use Rattle.table.specs.declared.Task.{Task}
use Rattle.table.specs.declared.Sem.{Sem}
use Rattle.table.specs.declared.Queue.{Queue}
use Rattle.table.specs.declared.Proc.{Proc}
use Rattle.table.specs.declared.Table.{Table}
use Rattle.text.specs.declared.Fault.{Fault}
use Rattle.text.specs.declared.Fault.TheVariants.{Index}
use Rattle.text.specs.Value.{check, choice, due, from, one_of, ascending, unless, or_else}
use Rattle.text.specs.Line.{line_fault}
use Rattle.text.specs.Format.{task_line, sem_line, queue_line, proc_line, task_vals, sem_vals, Scope, Described, no_line, described}
use Rattle.text.specs.Writer.{queue_vals, proc_vals}
use Rattle.text.specs.Structure.{node_due, gap, place_fault, head_fault, counts_fault, tasks_fault, sems_fault, queues_fault, procs_fault, lines_fault}
use Rattle.targets.specs.Judged.{judged}
use Rattle.checks.specs.Judging.{Fails, fails_is}
use Rattle.checks.specs.NodeChecks.{place_judged}
use Rattle.checks.specs.ValueChecks.{range_out}

-- the index due is no fault, nor is one of two words
due_is : (i : ℕ) → check (due i) i ≡ none
unfolding check
due_is i = rw (le-leb i i (omega arith), lt-ltb i (i + 1) (omega arith))

any_choice : (a b : List ℕ) (v : Bool) → check (choice a b) v ≡ none
unfolding check
any_choice a b v = refl

else_none : (o : Maybe Fault) → or_else o none ≡ o
else_none none = refl
else_none (some f) = refl

-- ---- the lines before the procedures

head_is : (t : Table) → or_else (head_fault t) (counts_fault t)
    ≡ or_else (check (from 1 1) t.trap) (or_else (check (from 1 4) t.tasks) (or_else (check (from 1 8) t.procs) (or_else (check (from 0 8) t.sems) (check (from 0 8) t.queues))))
unfolding line_fault
head_is t = simp (any_choice, else_none)

pub head_line_is : (t : Table) {r : Result (Unit {0}) Fault} → r ≡ judged (or_else (check (from 1 1) t.trap) (or_else (check (from 1 4) t.tasks) (or_else (check (from 1 8) t.procs) (or_else (check (from 0 8) t.sems) (check (from 0 8) t.queues)))))
    → r ≡ judged (or_else (head_fault t) (counts_fault t))
head_line_is t h = h ∙ ap judged (sym (head_is t))

pub task_is : (procs i : ℕ) (x : Task) {r : Result (Unit {0}) Fault} → r ≡ judged (check (one_of procs) x.top) → r ≡ judged (line_fault (task_line procs i) (task_vals procs i x))
unfolding line_fault
task_is procs i x h = rw (due_is i, else_none (check (one_of procs) x.top)) h

pub sem_is : (i : ℕ) (x : Sem) {r : Result (Unit {0}) Fault} → r ≡ judged (check (from 0 255) x.count) → r ≡ judged (line_fault (sem_line i) (sem_vals i x))
unfolding line_fault
sem_is i x h = rw (due_is i, else_none (check (from 0 255) x.count)) h

pub queue_is : (b : Bool) (i : ℕ) (x : Queue) {r : Result (Unit {0}) Fault} → r ≡ judged (check (from 1 8) x.cap) → r ≡ judged (line_fault (queue_line b i) (queue_vals b i x))
unfolding line_fault
queue_is false i x h = rw (due_is i, else_none (check (from 1 8) x.cap)) h
queue_is true i x h = rw (due_is i) (simp (any_choice, else_none) h)

-- ---- procedures

-- parameters that are dropped stand on the line only in closed form
abbrev pub drop_fault : Bool → Proc → Maybe Fault
drop_fault false q = none
drop_fault true q = check (ascending false 0 q.params) (members q.drop)

abbrev pub values_fault : Bool → Proc → Maybe Fault
values_fault b q = or_else (check (from 0 4) q.params) (or_else (check (from q.params 16) q.vars) (or_else (check (from 2 32) q.nodes) (drop_fault b q)))

proc_line_is : (b : Bool) (p : ℕ) (q : Proc) → line_fault (proc_line b p) (proc_vals b p q) ≡ values_fault b q
unfolding line_fault
proc_line_is false p q = rw (due_is p)
proc_line_is true p q = rw (due_is p) (simp else_none)

pub values_line : (b : Bool) (q : Proc) {r : Result (Unit {0}) Fault} → r ≡ judged (values_fault b q) → (p : ℕ) → r ≡ judged (line_fault (proc_line b p) (proc_vals b p q))
values_line b q h p = h ∙ ap judged (sym (proc_line_is b p q))

pub drops_found : {b : Bool} (q : Proc) {f : Fault} {r : Result (Unit {0}) Fault} → b ≡ true → Err f ≡ judged (check (ascending false 0 q.params) (members q.drop)) → Fails r f → r ≡ judged (drop_fault b q)
drops_found q e h x = rw e (fails_is x ∙ h)

pub drops_none : {b : Bool} (q : Proc) → b ≡ true → Ok tt ≡ judged (check (ascending false 0 q.params) (members q.drop)) → Ok tt ≡ judged (drop_fault b q)
drops_none q e h = rw e h

pub no_drops : {b : Bool} (q : Proc) → b ≡ false → Ok tt ≡ judged (drop_fault b q)
no_drops q e = rw e

-- ---- ranges

pub both_none : (a b : Maybe Fault) → Ok tt ≡ judged (or_else a b) → (Ok tt ≡ judged a) × (Ok tt ≡ judged b)
both_none none b e = (refl, e)
both_none (some f) b e = absurd (cc)

pub proc_range : (b : Bool) (p : ℕ) (q : Proc) → Ok tt ≡ judged (line_fault (proc_line b p) (proc_vals b p q)) → q.nodes ≤ 32
proc_range b p q e =
    let a = both_none _ _ (rw (proc_line_is b p q) at e) in
    let c = both_none (check (from q.params 16) q.vars) _ a.1 in
    (range_out 2 q.nodes 32 (both_none _ _ c.1).0).1

pub record Ranges (t : Table) : Type 0 where
  pub tasks : t.tasks ≤ 4
  pub procs : t.procs ≤ 8
  pub sems : t.sems ≤ 8
  pub queues : t.queues ≤ 8

pub ranges : (t : Table) → Ok tt ≡ judged (or_else (head_fault t) (counts_fault t)) → Ranges t
ranges t e =
    let a = both_none (check (from 1 1) t.trap) _ (rw (head_is t) at e) in
    let b = both_none (check (from 1 4) t.tasks) _ a.1 in
    let c = both_none (check (from 1 8) t.procs) _ b.1 in
    let d = both_none (check (from 0 8) t.sems) _ c.1 in
    record { tasks = (range_out 1 t.tasks 4 b.0).1; procs = (range_out 1 t.procs 8 c.0).1; sems = (range_out 0 t.sems 8 d.0).1; queues = (range_out 0 t.queues 8 d.1).1 }

-- ---- a gap at place j: those behind it, up to i, are absent

pub record GapPassed (b : Bool) (q : Proc) (j i : ℕ) : Type 0 where
  pub left : gap b q (q.nodes - suc j) (suc j) ≡ gap b q (q.nodes - i) i

pub gap_none : (b : Bool) (q : Proc) (j : ℕ) → GapPassed b q j (j + 1)
gap_none b q j = let e : suc j ≡ j + 1 = omega arith in record { left = rw e }

pub gap_more : (b : Bool) (q : Proc) (j i : ℕ) → GapPassed b q j i → i < q.nodes → true ≡ is_absent (node_in q i) → GapPassed b q j (i + 1)
unfolding gap
gap_more b q j i p l e =
    let k : q.nodes - i ≡ suc (q.nodes - (i + 1)) = omega arith in
    let s : i + 1 ≡ suc i = omega arith in
    record { left = p.left ∙ ap (λ (n : ℕ). gap b q n i) k ∙ rw (← e, s) }

pub gap_found : (b : Bool) (q : Proc) (j i : ℕ) → GapPassed b q j i → i < q.nodes → false ≡ is_absent (node_in q i) → Index ≡ gap b q (q.nodes - suc j) (suc j)
unfolding gap
gap_found b q j i p l e =
    let k : q.nodes - i ≡ suc (q.nodes - (i + 1)) = omega arith in
    sym (p.left ∙ ap (λ (n : ℕ). gap b q n i) k ∙ rw (← e))

pub gap_all : (b : Bool) (q : Proc) (j i : ℕ) {f : Fault} → GapPassed b q j i → q.nodes ≤ i → f ≡ node_due b → f ≡ gap b q (q.nodes - suc j) (suc j)
unfolding gap
gap_all b q j i p l h = let k : q.nodes - i ≡ 0 = omega arith in h ∙ sym (p.left ∙ ap (λ (n : ℕ). gap b q n i) k)

-- ---- places

pub place_some : (c : Scope) (b : Bool) (q : Proc) (j : ℕ) (d : Described c) {r : Result (Unit {0}) Fault} → Some r ≡ place_judged c j d → r ≡ judged (place_fault c b q j d)
place_some c b q j no_line {r} e = go (c.closed && ltb 0 j) e
  where
    go : (x : Bool) → Some r ≡ pick x (Some (Ok tt)) None → r ≡ judged (unless x (gap b q (c.nodes - suc j) (suc j)))
    go true h = cc
    go false h = absurd (cc)
place_some c b q j (described k w) e = cc

pub place_none : (c : Scope) (b : Bool) (q : Proc) (j : ℕ) (d : Described c) {f : Fault} → ◌≡◌ {A = Option (Result (Unit {0}) Fault)} None (place_judged c j d) → c.nodes ≡ q.nodes → f ≡ gap b q (q.nodes - suc j) (suc j) → Err f ≡ judged (place_fault c b q j d)
place_none c b q j no_line {f} e s h = go (c.closed && ltb 0 j) e
  where
    go : (x : Bool) → ◌≡◌ {A = Option (Result (Unit {0}) Fault)} None (pick x (Some (Ok tt)) None) → Err f ≡ judged (unless x (gap b q (c.nodes - suc j) (suc j)))
    go true k = absurd (cc)
    go false k = rw s (ap Err h)
place_none c b q j (described k w) e s h = absurd (cc)

-- ---- tables

else_assoc : (a b c : Maybe Fault) → or_else (or_else a b) c ≡ or_else a (or_else b c)
else_assoc none b c = refl
else_assoc (some f) b c = refl

-- the first two lines, then the others
pub table_lines : (t : Table) {r : Result (Unit {0}) Fault} → r ≡ judged (or_else (or_else (head_fault t) (counts_fault t)) (or_else (tasks_fault t) (or_else (sems_fault t) (or_else (queues_fault t) (procs_fault t))))) → r ≡ judged (lines_fault t)
unfolding lines_fault
table_lines t h = h ∙ ap judged (else_assoc (head_fault t) (counts_fault t) _)
