-- A table read from a text: it writes that text, no other table does, and no line of it has a fault.
use Rattle.std.specs.Prelude.{ℕ, zero, suc, ◌+◌, ◌-◌, ◌^◌, ◌≤◌, ◌<◌, ◌≡◌, refl, List, [], ◌∷◌, ◌++◌, Bool, true, false, ◌&&◌, ◌||◌, not, length, get_or, drop, replicate}
use Rattle.std.proofs.Common.{sym, ◌∙◌, ap, append_assoc, append-nil, arith, get_or-drop, eqb-true}
use Rattle.std.proofs.Math.Option.{Option, none, some}
use Rattle.std.proofs.lemmas.List.{get_or-replicate}
use Rattle.std.proofs.Math.ListN.{get_or-eq_default}
use Rattle.std.proofs.lemmas.Bool.{not-true}
use Rattle.table.specs.Cases.{cases}
use Rattle.table.specs.Table.{no_slot, no_task, no_sem, no_queue, no_proc, no_slots, outside, task_at, sem_at, queue_at, proc_at, node_in, node_at, arc_to, arc_no, is_absent, parts}
use Rattle.table.specs.Shape.{Shaped}
use Rattle.table.specs.declared.Node.{Node}
use Rattle.table.specs.declared.Slot.{Slot}
use Rattle.table.specs.declared.Task.{Task}
use Rattle.table.specs.declared.Sem.{Sem}
use Rattle.table.specs.declared.Queue.{Queue}
use Rattle.table.specs.declared.Proc.{Proc}
use Rattle.table.specs.declared.Table.{Table}
use Rattle.text.specs.declared.Fault.{Fault}
use Rattle.text.specs.declared.Fault.TheVariants.{Arguments}
use Rattle.text.proofs.NumberLaws.{by_order, and_left, and_right}
use Rattle.text.specs.Value.{from, due, unless, check}
use Rattle.text.proofs.ValueLaws.{no}
use Rattle.text.specs.Line.{Line, Vals, write, Outcome, took, refused, Parser, onto, give, after, line}
use Rattle.text.proofs.LineLaws.{Sound, line_read, onto_read, head_sound, counts_sound, task_sound, sem_sound, queue_sound, proc_sound}
use Rattle.text.proofs.MaskLists.{set_members}
use Rattle.text.specs.Format.{head_line, counts_line, task_line, sem_line, queue_line, proc_line, Scope, set_of, describe, task_of, task_vals, sem_of, sem_vals}
use Rattle.text.specs.Reader.{rows, task_row, sem_row, queue_of, queue_row, dropped_by, proc_of, scope_of, nodes_of, proc_row, at_end, body, table, all_below, count_right, concat_from, late, node_late, task_fault, proc_late, first_late, good, result_of, read_lines}
use Rattle.text.specs.Writer.{queue_vals, proc_vals, scope, text, every, is_zero, slot_empty, task_empty, sem_empty, queue_empty, proc_empty, args_empty, proc_tidy, tidy}
use Rattle.text.proofs.RowLaws.{Faultless, or_left, unless_none, faultless, line_only, Rows, Row, written, Filled, at_or_later, rows_fill}
use Rattle.text.proofs.NodeLaws.{number_fact, absent_is, list_back, FitsIn, FaultlessNode, NoNode, no_line_lem, node_rows, nodes_fill}

-- ---- rows of one line each

-- row i is line i with its values; two rows that keep to `Clean` are told apart by what they write
abbrev line_rows : {A : Type 0} (d : ℕ → Line) → ((i : ℕ) → A → Vals (d i)) → A → (A → Type 0) → Rows A
line_rows d vals empty Clean = record {
  text = λ i a. write (d i) (vals i a);
  empty = empty;
  Fine = λ i a. Faultless (d i) (vals i a) × Clean a;
  Fits = λ a. Unit {0};
  Clean = Clean;
  Next = λ i s. Unit {0};
  next = λ i b s x. tt;
}

-- a row was read that is made of its line's values, where these say the row and back
line_row : {A : Type 0} (d : ℕ → Line) (vals : (i : ℕ) → A → Vals (d i)) (empty : A) (Clean : A → Type 0) (i : ℕ) → Sound (d i) → (made : Vals (d i) → A)
    → ((w : Vals (d i)) → Faultless (d i) w → vals i (made w) ≡ w) → ((w : Vals (d i)) → Clean (made w)) → ((b : A) → Clean b → made (vals i b) ≡ b)
    → (l : ℕ) (s : List ℕ) (a : A) (l' : ℕ) (r : List ℕ) → onto (line (d i) l s) (λ w. give (made w)) ≡ took a l' r → Row (line_rows d vals empty Clean) i s a r
line_row d vals empty Clean i g made back clean forth l s a l' r e = onto_read (line (d i) l s) _ a l' r e (λ w l₁ r₁ p q.
    let m : made w ≡ a = cc q in
    let n : r₁ ≡ r = cc q in
    let b = line_read (d i) l s w l₁ r₁ p in
    let f = faultless (d i) w b.2 in
    rw (← m, ← n) (record {
      fine = (rw (back w f) f, clean w);
      same = λ u. rw (back w f) b.0;
      only = λ u b s' h x y. let o = line_only (d i) g l s w l₁ r₁ p (vals i b) s' y in (sym (forth b h) ∙ ap made o.0, o.1);
    }))

abbrev task_rows : ℕ → Rows Task
task_rows procs = line_rows (task_line procs) (task_vals procs) no_task (λ x. Unit {0})

abbrev sem_rows : Rows Sem
sem_rows = line_rows sem_line sem_vals no_sem (λ x. Unit {0})

abbrev queue_rows : Bool → Rows Queue
queue_rows closed = line_rows (queue_line closed) (queue_vals closed) no_queue (λ x. closed || not x.blank ≡ true)

-- the index is the one due
due_is : (i v : ℕ) → check (due i) v ≡ none → i ≡ v
due_is i v e = let h = number_fact i (i + 1) _ v e in omega arith

task_row_lem : (procs i l : ℕ) (s : List ℕ) (a : Task) (l' : ℕ) (r : List ℕ) → task_row procs i l s ≡ took a l' r → Row (task_rows procs) i s a r
task_row_lem procs i = line_row (task_line procs) _ no_task _ i (task_sound procs i) (task_of procs i)
    (λ w f. ap (λ (j : ℕ). (j, (w.1.0, tt))) (due_is i w.0 f.0)) (λ w. tt) (λ b x. refl)

sem_row_lem : (i l : ℕ) (s : List ℕ) (a : Sem) (l' : ℕ) (r : List ℕ) → sem_row i l s ≡ took a l' r → Row sem_rows i s a r
sem_row_lem i = line_row sem_line _ no_sem _ i (sem_sound i) (sem_of i)
    (λ w f. ap (λ (j : ℕ). (j, (w.1.0, tt))) (due_is i w.0 f.0)) (λ w. tt) (λ b x. refl)

queue_row_lem : (closed : Bool) (i l : ℕ) (s : List ℕ) (a : Queue) (l' : ℕ) (r : List ℕ) → queue_row closed i l s ≡ took a l' r → Row (queue_rows closed) i s a r
queue_row_lem false i = line_row (queue_line false) _ no_queue _ i (queue_sound false i) (queue_of false i)
    (λ w f. ap (λ (j : ℕ). (j, (w.1.0, tt))) (due_is i w.0 f.0)) (λ w. refl)
    (λ b x. ap (λ (y : Bool). record { cap = b.cap; blank = y }) (sym (not-true b.blank x)))
queue_row_lem true i = line_row (queue_line true) _ no_queue _ i (queue_sound true i) (queue_of true i)
    (λ w f. ap (λ (j : ℕ). (j, (w.1.0, (w.1.1.0, tt)))) (due_is i w.0 f.0)) (λ w. refl) (λ b x. refl)

-- ---- procedures

-- a list of m places that is empty behind the first n
all_rest : {A : Type 0} (f : A → Bool) (e z : A) (m n : ℕ) (l : List A) → length l ≡ m → ((j : ℕ) → j < m → f (get_or l j z) ≡ true → get_or l j z ≡ e)
    → every f (drop n l) ≡ true → drop n l ≡ drop n (replicate m e)
unfolding every
all_rest f e z zero zero [] h g q = refl
all_rest f e z zero (suc n) [] h g q = refl
all_rest f e z zero n (x ∷ l) h g q = absurd (omega arith)
all_rest f e z (suc m) n [] h g q = absurd (omega arith)
all_rest f e z (suc m) zero (x ∷ l) h g q =
    rw (g 0 (omega arith) (and_left (f x) (every f l) q), all_rest f e z m zero l (omega arith) (λ j k. g (suc j) (omega arith)) (and_right (f x) (every f l) q))
all_rest f e z (suc m) (suc n) (x ∷ l) h g q = all_rest f e z m n l (omega arith) (λ j k. g (suc j) (omega arith)) q

-- a list of empty places is empty there
rest_all : {A : Type 0} (f : A → Bool) (e : A) → f e ≡ true → (m n : ℕ) → every f (drop n (replicate m e)) ≡ true
unfolding every
rest_all f e h zero zero = refl
rest_all f e h zero (suc n) = refl
rest_all f e h (suc m) zero = rw h (rest_all f e h m zero)
rest_all f e h (suc m) (suc n) = rest_all f e h m n

-- `all_below` is that all pass
pub all_below_lem : (n : ℕ) (f : ℕ → Bool) → ((i : ℕ) → i < n → f i ≡ true) → all_below n f ≡ true
unfolding all_below
all_below_lem zero f h = refl
all_below_lem (suc n) f h = rw (h n (omega arith)) (all_below_lem n f (λ i l. h i (omega arith)))

pub below_all : (n : ℕ) (f : ℕ → Bool) → all_below n f ≡ true → (i : ℕ) → i < n → f i ≡ true
unfolding all_below
below_all zero f e i l = absurd (omega arith)
below_all (suc n) f e i l = by_order i n (below_all n f (and_right (f n) (all_below n f) e) i) (λ u. let p : i ≡ n = omega arith in rw p (and_left (f n) (all_below n f) e))

-- what the node lines of procedure q are judged by
abbrev scope_in : Bool → ℕ → ℕ → ℕ → Proc → Scope
scope_in closed procs sems queues q = record { closed = closed; procs = procs; sems = sems; queues = queues; vars = q.vars; nodes = q.nodes }

abbrev FineNodes : Scope → Proc → Type 0
FineNodes c q = (j : ℕ) → j < q.nodes → FaultlessNode c j (describe c (node_in q j))

abbrev pub FitNodes : Table → Proc → Type 0
FitNodes t q = (j : ℕ) → j < q.nodes → FitsIn t (node_in q j)

-- of the declared type, with nothing behind its nodes, its arguments and an open table's fields
abbrev CleanProc : Bool → Proc → Type 0
CleanProc closed q = (length q.slots ≡ 32) × (q.drop < 2 ^ 32) × (proc_tidy closed q ≡ true) × ((j : ℕ) → (arc_to (node_in q j) < 2 ^ 32) × (arc_no (node_in q j) < 2 ^ 32))

-- a procedure's line is no node line, nor is the text's end
no_proc_lem : (closed : Bool) (i : ℕ) (w : Vals (proc_line closed i)) (a s : List ℕ) → NoNode (write (proc_line closed i) w ++ a ++ s)
unfolding write after
no_proc_lem closed i w a s x e = no (cc)

no_end : NoNode []
unfolding after
no_end x e = no (cc)

abbrev proc_rows : Table → Bool → ℕ → ℕ → ℕ → Rows Proc
proc_rows t closed procs sems queues = record {
  text = λ i q. write (proc_line closed i) (proc_vals closed i q) ++ written (node_rows t (scope_in closed procs sems queues q)) q.slots q.nodes 0;
  empty = outside;
  Fine = λ i q. Faultless (proc_line closed i) (proc_vals closed i q) × (proc_tidy closed q ≡ true) × FineNodes (scope_in closed procs sems queues q) q;
  Fits = FitNodes t;
  Clean = CleanProc closed;
  Next = λ i s. NoNode s;
  next = λ i q s x. no_proc_lem closed i (proc_vals closed i q) _ s;
}

-- a procedure's values, from its line and back
proc_back : (closed : Bool) (i : ℕ) (w : Vals (proc_line closed i)) (L : List Slot) → Faultless (proc_line closed i) w → proc_vals closed i (proc_of closed i w L) ≡ w
proc_back false i w L f = ap (λ (j : ℕ). (j, (w.1.0, (w.1.1.0, (w.1.1.1.0, tt))))) (due_is i w.0 f.0)
proc_back true i w L f =
    let h = number_fact 0 5 _ w.1.0 f.1.0 in
    rw (list_back false 0 w.1.0 w.1.1.1.1.0 (omega arith) f.1.1.1.1.0)
    (ap (λ (j : ℕ). (j, (w.1.0, (w.1.1.0, (w.1.1.1.0, (w.1.1.1.1.0, tt)))))) (due_is i w.0 f.0))

proc_forth : (closed : Bool) (i : ℕ) (q : Proc) (w : Vals (proc_line closed i)) → q.drop < 2 ^ 32 → proc_tidy closed q ≡ true → proc_vals closed i q ≡ w
    → (q.params ≡ w.1.0) × (q.vars ≡ w.1.1.0) × (q.nodes ≡ w.1.1.1.0) × (q.drop ≡ dropped_by closed i w)
proc_forth false i q w h t e = (
  ap (λ (u : Vals (proc_line false i)). u.1.0) e,
  ap (λ (u : Vals (proc_line false i)). u.1.1.0) e,
  ap (λ (u : Vals (proc_line false i)). u.1.1.1.0) e,
  eqb-true q.drop 0 (and_right (all_below q.nodes (λ j. args_empty (node_in q j))) _ (and_right (every slot_empty (drop q.nodes q.slots)) _ t)),
)
proc_forth true i q w h t e = (
  ap (λ (u : Vals (proc_line true i)). u.1.0) e,
  ap (λ (u : Vals (proc_line true i)). u.1.1.0) e,
  ap (λ (u : Vals (proc_line true i)). u.1.1.1.0) e,
  sym (set_members q.drop h) ∙ ap (λ (u : Vals (proc_line true i)). set_of u.1.1.1.1.0) e,
)

slots_rest : (n : ℕ) (l : List Slot) → length l ≡ 32 → every slot_empty (drop n l) ≡ true → drop n l ≡ drop n no_slots
slots_rest n l h e = all_rest slot_empty no_slot no_slot 32 n l h (λ j k q. ap (λ (x : Node). record { node = x }) (absent_is (get_or l j no_slot).node q)) e

no_drop : (closed : Bool) (i : ℕ) (w : Vals (proc_line closed i)) → closed || is_zero (dropped_by closed i w) ≡ true
no_drop false i w = refl
no_drop true i w = refl

-- a clean procedure is known by its line and its node lines
proc_only : (t : Table) (closed : Bool) (procs sems queues i : ℕ) (w : Vals (proc_line closed i)) (L : List Slot) (s r : List ℕ)
    → Filled (node_rows t (scope_of closed procs sems queues i w)) w.1.1.1.0 0 w.1.1.1.0 no_slots L s r → ((j : ℕ) → 0 ≤ j → j < w.1.1.1.0 → FitsIn t (get_or L j no_slot).node)
    → (q : Proc) (s' : List ℕ) → CleanProc closed q → NoNode s' → proc_vals closed i q ≡ w → written (node_rows t (scope_in closed procs sems queues q)) q.slots q.nodes 0 ++ s' ≡ s
    → (q ≡ proc_of closed i w L) × (s' ≡ r)
proc_only t closed procs sems queues i w L s r F g q s' h x v e =
    let d = proc_forth closed i q w h.1 h.2 v in
    let a = all_below q.nodes (λ j. args_empty (node_in q j)) in
    let rest = and_right (every slot_empty (drop q.nodes q.slots)) (a && (closed || is_zero q.drop)) h.2 in
    let args = below_all q.nodes (λ j. args_empty (node_in q j)) (and_left a (closed || is_zero q.drop) rest) in
    let o = F.only g q.slots s' h.0 (λ j k. absurd (omega arith))
    (rw d.2 at (slots_rest q.nodes q.slots h.0 (and_left (every slot_empty (drop q.nodes q.slots)) _ h.2)))
    (λ j k u. (args j (rw d.2 u), (h.3 j).0, (h.3 j).1)) (λ lo n l v l' r y. absurd (no_line_lem _ lo n l s' x v l' r y)) (sym (rw (d.1, d.2) at e)) in
    (λ ι. record { params = d.0 ι; vars = d.1 ι; nodes = d.2 ι; drop = d.3 ι; slots = o.0 ι }, o.1)

-- a procedure was read, its line and its node lines
proc_row_lem : (t : Table) (closed : Bool) (procs sems queues i l : ℕ) (s : List ℕ) (a : Proc) (l' : ℕ) (r : List ℕ) → proc_row closed procs sems queues i l s ≡ took a l' r
    → Row (proc_rows t closed procs sems queues) i s a r
unfolding parts
proc_row_lem t closed procs sems queues i l s a l' r e =
    onto_read (line (proc_line closed i) l s) _ a l' r e (λ w l₁ s₁ p q.
    let c = scope_of closed procs sems queues i w in
    onto_read (nodes_of c closed l₁ s₁) _ a l' r q (λ L l₂ s₂ u v.
    let b = line_read (proc_line closed i) l s w l₁ s₁ p in
    let f = faultless (proc_line closed i) w b.2 in
    let vs = number_fact w.1.0 17 _ w.1.1.0 f.1.1.0 in
    let ns = number_fact 2 33 _ w.1.1.1.0 f.1.1.1.0 in
    let F = nodes_fill t c (omega arith) (omega arith) closed refl l₁ s₁ L l₂ s₂ (omega arith) u in
    let m : proc_of closed i w L ≡ a = cc v in
    let n : s₂ ≡ r = cc v in
    rw (← m, ← n) (record {
      fine = (
        rw (proc_back closed i w L f) f,
        rw (F.later, rest_all slot_empty no_slot refl 32 w.1.1.1.0, all_below_lem w.1.1.1.0 (λ j. args_empty (get_or L j no_slot).node) (λ j k. (F.fine j (omega arith) k).0)) (no_drop closed i w),
        λ j k. (F.fine j (omega arith) k).1,
      );
      same = λ g. b.0 ∙ rw (proc_back closed i w L f, F.same (λ j h k. g j k)) (sym (append_assoc (write (proc_line closed i) w) _ s₂));
      only = λ g x s' h y z.
          let o = line_only (proc_line closed i) (proc_sound closed i) l s w l₁ s₁ p (proc_vals closed i x) _ (z ∙ append_assoc (write (proc_line closed i) (proc_vals closed i x)) _ s') in
          proc_only t closed procs sems queues i w L s₁ s₂ F (λ j h k. g j k) x s' h y o.0 o.1;
    })))

-- ---- tables

-- every call passes as many arguments as its callee has parameters, at most four
abbrev pub Fitting : Table → Type 0
Fitting t = (p : ℕ) → p < t.procs → FitNodes t (proc_at t p)

-- no line of the table has a fault
pub record Lines (t : Table) : Type 0 where
  pub head : Faultless head_line (t.trap, (t.closed, tt))
  pub counts : Faultless counts_line (t.tasks, (t.procs, (t.sems, (t.queues, tt))))
  pub tasks : (i : ℕ) → i < t.tasks → Faultless (task_line t.procs i) (task_vals t.procs i (task_at t i))
  pub sems : (i : ℕ) → i < t.sems → Faultless (sem_line i) (sem_vals i (sem_at t i))
  pub queues : (i : ℕ) → i < t.queues → Faultless (queue_line t.closed i) (queue_vals t.closed i (queue_at t i))
  pub procs : (p : ℕ) → p < t.procs → Faultless (proc_line t.closed p) (proc_vals t.closed p (proc_at t p))
  pub nodes : (p : ℕ) → p < t.procs → (j : ℕ) → j < (proc_at t p).nodes → FaultlessNode (scope t (proc_at t p)) j (describe (scope t (proc_at t p)) (node_at t p j))

-- t was read from s
pub record Parsed (s : List ℕ) (t : Table) : Type 0 where
  pub small : (q : ℕ) → (proc_at t q).params ≤ 4
  pub neat : tidy t ≡ true
  pub lines : Lines t
  pub same : Fitting t → s ≡ text t
  pub only : Fitting t → (b : Table) → Shaped b → tidy b ≡ true → s ≡ text b → b ≡ t

-- the table made of the first two lines and the lists read behind them
abbrev table_of : Vals head_line → Vals counts_line → List Task → List Sem → List Queue → List Proc → Table
table_of h c ts ss qs ps = record {
  trap = h.0;
  closed = h.1.0;
  tasks = c.0;
  procs = c.1.0;
  sems = c.1.1.0;
  queues = c.1.1.1.0;
  task = ts;
  sem = ss;
  queue = qs;
  proc = ps;
}

-- a procedure behind the last is empty
proc_past : (n q : ℕ) (ps : List Proc) → n ≤ q → drop n ps ≡ drop n (replicate 8 no_proc) → (get_or ps q outside).params ≡ 0
proc_past n q ps h e =
    let p : n + (q - n) ≡ q = omega arith in
    let m : get_or ps (n + (q - n)) outside ≡ get_or (replicate 8 no_proc) (n + (q - n)) outside = sym (get_or-drop n ps (q - n) outside) ∙ ap (λ (l : List Proc). get_or l (q - n) outside) e ∙ get_or-drop n (replicate 8 no_proc) (q - n) outside in
    ap (λ (x : Proc). x.params) (rw p at m) ∙ by_order q 8 (λ k. ap (λ (x : Proc). x.params) (get_or-replicate 8 q no_proc outside k)) (λ k. ap (λ (x : Proc). x.params) (get_or-eq_default (replicate 8 no_proc) outside k))

-- the ranges of a procedure's numbers
bounds : (q : Proc) → check (from 0 4) q.params ≡ none → check (from q.params 16) q.vars ≡ none → check (from 2 32) q.nodes ≡ none
    → (q.params ≤ 4) × (q.vars ≤ 16) × (q.nodes ≤ 32)
bounds q a b c =
    let p = number_fact 0 5 _ q.params a in
    let v = number_fact q.params 17 _ q.vars b in
    let n = number_fact 2 33 _ q.nodes c in
    omega arith

pub proc_bounds : (closed : Bool) (i : ℕ) (q : Proc) → Faultless (proc_line closed i) (proc_vals closed i q) → (q.params ≤ 4) × (q.vars ≤ 16) × (q.nodes ≤ 32)
proc_bounds false i q f = bounds q f.1.0 f.1.1.0 f.1.1.1.0
proc_bounds true i q f = bounds q f.1.0 f.1.1.0 f.1.1.1.0

-- what is known of the table's lists by its form and counts, and the text s behind the first two lines
abbrev Behind : Table → Bool → ℕ → ℕ → ℕ → ℕ → List ℕ → Type 0
Behind t closed tasks procs sems queues s =
    (drop tasks t.task ≡ drop tasks (replicate 4 no_task))
    × (drop sems t.sem ≡ drop sems (replicate 8 no_sem))
    × (drop queues t.queue ≡ drop queues (replicate 8 no_queue))
    × (drop procs t.proc ≡ drop procs (replicate 8 no_proc))
    × ((i : ℕ) → i < queues → closed || not (queue_at t i).blank ≡ true)
    × ((p : ℕ) → p < procs → p < 8 → CleanProc closed (proc_at t p))
    × (s ≡ written (task_rows procs) t.task tasks 0 ++ (written sem_rows t.sem sems 0 ++ (written (queue_rows closed) t.queue queues 0 ++ written (proc_rows t closed procs sems queues) t.proc procs 0)))

-- empty places are the ones that are 0
empty_queue : (x : Queue) → queue_empty x ≡ true → x ≡ no_queue
empty_queue x e =
    let a = eqb-true x.cap 0 (and_left (is_zero x.cap) (not x.blank) e) in
    let b = not-true x.blank (and_right (is_zero x.cap) (not x.blank) e) in
    λ ι. record { cap = a ι; blank = b ι }

empty_proc : (x : Proc) → length x.slots ≡ 32 → proc_empty x ≡ true → x ≡ no_proc
empty_proc x h e =
    let e₁ = and_right (is_zero x.params) _ e in
    let e₂ = and_right (is_zero x.vars) _ e₁ in
    let e₃ = and_right (is_zero x.nodes) _ e₂ in
    let a = eqb-true x.params 0 (and_left (is_zero x.params) _ e) in
    let b = eqb-true x.vars 0 (and_left (is_zero x.vars) _ e₁) in
    let c = eqb-true x.nodes 0 (and_left (is_zero x.nodes) _ e₂) in
    let d = eqb-true x.drop 0 (and_left (is_zero x.drop) _ e₃) in
    let f = slots_rest 0 x.slots h (and_right (is_zero x.drop) _ e₃) in
    λ ι. record { params = a ι; vars = b ι; nodes = c ι; drop = d ι; slots = f ι }

-- a tidy table of the declared type has nothing behind its counts
behind : (t : Table) (s : List ℕ) → Shaped t → tidy t ≡ true
    → s ≡ written (task_rows t.procs) t.task t.tasks 0 ++ (written sem_rows t.sem t.sems 0 ++ (written (queue_rows t.closed) t.queue t.queues 0 ++ written (proc_rows t t.closed t.procs t.sems t.queues) t.proc t.procs 0))
    → Behind t t.closed t.tasks t.procs t.sems t.queues s
unfolding tidy
behind t s v w e =
    let tasks = every task_empty (drop t.tasks t.task) in
    let sems = every sem_empty (drop t.sems t.sem) in
    let queues = every queue_empty (drop t.queues t.queue) in
    let procs = every proc_empty (drop t.procs t.proc) in
    let blanks = all_below t.queues (λ i. t.closed || not (queue_at t i).blank) in
    let w₁ = and_right tasks _ w in
    let w₂ = and_right sems _ w₁ in
    let w₃ = and_right queues _ w₂ in
    let w₄ = and_right procs _ w₃ in (
      all_rest task_empty no_task no_task 4 t.tasks t.task v.tasks (λ j k q. ap (λ (n : ℕ). record { top = n }) (eqb-true (task_at t j).top 0 q)) (and_left tasks _ w),
      all_rest sem_empty no_sem no_sem 8 t.sems t.sem v.sems (λ j k q. ap (λ (n : ℕ). record { count = n }) (eqb-true (sem_at t j).count 0 q)) (and_left sems _ w₁),
      all_rest queue_empty no_queue no_queue 8 t.queues t.queue v.queues (λ j k q. empty_queue (queue_at t j) q) (and_left queues _ w₂),
      all_rest proc_empty no_proc outside 8 t.procs t.proc v.procs (λ j k q. empty_proc (proc_at t j) (v.slots j k) q) (and_left procs _ w₃),
      below_all t.queues (λ i. t.closed || not (queue_at t i).blank) (and_left blanks _ w₄),
      λ p k u. (v.slots p u, v.drops p, below_all t.procs (λ p. proc_tidy t.closed (proc_at t p)) (and_right blanks _ w₄) p k, v.arcs p),
      e,
    )

-- the lines, in order, make the table
parsed : (h : Vals head_line) (c : Vals counts_line) (ts : List Task) (ss : List Sem) (qs : List Queue) (ps : List Proc) (l m n : ℕ) (s s₁ s₂ s₃ s₄ s₅ : List ℕ)
    → line head_line l s ≡ took h m s₁ → line counts_line m s₁ ≡ took c n s₂
    → Filled (task_rows c.1.0) c.0 0 c.0 (replicate 4 no_task) ts s₂ s₃
    → Filled sem_rows c.1.1.0 0 c.1.1.0 (replicate 8 no_sem) ss s₃ s₄
    → Filled (queue_rows h.1.0) c.1.1.1.0 0 c.1.1.1.0 (replicate 8 no_queue) qs s₄ s₅
    → Filled (proc_rows (table_of h c ts ss qs ps) h.1.0 c.1.0 c.1.1.0 c.1.1.1.0) c.1.0 0 c.1.0 (replicate 8 no_proc) ps s₅ []
    → Parsed s (table_of h c ts ss qs ps)
unfolding tidy text parts every
parsed h c ts ss qs ps l m n s s₁ s₂ s₃ s₄ s₅ a b T S Q P =
    let x = line_read head_line l s h m s₁ a in
    let y = line_read counts_line m s₁ c n s₂ b in
    let f = faultless head_line h x.2 in
    let g = faultless counts_line c y.2 in
    let few = number_fact 1 9 _ c.1.0 g.1.0 in
    record {
      small = λ q. by_order q c.1.0
          (λ k. (proc_bounds h.1.0 q (get_or ps q outside) (P.fine q (omega arith) k).0).0)
          (λ k. rw (proc_past c.1.0 q ps k P.later) (omega arith));
      neat = rw (
        T.later,
        rest_all task_empty no_task refl 4 c.0,
        S.later,
        rest_all sem_empty no_sem refl 8 c.1.1.0,
        Q.later,
        rest_all queue_empty no_queue refl 8 c.1.1.1.0,
        P.later,
        rest_all proc_empty no_proc refl 8 c.1.0,
        all_below_lem c.1.1.1.0 (λ i. h.1.0 || not (get_or qs i no_queue).blank) (λ i k. (Q.fine i (omega arith) k).1),
        all_below_lem c.1.0 (λ p. proc_tidy h.1.0 (get_or ps p outside)) (λ i k. (P.fine i (omega arith) k).1),
      );
      lines = record {
        head = f;
        counts = g;
        tasks = λ i k. (T.fine i (omega arith) k).0;
        sems = λ i k. (S.fine i (omega arith) k).0;
        queues = λ i k. (Q.fine i (omega arith) k).0;
        procs = λ i k. (P.fine i (omega arith) k).0;
        nodes = λ i k. (P.fine i (omega arith) k).2;
      };
      same = λ u. x.0 ∙ rw (y.0, T.same (λ i j k. tt), S.same (λ i j k. tt), Q.same (λ i j k. tt), P.same (λ i j k. u i k), append-nil);
      only = λ u t v w e.
          let p = line_only head_line head_sound l s h m s₁ a (t.trap, (t.closed, tt)) _ e in
          let q = line_only counts_line counts_sound m s₁ c n s₂ b (t.tasks, (t.procs, (t.sems, (t.queues, tt)))) _ (sym p.1) in
          let trap = ap (λ (i : Vals head_line). i.0) p.0 in
          let closed = ap (λ (i : Vals head_line). i.1.0) p.0 in
          let tasks = ap (λ (i : Vals counts_line). i.0) q.0 in
          let procs = ap (λ (i : Vals counts_line). i.1.0) q.0 in
          let sems = ap (λ (i : Vals counts_line). i.1.1.0) q.0 in
          let queues = ap (λ (i : Vals counts_line). i.1.1.1.0) q.0 in
          let k : Behind t h.1.0 c.0 c.1.0 c.1.1.0 c.1.1.1.0 s₂ = rw (closed, tasks, procs, sems, queues) at (behind t s₂ v w (sym q.1)) in
          let o₁ = T.only (λ i j k. tt) t.task _ v.tasks (λ j k. absurd (omega arith)) k.0 (λ i j k. tt) tt k.6 in
          let o₂ = S.only (λ i j k. tt) t.sem _ v.sems (λ j k. absurd (omega arith)) k.1 (λ i j k. tt) tt (sym o₁.1) in
          let o₃ = Q.only (λ i j k. tt) t.queue _ v.queues (λ j k. absurd (omega arith)) k.2 (λ i j z. k.4 i z) tt (sym o₂.1) in
          let o₄ = P.only (λ i j k. u i k) t.proc [] v.procs (λ j k. absurd (omega arith)) k.3 (λ i j z. k.5 i z (omega arith)) no_end (rw append-nil (sym o₃.1)) in
          λ ι. record { trap = trap ι; closed = closed ι; tasks = tasks ι; procs = procs ι; sems = sems ι; queues = queues ι; task = o₁.0 ι; sem = o₂.0 ι; queue = o₃.0 ι; proc = o₄.0 ι };
    }

-- where something was read up to the end, nothing was left before it
pub end_read : {A P : Type 0} (p : Unit {0} → Parser A) (l : ℕ) (s : List ℕ) (a : A) (l' : ℕ) (r : List ℕ) → onto (at_end l s) p ≡ took a l' r → (s ≡ [] → p tt l [] ≡ took a l' r → P) → P
end_read p l [] a l' r e then = then refl e
end_read p l (b ∷ s) a l' r e then = no (cc)

pub table_parsed : (l : ℕ) (s : List ℕ) (t : Table) (l' : ℕ) (r : List ℕ) → table l s ≡ took t l' r → Parsed s t
unfolding table body
table_parsed l s t l' r e =
    onto_read (line head_line l s) _ t l' r e (λ h l₁ s₁ a e₁.
    onto_read (line counts_line l₁ s₁) _ t l' r e₁ (λ c l₂ s₂ b e₂.
    onto_read (rows (task_row c.1.0) c.0 0 (replicate 4 no_task) l₂ s₂) _ t l' r e₂ (λ ts l₃ s₃ p e₃.
    onto_read (rows sem_row c.1.1.0 0 (replicate 8 no_sem) l₃ s₃) _ t l' r e₃ (λ ss l₄ s₄ q e₄.
    onto_read (rows (queue_row h.1.0) c.1.1.1.0 0 (replicate 8 no_queue) l₄ s₄) _ t l' r e₄ (λ qs l₅ s₅ u e₅.
    onto_read (rows (proc_row h.1.0 c.1.0 c.1.1.0 c.1.1.1.0) c.1.0 0 (replicate 8 no_proc) l₅ s₅) _ t l' r e₅ (λ ps l₆ s₆ v e₆.
    end_read _ l₆ s₆ t l' r e₆ (λ z e₇.
    let x : table_of h c ts ss qs ps ≡ t = cc e₇ in
    let g = faultless counts_line c (line_read counts_line l₁ s₁ c l₂ s₂ b).2 in
    let k = number_fact 1 5 _ c.0 g.0 in
    let m = number_fact 1 9 _ c.1.0 g.1.0 in
    let n = number_fact 0 9 _ c.1.1.0 g.1.1.0 in
    let o = number_fact 0 9 _ c.1.1.1.0 g.1.1.1.0 in
    rw (← x) (parsed h c ts ss qs ps l l₁ l₂ s s₁ s₂ s₃ s₄ s₅ a b
    (rows_fill (task_rows c.1.0) (task_row c.1.0) (task_row_lem c.1.0) c.0 0 c.0 (replicate 4 no_task) l₂ s₂ ts l₃ s₃ (omega arith) (omega arith) p)
    (rows_fill sem_rows sem_row sem_row_lem c.1.1.0 0 c.1.1.0 (replicate 8 no_sem) l₃ s₃ ss l₄ s₄ (omega arith) (omega arith) q)
    (rows_fill (queue_rows h.1.0) (queue_row h.1.0) (queue_row_lem h.1.0) c.1.1.1.0 0 c.1.1.1.0 (replicate 8 no_queue) l₄ s₄ qs l₅ s₅ (omega arith) (omega arith) u)
    (rw z at (rows_fill (proc_rows (table_of h c ts ss qs ps) h.1.0 c.1.0 c.1.1.0 c.1.1.1.0) (proc_row h.1.0 c.1.0 c.1.1.0 c.1.1.1.0)
    (proc_row_lem (table_of h c ts ss qs ps) h.1.0 c.1.0 c.1.1.0 c.1.1.1.0) c.1.0 0 c.1.0 (replicate 8 no_proc) l₅ s₅ ps l₆ s₆ (omega arith) (omega arith) v))))))))))

-- ---- no line has a late fault

abbrev pub AllNone : List (Option Fault) → Type 0
AllNone [] = Unit {0}
AllNone (f ∷ fs) = (f ≡ none) × AllNone fs

none_left : (xs ys : List (Option Fault)) → AllNone (xs ++ ys) → AllNone xs
none_left [] ys h = tt
none_left (x ∷ xs) ys h = (h.0, none_left xs ys h.1)

none_right : (xs ys : List (Option Fault)) → AllNone (xs ++ ys) → AllNone ys
none_right [] ys h = h
none_right (x ∷ xs) ys h = none_right xs ys h.1

none_each : (f : ℕ → List (Option Fault)) (n i : ℕ) → AllNone (concat_from f n i) → (j : ℕ) → i ≤ j → j < i + n → AllNone (f j)
unfolding concat_from
none_each f zero i h j k u = absurd (omega arith)
none_each f (suc n) i h j k u = at_or_later (λ j. AllNone (f j)) i j k (none_left (f i) (concat_from f n (suc i)) h) (λ k. none_each f n (suc i) (none_right (f i) (concat_from f n (suc i)) h) j k (omega arith))

pub good_late : (t u : Table) (l : ℕ) (fs : List (Option Fault)) → first_late t l fs ≡ good u → (t ≡ u) × AllNone fs
unfolding first_late
good_late t u l [] e = (cc e, tt)
good_late t u l (none ∷ fs) e = let r = good_late t u (suc l) fs e in (r.0, (refl, r.1))
good_late t u l (some f ∷ fs) e = no (cc)

count_right_lem : (t : Table) (q : Proc) (x : Node) → AllNone (node_late t q x) → count_right t x ≡ true
unfolding parts
count_right_lem t q x h = cases (is_absent x) (λ e. rw (absent_is x e)) (λ e. let f = (rw e at h).0 in unless_none (count_right t x) _ (or_left (unless (count_right t x) Arguments) _ f))

fitting : (t : Table) → AllNone (late t) → ((q : ℕ) → (proc_at t q).params ≤ 4) → Fitting t
unfolding late
fitting t h small p k j u =
    let f = none_right (concat_from (λ i. task_fault t i ∷ []) t.tasks 0) _ h.1.1 in
    let g = none_right (replicate t.queues none) _ (none_right (replicate t.sems none) _ f) in
    let m = none_each (proc_late t) t.procs 0 g p (omega arith) (omega arith) in
    (count_right_lem t (proc_at t p) (node_at t p j) (none_each (λ n. node_late t (proc_at t p) (node_at t p n)) (proc_at t p).nodes 0 m.1 j (omega arith) (omega arith)), small)

-- an accepted text has a table that was read from it and whose calls fit
pub accepted : (s : List ℕ) (t : Table) → read_lines s ≡ good t → Parsed s t × Fitting t
unfolding read_lines
accepted s t e = go (table 1 s) refl e
  where
    go : (o : Outcome Table) → table 1 s ≡ o → result_of o ≡ good t → Parsed s t × Fitting t
    go (took u l r) q e =
        let g = good_late u t 1 (late u) e in
        let p = table_parsed 1 s u l r q in
        rw (← g.0) (p, fitting u g.1 p.small)
    go (refused f l) q e = no (cc)
