-- The lines of a text, one group behind the other.
use Rattle.std.specs.Prelude.{ℕ, zero, suc, ◌+◌, ◌*◌, ◌≤◌, ◌<◌, ◌≡◌, List, [], ◌∷◌, map, Bool, false, length, set, replicate, Result, Ok, Err}
use Rattle.std.proofs.lemmas.Result.{err_from_is_err_and}
use Rattle.std.proofs.Math.Path.{refl}
use Rattle.std.proofs.Common.{sym, ◌∙◌, ap, subst, arith, lt-ltb, le-ltb, drop_of_length-le, drop-cons}
use Rattle.std.proofs.Math.ListN.{drop}
use Rattle.table.specs.Table.{no_table, no_slot, no_task, no_sem, no_queue, no_proc, outside, proc_at}
use Rattle.table.specs.declared.Proc.{Proc}
use Rattle.table.specs.declared.Slot.{Slot}
use Rattle.table.specs.declared.Table.{Table}
use Rattle.text.specs.declared.Fault.{Fault}
use Rattle.text.specs.declared.Fault.TheVariants.{Long, Ended}
use Rattle.text.specs.declared.Reading.{Reading}
use Rattle.text.specs.Fault.{number}
use Rattle.text.specs.Line.{Vals, took, onto, give, line}
use Rattle.text.proofs.LineLaws.{onto_read, line_read}
use Rattle.text.proofs.RowLaws.{Rows, Row, faultless, rows_fill}
use Rattle.text.proofs.NodeLaws.{number_fact}
use Rattle.text.specs.Format.{head_line, counts_line, proc_line}
use Rattle.text.specs.Reader.{rows, task_row, sem_row, queue_row, nodes_of, scope_of, proc_of, proc_row, body, table, proc_late, late, first_late, Result as Verdict, good, bad, read_lines, reading, read}
use Rattle.fields.specs.Answer.{Answer, LineAt, Fails}
use Rattle.table.specs.declared.Task.{Task}
use Rattle.table.specs.declared.Sem.{Sem}
use Rattle.table.specs.declared.Queue.{Queue}
use Rattle.fields.specs.FieldLaws.{onto_onto, onto_got, onto_stop}
use Rattle.records.specs.declared.Counts.{Counts}
use Rattle.records.specs.Answer.{form_of, counts_of, Counted, CountsAt}
use Rattle.rows.specs.declared.Reached.{Reached}
use Rattle.rows.specs.declared.Refusal.{Refusal}
use Rattle.rows.specs.Rows.{Lines, LinesAt}
use Rattle.procs.specs.Answer.{row_in}
use Rattle.procs.specs.ProcLaws.{set_blank, Procing, procs_start, procs_turn, procs_stop, procs_end}
use Rattle.late_nodes.specs.declared.Callee.{Callee}
use Rattle.late_nodes.specs.declared.Terms.{Terms}
use Rattle.late_nodes.specs.Terms.{no_callee, callee_of, terms_of}
use Rattle.late_lines.specs.declared.At.{At as LateAt}
use Rattle.late_lines.specs.Places.{tasks_late_by, proc_late_by, first_at}
use Rattle.late_lines.specs.Walks.{Walked, walked_none, walked_more, walked_found, walked_all}
use Rattle.late.specs.Late.{Counted as Few}
use Rattle.late.specs.Walks.{tasks_late, procs_late, tasks_of, proc_of_lem, tasks_late_lem, procs_late_lem, late_found, late_none}
use Rattle.reader.specs.declared.Objects.{Objects}
use Rattle.reader.specs.declared.Front.{Front}
use Rattle.reader.specs.Answer.{lists, queue_rows, sem_rows, object_rows, answered, body_in, others, table_with, FrontAt}

-- ---- a table all 0
pub blank_is : (i : ℕ) {t : Table} → t ≡ no_table → ◌≡◌ {A = Table} (record {
  trap = t.trap;
  closed = t.closed;
  tasks = t.tasks;
  procs = t.procs;
  sems = t.sems;
  queues = t.queues;
  task = set t.task i no_task;
  sem = t.sem;
  queue = t.queue;
  proc = t.proc;
}) no_table
blank_is i p = rw p (λ ι. record {
  trap = 0;
  closed = false;
  tasks = 0;
  procs = 0;
  sems = 0;
  queues = 0;
  task = set_blank 4 i no_task ι;
  sem = replicate 8 no_sem;
  queue = replicate 8 no_queue;
  proc = replicate 8 no_proc;
})

-- made of the slots l
abbrev pub blank_with : List Slot → Table
blank_with l = record {
  trap = 0;
  closed = false;
  tasks = 0;
  procs = 0;
  sems = 0;
  queues = 0;
  task = replicate 4 no_task;
  sem = replicate 8 no_sem;
  queue = replicate 8 no_queue;
  proc = replicate 8 (record { params = 0; vars = 0; nodes = 0; drop = 0; slots = l });
}

-- slots that are stored into
pub blank_made : (j : ℕ) → blank_with (set (replicate 32 no_slot) j no_slot) ≡ no_table
blank_made j = ap blank_with (set_blank 32 j no_slot)

-- ---- tasks, semaphores and queues
module _ (closed : Bool) (x : Counts) {s : List ℕ} {at line : ℕ} where
  pub tasks_stop : {y : Refusal} → LinesAt (rows (task_row x.procs) x.tasks 0 (replicate 4 no_task)) 4 s at line (Err y)
      → {r : Lines Objects} → Fails r y → LinesAt (object_rows closed x) 20 s at line r
  tasks_stop m {r} d = let p = err_from_is_err_and r d in rw (p.1, p.2) (record { same = rw (← m.same); within = tt; lines = let k = m.lines in omega arith })

  module _ {ts : List Task} {a : Reached} (m : LinesAt (rows (task_row x.procs) x.tasks 0 (replicate 4 no_task)) 4 s at line (Ok (ts, a))) where
    pub sems_stop : {y : Refusal} → LinesAt (rows sem_row x.sems 0 (replicate 8 no_sem)) 8 s a.at a.line (Err y)
        → {r : Lines Objects} → Fails r y → LinesAt (object_rows closed x) 20 s at line r
    sems_stop n {r} d =
        let p = err_from_is_err_and r d in
        rw (p.1, p.2) (record { same = rw (← m.same, ← n.same); within = tt; lines = let k = m.lines in let j = n.lines in omega arith })

    module _ {ss : List Sem} {b : Reached} (n : LinesAt (rows sem_row x.sems 0 (replicate 8 no_sem)) 8 s a.at a.line (Ok (ss, b))) where
      pub queues_stop : {y : Refusal} → LinesAt (rows (queue_row closed) x.queues 0 (replicate 8 no_queue)) 8 s b.at b.line (Err y)
          → {r : Lines Objects} → Fails r y → LinesAt (object_rows closed x) 20 s at line r
      queues_stop o {r} d =
          let p = err_from_is_err_and r d in
          rw (p.1, p.2) (record { same = rw (← m.same, ← n.same, ← o.same); within = tt; lines = let k = m.lines in let j = n.lines in let i = o.lines in omega arith })

      pub objects_end : {qs : List Queue} {e : Reached} → LinesAt (rows (queue_row closed) x.queues 0 (replicate 8 no_queue)) 8 s b.at b.line (Ok (qs, e))
          → LinesAt (object_rows closed x) 20 s at line (Ok (lists ts ss qs, e))
      objects_end o = record { same = rw (← m.same, ← n.same, ← o.same); within = o.within; lines = let k = m.lines in let j = n.lines in let i = o.lines in omega arith }

-- ---- the lines behind the first two

body_parts : (trap : ℕ) (closed : Bool) (x : Counts) (l : ℕ) (t : List ℕ)
    → onto (object_rows closed x l t) (others trap closed x) ≡ body trap closed x.tasks x.procs x.sems x.queues l t
unfolding body
body_parts trap closed x l t =
    let g = others trap closed x in
    onto_onto (rows (task_row x.procs) x.tasks 0 (replicate 4 no_task) l t) (sem_rows closed x) g
    ∙ (λ ι. onto (rows (task_row x.procs) x.tasks 0 (replicate 4 no_task) l t) (λ ts l₁ t₁.
    (onto_onto (rows sem_row x.sems 0 (replicate 8 no_sem) l₁ t₁) (queue_rows closed x ts) g
    ∙ (λ κ. onto (rows sem_row x.sems 0 (replicate 8 no_sem) l₁ t₁) (λ ss l₂ t₂.
    onto_onto (rows (queue_row closed) x.queues 0 (replicate 8 no_queue) l₂ t₂) (λ qs. give (lists ts ss qs)) g κ))) ι))

-- "n 2 to 32"
abbrev small : Rows Proc
small = record {
  text = λ i a. [];
  empty = outside;
  Fine = λ i a. a.nodes ≤ 32;
  Fits = λ a. ⊥;
  Clean = λ a. Unit {0};
  Next = λ i s. Unit {0};
  next = λ i b s n. tt;
}

small_row : (closed : Bool) (procs sems queues : ℕ) (i l : ℕ) (s : List ℕ) (a : Proc) (l' : ℕ) (r : List ℕ) → proc_row closed procs sems queues i l s ≡ took a l' r → Row small i s a r
small_row closed procs sems queues i l s a l' r e = record {
  fine =
      onto_read (line (proc_line closed i) l s) _ a l' r e (λ w l₁ s₁ q e₁.
      onto_read (nodes_of (scope_of closed procs sems queues i w) closed l₁ s₁) _ a l' r e₁ (λ L l₂ s₂ u e₂.
      let p : proc_of closed i w L ≡ a = cc e₂ in
      let f = faultless (proc_line closed i) w (line_read (proc_line closed i) l s w l₁ s₁ q).2 in
      let n : w.1.1.1.0 < 33 = (number_fact 2 33 _ w.1.1.1.0 f.1.1.1.0).1 in
      rw (← p) (omega arith)));
  same = λ h. absurd h;
  only = λ h. absurd h;
}

module _ (trap : ℕ) (closed : Bool) (x : Counts) {s : List ℕ} {at : ℕ} where
  body_stop : {y : Refusal} → LinesAt (object_rows closed x) 20 s at 3 (Err y) → reading (bad y.fault y.line) ≡ answered (body_in trap closed x (drop at s))
  body_stop m = rw (← body_parts trap closed x 3 (drop at s), ← m.same)

  body_go : {o : Objects} {e : Reached} → LinesAt (object_rows closed x) 20 s at 3 (Ok (o, e))
      → answered (others trap closed x o e.line (drop e.at s)) ≡ answered (body_in trap closed x (drop at s))
  body_go m = rw (← body_parts trap closed x 3 (drop at s), ← m.same)

-- ---- what stands before the procedures
table_is : (s : List ℕ) (a b : ℕ) {w : Vals head_line} → line head_line 1 s ≡ took w 2 (drop a s) → {v : Vals counts_line} → line counts_line 2 (drop a s) ≡ took v 3 (drop b s)
    → answered (body_in w.0 w.1.0 (counts_of v) (drop b s)) ≡ answered (table 1 s)
unfolding table
table_is s a b p q = rw (p, q)

front_refused : {s : List ℕ} {a : Reading} {y : Refusal} → reading (bad y.fault y.line) ≡ a → {r : Lines Front} → r ≡ Err y → FrontAt s a r
front_refused e d = rw d (record { same = e; within = tt; lines = tt; fit = tt })

module _ {s : List ℕ} {k : Answer (ℕ × Bool)} (m : LineAt head_line form_of s 0 k) where
  pub head_stop : {r : Lines Front} → (f : Fault) × (k ≡ Err f) × (r ≡ Err (record { fault = f; line = 1 })) → FrontAt s (answered (table 1 s)) r
  unfolding table
  head_stop q = front_refused (rw (onto_stop (line head_line 1 s) form_of {f = q.0} {l = 1} (sym (m.same 1) ∙ rw q.1))) q.2

  module _ {n : ℕ} {c : Bool} {a : ℕ} (q : k ≡ Ok ((n, c), a)) where
    pub head_place : a ≤ length s
    head_place = rw q at m.within

    head_got : (w : Vals head_line) × (line head_line 1 s ≡ took w 2 (drop a s)) × (form_of w ≡ (n, c))
    head_got = onto_got (line head_line 1 s) form_of {b = (n, c)} {l = 2} {s = drop a s} (sym (m.same 1) ∙ rw q)

    module _ {j : Answer Counts} (o : CountsAt counts_line counts_of s a j) where
      pub counts_stop : {r : Lines Front} → (f : Fault) × (j ≡ Err f) × (r ≡ Err (record { fault = f; line = 2 })) → FrontAt s (answered (table 1 s)) r
      unfolding table
      counts_stop p =
          let w = head_got in
          front_refused (rw (w.1, onto_stop (line counts_line 2 (drop a s)) counts_of {f = p.0} {l = 2} (sym (o.is.same 2) ∙ rw p.1))) p.2

      module _ {x : Counts} {b : ℕ} (p : j ≡ Ok (x, b)) where
        pub counts_place : b ≤ length s
        counts_place = rw p at o.is.within

        pub counts_fit : Counted x
        counts_fit = rw p at o.fit

        table_go : answered (body_in n c x (drop b s)) ≡ answered (table 1 s)
        table_go =
            let w = head_got in
            let t = onto_got (line counts_line 2 (drop a s)) counts_of {b = x} {l = 3} {s = drop b s} (sym (o.is.same 2) ∙ rw p) in
            ap (λ (y : ℕ × Bool). answered (body_in y.0 y.1 x (drop b s))) (sym w.2) ∙ ap (λ (y : Counts). answered (body_in w.0.0 w.0.1.0 y (drop b s))) (sym t.2) ∙ table_is s a b w.1 t.1

        pub front_stop : {y : Refusal} → LinesAt (object_rows c x) 20 s b 3 (Err y) → {r : Lines Front} → Fails r y → FrontAt s (answered (table 1 s)) r
        front_stop u {r} d = let z = err_from_is_err_and r d in front_refused (body_stop n c x u ∙ table_go) (rw (z.1, z.2))

        pub front_end : {z : Objects} {e : Reached} → LinesAt (object_rows c x) 20 s b 3 (Ok (z, e))
            → FrontAt s (answered (table 1 s)) (Ok (record { trap = n; closed = c; counts = x; objects = z }, e))
        front_end u = record { same = body_go n c x u ∙ table_go; within = u.within; lines = u.lines; fit = counts_fit }

pub front_long : (s : List ℕ) → 65536 < length s → FrontAt s (read s) (Err (record { fault = Long; line = 0 }))
unfolding read
front_long s h = front_refused (rw (lt-ltb 65536 (length s) h, read)) refl

pub front_lines : (s : List ℕ) → length s ≤ 65536 → {o : Lines Front} → FrontAt s (answered (table 1 s)) o → FrontAt s (read s) o
unfolding read read_lines
front_lines s h m = rw (le-ltb 65536 (length s) h, read, read_lines) m

-- ---- the answer
pub refused_is : (f : Fault) {l n : ℕ} {t : Table} → n ≡ number f → t ≡ no_table → ◌≡◌ {A = Reading} (record { number = n; line = l; table = t }) (reading (bad f l))
refused_is f {l} p q = λ ι. record { number = p ι; line = l; table = q ι }

map_set : {A B : Type 0} (f : A → B) (l : List A) (i : ℕ) (x : A) → set (map f l) i (f x) ≡ map f (set l i x)
map_set f [] i x = refl
map_set f (y ∷ l) zero x = refl
map_set f (y ∷ l) (suc i) x = ap (λ (k : List _). f y ∷ k) (map_set f l i x)

-- the table as far as it is filled and what calls are judged by, with the place, the line and the procedure reached
pub record Filled (s : List ℕ) (o : Front) (at line : ℕ) (t : Table) (c : List Callee) (p l i : ℕ) : Type 0 where
  pub table : t ≡ table_with o t.proc
  pub callees : c ≡ map callee_of t.proc
  pub procs : Procing o.closed o.counts s at line t.proc p l i

-- the terms of a table by what stands before its procedures
abbrev terms_with : Front → List Callee → Terms
terms_with o c = record { closed = o.closed; callee = c; queue = o.objects.queue }

-- all lines are read, and the tasks have no late fault: nor have the first i of n procedures, whose lines go from k to l
pub record Judging (a : Reading) (t : Table) (n : ℕ) (c : Terms) (k l i : ℕ) : Type 0 where
  pub terms : c ≡ terms_of t
  pub few : Few t
  pub count : n ≡ t.procs
  pub first : {b : Result ℕ LateAt} → b ≡ first_at k (procs_late t) → b ≡ first_at 1 (late t)
  pub found : (z : Verdict) → z ≡ first_late t 1 (late t) → reading z ≡ a
  pub walked : Walked (proc_late t) t.procs k l i
  pub lines : l ≤ 23 + 33 * i

pub read_front : {s : List ℕ} {a : Reading} {y : Refusal} → FrontAt s a (Err y) → {b : Reading} → b ≡ reading (bad y.fault y.line) → b ≡ a
read_front m e = e ∙ m.same

module _ {s : List ℕ} {a : Reading} {o : Front} {start : Reached} (m : FrontAt s a (Ok (o, start))) where
  pub filled_start : {z : Proc} → z ≡ no_proc → Filled s o start.at start.line (table_with o (replicate 8 z)) (replicate 8 no_callee) start.at start.line 0
  filled_start z = record { table = refl; callees = rw z; procs = procs_start z m.within }

  module _ {t : Table} {c : List Callee} {k l i : ℕ} (w : Filled s o start.at start.line t c k l i) where
    pub read_row : i < o.counts.procs → {y : Refusal} → LinesAt (row_in o.closed o.counts i) 33 s k l (Err y) → {b : Reading} → b ≡ reading (bad y.fault y.line) → b ≡ a
    read_row h x e = e ∙ rw (procs_stop w.procs h x) at m.same

    module _ (h : o.counts.procs ≤ i) where
      rows_all : rows (proc_row o.closed o.counts.procs o.counts.sems o.counts.queues) o.counts.procs 0 (replicate 8 no_proc) start.line (drop start.at s) ≡ took t.proc l (drop k s)
      rows_all = procs_end w.procs h

      pub read_more : k < length s → {b : Reading} → b ≡ reading (bad Ended l) → b ≡ a
      read_more v e = e ∙ rw (rows_all, drop-cons s k 0 v) at m.same

      -- the counts of a table that was read are in range
      few : Few t
      few =
          let x : Counted o.counts = m.fit in
          let f = rows_fill small (proc_row o.closed o.counts.procs o.counts.sems o.counts.queues) (small_row o.closed o.counts.procs o.counts.sems o.counts.queues) o.counts.procs 0 o.counts.procs (replicate 8 no_proc) start.line (drop start.at s) t.proc l (drop k s) (omega arith) (omega (arith, x.procs)) rows_all in
          subst (λ (x : Table). Few x) (sym w.table) (record { tasks = omega (arith, x.tasks); procs = omega (arith, x.procs); nodes = λ i k. f.fine i (omega arith) k })

      -- the text ends there, and the tasks are judged first
      module _ (v : length s ≤ k) {r : Result ℕ LateAt} (g : r ≡ first_at 3 (tasks_late_by (terms_with o c) o.objects.task o.counts.tasks)) where
        found : (z : Verdict) → z ≡ first_late t 1 (late t) → reading z ≡ a
        found z u = ap reading u ∙ ap (λ (y : Table). reading (first_late y 1 (late y))) w.table ∙ rw (rows_all, drop_of_length-le s v) at m.same

        terms : terms_with o c ≡ terms_of t
        terms = ap (terms_with o) w.callees ∙ sym (ap terms_of w.table)

        tasks : r ≡ first_at 3 (tasks_late t)
        tasks = tasks_of t terms (g ∙ ap (λ (y : Table). first_at 3 (tasks_late_by (terms_with o c) y.task y.tasks)) (sym w.table))

        pub read_task : {b : LateAt} → r ≡ Err b → {d : Reading} → d ≡ reading (bad b.fault b.line) → d ≡ a
        read_task {b} q e = e ∙ found (bad b.fault b.line) (late_found t (tasks_late_lem t (sym q ∙ tasks)))

        pub judging_start : {j : ℕ} → r ≡ Ok j → j ≤ 7 → Judging a t o.counts.procs (terms_with o c) (j + o.counts.sems + o.counts.queues) (j + o.counts.sems + o.counts.queues) 0
        judging_start {j} q n = record {
          terms = terms;
          few = few;
          count = sym (ap (λ (y : Table). y.procs) w.table);
          first = λ e. procs_late_lem t (sym q ∙ tasks) (e ∙ ap (λ (y : Table). first_at (j + y.sems + y.queues) (procs_late t)) (sym w.table));
          found = found;
          walked = walked_none (proc_late t) t.procs _;
          lines = let f : Counted o.counts = m.fit in omega (arith, f.sems, f.queues);
        }

-- ---- the procedures are judged
module _ {a : Reading} {t : Table} {n : ℕ} {c : Terms} {k l i : ℕ} (j : Judging a t n c k l i) where
  pub judging_fits : i < n → ((proc_at t i).nodes ≤ 32) × (l ≤ 3000)
  judging_fits h = (j.few.nodes i (omega (arith, j.count)), omega (arith, j.lines, j.few.procs, j.count))

  module _ (h : i < n) {r : Result ℕ LateAt} (e : r ≡ first_at l (proc_late_by c (proc_at t i))) where
    judged : r ≡ first_at l (proc_late t i)
    judged = proc_of_lem t i l j.terms e

    pub judging_stop : {b : LateAt} → r ≡ Err b → {d : Reading} → d ≡ reading (bad b.fault b.line) → d ≡ a
    judging_stop {b} q u = u ∙ j.found (bad b.fault b.line) (late_found t (j.first (walked_found _ _ _ _ _ j.walked (omega (arith, j.count)) (sym q ∙ judged))))

    pub judging_next : {y : ℕ} → r ≡ Ok y → y ≤ l + 33 → Judging a t n c k y (i + 1)
    judging_next q u = record {
      terms = j.terms;
      few = j.few;
      count = j.count;
      first = j.first;
      found = j.found;
      walked = walked_more _ _ _ _ _ j.walked (omega (arith, j.count)) (sym q ∙ judged);
      lines = omega (arith, j.lines);
    }

  pub judging_end : n ≤ i → ◌≡◌ {A = Reading} (record { number = 0; line = 0; table = t }) a
  judging_end h = j.found (good t) (late_none t (j.first (walked_all _ _ _ _ _ j.walked (omega (arith, j.count)))))

pub filled_turn : {s : List ℕ} {o : Front} {at line : ℕ} {t : Table} {c : List Callee} {p l i : ℕ} → Filled s o at line t c p l i → i < o.counts.procs
    → {q : Proc} {e : Reached} → LinesAt (row_in o.closed o.counts i) 33 s p l (Ok (q, e))
    → Filled s o at line (record {
      trap = t.trap;
      closed = t.closed;
      tasks = t.tasks;
      procs = t.procs;
      sems = t.sems;
      queues = t.queues;
      task = t.task;
      sem = t.sem;
      queue = t.queue;
      proc = set t.proc i q;
    }) (set c i (callee_of q)) e.at e.line (i + 1)
filled_turn {t = t} {i = i} w h {q} x = record {
  table = ap (λ (x : Table). let y : Table = record {
    trap = x.trap;
    closed = x.closed;
    tasks = x.tasks;
    procs = x.procs;
    sems = x.sems;
    queues = x.queues;
    task = x.task;
    sem = x.sem;
    queue = x.queue;
    proc = set t.proc i q;
  } in y) w.table;
  callees = ap (λ (y : List Callee). set y i (callee_of q)) w.callees ∙ map_set callee_of t.proc i q;
  procs = procs_turn w.procs h x;
}
