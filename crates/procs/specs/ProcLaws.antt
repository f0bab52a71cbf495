-- A procedure's line with its node lines, and procedure after procedure.
use Rattle.std.specs.Prelude.{ℕ, zero, suc, ◌+◌, ◌-◌, ◌*◌, ◌≤◌, ◌<◌, ◌≡◌, refl, Bool, List, ◌∷◌, length, drop, set, replicate, Result, Ok, Err}
use Rattle.std.proofs.lemmas.Result.{err_from_is_err_and}
use Rattle.std.proofs.Common.{sym, ◌∙◌, subst, add-one}
use Rattle.std.proofs.Math.Path.{ap}
use native.Mathlib.Omega.{arith}
use Rattle.table.specs.Table.{no_proc}
use Rattle.table.specs.declared.Slot.{Slot}
use Rattle.table.specs.declared.Proc.{Proc}
use Rattle.text.specs.declared.Fault.{Fault}
use Rattle.text.specs.declared.Fault.TheVariants.{Index, Range}
use Rattle.text.specs.Value.{check, number, or_else}
use Rattle.text.specs.Line.{Vals, Outcome, took, refused, Parser, onto, line, line_fault}
use Rattle.text.proofs.LineLaws.{line_read}
use Rattle.text.proofs.RowLaws.{or_left, or_right}
use Rattle.text.proofs.NodeLaws.{number_fact}
use Rattle.text.specs.Format.{Scope as Judged, proc_line, drop_field}
use Rattle.text.specs.Reader.{rows, proc_of as proc_from}
use Rattle.fields.specs.FieldLaws.{onto_got, onto_stop}
use Rattle.records.specs.declared.Counts.{Counts}
use Rattle.records.specs.declared.ProcHead.{ProcHead}
use Rattle.records.specs.Answer.{Counted, head_of, ProcAt, Sized}
use Rattle.nodes.specs.Answer.{Fits}
use Rattle.fields.specs.Answer.{Answer, Fails}
use Rattle.rows.specs.declared.Reached.{Reached}
use Rattle.rows.specs.declared.Refusal.{Refusal}
use Rattle.rows.specs.Rows.{Lines, LinesAt}
use Rattle.procs.specs.Answer.{slots_in, SlotsAt, proc_of, row_in}

abbrev scope_for : Bool → Counts → ProcHead → Judged
scope_for closed x h = record { closed = closed; procs = x.procs; sems = x.sems; queues = x.queues; vars = h.vars; nodes = h.nodes }

module _ {closed : Bool} {i : ℕ} {s : List ℕ} {at : ℕ} {h : ProcHead} {e : ℕ} (m : ProcAt closed i s at (Ok (h, e))) where
  pub head_within : e ≤ length s
  head_within = m.is.within

  pub scope_fits : {x : Counts} → Counted x → Fits (record { closed = closed; procs = x.procs; sems = x.sems; queues = x.queues; vars = h.vars; nodes = h.nodes })
  scope_fits c =
      let f : Sized h.params h.vars h.nodes = m.fits in
      record { procs = omega (arith, c.procs); sems = omega (arith, c.sems); queues = omega (arith, c.queues); vars = omega (arith, f.vars); nodes = omega (arith, f.nodes) }

  head_took : (l : ℕ) → (w : Vals (proc_line closed i)) × (line (proc_line closed i) l (drop at s) ≡ took w (suc l) (drop e s)) × (head_of closed i w ≡ h)
  head_took l = onto_got (line (proc_line closed i) l (drop at s)) (head_of closed i) {b = h} {l = suc l} {s = drop e s} (sym (m.is.same l))

  -- "n 2 to 32"
  pub head_nodes : 0 < h.nodes
  unfolding line_fault
  head_nodes =
      let t = head_took 0 in
      let w = t.0 in
      let f = (line_read (proc_line closed i) 0 (drop at s) w 1 (drop e s) t.1).2 in
      let a = check (number i (i + 1) Index) w.0 in
      let b = check (number 0 5 Range) w.1.0 in
      let c = check (number w.1.0 17 Range) w.1.1.0 in
      let n = check (number 2 33 Range) w.1.1.1.0 in
      let z = line_fault (drop_field closed w.1.0) w.1.1.1.1 in
      let g = or_left n z (or_right c (or_else n z) (or_right b (or_else c (or_else n z)) (or_right a (or_else b (or_else c (or_else n z))) f))) in
      let k : 2 ≤ w.1.1.1.0 = (number_fact 2 33 Range w.1.1.1.0 g).0 in
      let d : w.1.1.1.0 ≡ h.nodes = ap (λ (y : ProcHead). y.nodes) t.2 in
      omega arith

  module _ (x : Counts) (l : ℕ) {ns : List Slot} where
    -- what the node lines give, the procedure is
    row_same : {r : Result Reached Refusal} → SlotsAt (scope_for closed x h) closed s e (l + 1) ns r
        → onto (slots_in s ns r) (λ v k t. took (proc_of h v) k t) ≡ row_in closed x i l (drop at s)
    row_same {r} u =
        let t = head_took l in
        subst (λ (h : ProcHead). SlotsAt (scope_for closed x h) closed s e (l + 1) ns r → onto (slots_in s ns r) (λ v k t. took (proc_of h v) k t) ≡ row_in closed x i l (drop at s)) t.2
        (λ u. rw t.1 (ap (λ (o : Outcome (List Slot)). onto o (λ v k r. took (proc_from closed i t.0 v) k r)) (rw (add-one l) at u.same))) u

    pub row_is : {a : Reached} → SlotsAt (scope_for closed x h) closed s e (l + 1) ns (Ok a) → LinesAt (row_in closed x i) 33 s at l (Ok (proc_of h ns, a))
    row_is u = record { same = row_same u; within = u.within; lines = let k = u.lines in omega arith }

    pub row_stop : {y : Refusal} → SlotsAt (scope_for closed x h) closed s e (l + 1) ns (Err y) → {r : Lines Proc} → Fails r y → LinesAt (row_in closed x i) 33 s at l r
    row_stop u {r} d = let p = err_from_is_err_and r d in rw (p.1, p.2) (record { same = row_same u; within = tt; lines = let k = u.lines in omega arith })

pub row_refused : {closed : Bool} (x : Counts) {i : ℕ} {s : List ℕ} {at l : ℕ} {r : Answer ProcHead} → ProcAt closed i s at r
    → {a : Lines Proc} → (f : Fault) × (r ≡ Err f) × (a ≡ Err (record { fault = f; line = l })) → LinesAt (row_in closed x i) 33 s at l a
row_refused {closed} x {i} {s} {at} {l} m q =
    rw q.2 (record { same = rw (onto_stop (line (proc_line closed i) l (drop at s)) (head_of closed i) {f = q.0} {l = l} (sym (m.is.same l) ∙ rw q.1)); within = tt; lines = omega arith })

-- ---- procedure after procedure
pub record Procing (closed : Bool) (x : Counts) (s : List ℕ) (at line : ℕ) (acc : List Proc) (p l i : ℕ) : Type 0 where
  pub same : rows (row_in closed x) (x.procs - i) i acc l (drop p s) ≡ rows (row_in closed x) x.procs 0 (replicate 8 no_proc) line (drop at s)
  pub place : p ≤ length s
  pub lines : l ≤ line + 33 * i

pub procs_start : {closed : Bool} {x : Counts} {s : List ℕ} {at line : ℕ} {q : Proc} → q ≡ no_proc → at ≤ length s → Procing closed x s at line (replicate 8 q) at line 0
procs_start {x = x} d h = let e : x.procs - 0 ≡ x.procs = omega arith in rw d (record { same = rw e refl; place = h; lines = omega arith })

module _ {A : Type 0} (f : ℕ → Parser A) (acc : List A) {n i : ℕ} {s : List ℕ} {p l : ℕ} {o : Outcome (List A)} (m : rows f (n - i) i acc l (drop p s) ≡ o) (h : i < n) {most : ℕ} where
  rows_more : {a : A} {e : Reached} → LinesAt (f i) most s p l (Ok (a, e)) → rows f (n - (i + 1)) (i + 1) (set acc i a) e.line (drop e.at s) ≡ o
  unfolding rows
  rows_more u = let q : n - i ≡ suc (n - suc i) = omega arith in rw (add-one i) (rw (q, ← u.same) at m)

  rows_less : {x : Refusal} → LinesAt (f i) most s p l (Err x) → o ≡ refused x.fault x.line
  unfolding rows
  rows_less u = let q : n - i ≡ suc (n - suc i) = omega arith in sym (rw (q, ← u.same) at m)

module _ {closed : Bool} {x : Counts} {s : List ℕ} {at line : ℕ} {acc : List Proc} {p l i : ℕ} (o : Procing closed x s at line acc p l i) where
  pub procs_turn : i < x.procs → {q : Proc} {a : Reached} → LinesAt (row_in closed x i) 33 s p l (Ok (q, a)) → Procing closed x s at line (set acc i q) a.at a.line (i + 1)
  procs_turn h m = record { same = rows_more (row_in closed x) acc o.same h m; place = m.within; lines = let k = m.lines in omega (arith, o.lines) }

  pub procs_stop : i < x.procs → {y : Refusal} → LinesAt (row_in closed x i) 33 s p l (Err y) → rows (row_in closed x) x.procs 0 (replicate 8 no_proc) line (drop at s) ≡ refused y.fault y.line
  procs_stop h m = rows_less (row_in closed x) acc o.same h m

  pub procs_end : x.procs ≤ i → rows (row_in closed x) x.procs 0 (replicate 8 no_proc) line (drop at s) ≡ took acc l (drop p s)
  unfolding rows
  procs_end h = let q : x.procs - i ≡ 0 = omega arith in sym (rw q at o.same)

-- ---- places all 0
pub set_blank : {A : Type 0} (n i : ℕ) (a : A) → set (replicate n a) i a ≡ replicate n a
set_blank zero i a = refl
set_blank (suc n) zero a = refl
set_blank {A} (suc n) (suc i) a = ap (λ (l : List A). a ∷ l) (set_blank n i a)
