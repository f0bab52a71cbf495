-- The table that the reader makes of a text's lines has, as a hand-made one, the fault that the reader gives to those lines.
use Rattle.std.specs.Prelude.{ℕ, ◌≤◌, ◌<◌, ◌≡◌, refl, List, Bool, true, length}
use Rattle.std.proofs.Common.{sym, ◌∙◌, arith, lt-ltb, le-ltb}
use Rattle.std.proofs.Math.Option.{none}
use Rattle.table.specs.Table.{proc_at, node_in}
use Rattle.table.specs.declared.Proc.{Proc}
use Rattle.table.specs.declared.Table.{Table}
use Rattle.text.specs.Line.{Line, end, field, Vals, took, line_fault}
use Rattle.text.specs.Format.{head_line, counts_line, task_line, sem_line, queue_line, proc_line, Scope, node_line, Described, no_line, described, describe}
use Rattle.text.specs.Reader.{table, late, Result, good, bad, result_of, read_lines, reading, read}
use Rattle.text.specs.Writer.{scope, tidy, fault_in, fault}
use Rattle.text.specs.Structure.{place_fault, last_proc, proc_fault, lines_fault, table_fault}
use Rattle.text.proofs.RightLaws.{else_is}
use Rattle.text.proofs.LinedLaws.{none_first, lines_is}
use Rattle.text.proofs.StructureLaws.{late_fault, fault_is}
use Rattle.text.proofs.RowLaws.{Faultless}
use Rattle.text.proofs.NodeLaws.{FaultlessNode}
use Rattle.text.proofs.TableLaws.{Lines, table_parsed}

-- ---- no line has a fault

pub line_none : (d : Line) (w : Vals d) → Faultless d w → line_fault d w ≡ none
unfolding line_fault
line_none end w f = refl
line_none (field key k next) w f = rw f.0 (line_none (next w.0) w.1 f.1)

place_none : (c : Scope) (is_last : Bool) (q : Proc) (j : ℕ) (d : Described c) → FaultlessNode c j d → place_fault c is_last q j d ≡ none
place_none c is_last q j no_line f = rw (f.1, lt-ltb 0 j f.0)
place_none c is_last q j (described k w) f = line_none (node_line c j _) (j, (k, w)) f

proc_none : (t : Table) → Lines t → (p : ℕ) → p < t.procs → proc_fault t p ≡ none
proc_none t h p l =
    let q = proc_at t p in
    let c = scope t q in
    (else_is _ _).1 (line_none (proc_line t.closed p) _ (h.procs p l), none_first _ q.nodes 0 (λ j k u. place_none c (last_proc t p) q j (describe c (node_in q j)) (h.nodes p l j (omega arith))))

lines_none : (t : Table) → Lines t → lines_fault t ≡ none
lines_none t h = (lines_is t).1 (
  line_none head_line _ h.head,
  line_none counts_line _ h.counts,
  none_first _ t.tasks 0 (λ i l u. line_none (task_line t.procs i) _ (h.tasks i (omega arith))),
  none_first _ t.sems 0 (λ i l u. line_none (sem_line i) _ (h.sems i (omega arith))),
  none_first _ t.queues 0 (λ i l u. line_none (queue_line t.closed i) _ (h.queues i (omega arith))),
  none_first (proc_fault t) t.procs 0 (λ p l u. proc_none t h p (omega arith)),
)

-- ---- the fault

fault_in_lem : (t : Table) (o : Result) → tidy t ≡ true → fault_in t o ≡ (reading o).number
fault_in_lem t (good r) e = rw (e, fault_in)
fault_in_lem t (bad f l) e = refl

-- for every text whose lines, each by itself, have no fault; those after all lines, 6 and 7, are the table's too
pub made_fault : (s : List ℕ) (t : Table) (l : ℕ) (r : List ℕ) → table 1 s ≡ took t l r → fault t ≡ (reading (read_lines s)).number
unfolding read_lines table_fault
made_fault s t l r e =
    let p = table_parsed 1 s t l r e in
    fault_is t ∙ rw (lines_none t p.lines) (sym (late_fault t t 1 (late t))) ∙ fault_in_lem t (result_of (took t l r)) p.neat ∙ rw e

-- so it has that of the text, which is not too long
pub read_made : (s : List ℕ) (t : Table) (l : ℕ) (r : List ℕ) → length s ≤ 65536 → table 1 s ≡ took t l r → fault t ≡ (read s).number
unfolding read
read_made s t l r h e = rw (le-ltb 65536 (length s) h, read) (made_fault s t l r e)
