-- What is written procedure by procedure is the closed table's text.
use Rattle.std.specs.Prelude.{ℕ, ◌+◌, ◌<◌, ◌≤◌, ◌≡◌, true, false, List}
use Rattle.std.proofs.Common.{arith, sym, ◌∙◌}
use Rattle.std.proofs.Math.Path.{ap}
use Rattle.table.specs.Table.{proc_at}
use Rattle.table.specs.declared.Queue.{Queue}
use Rattle.table.specs.declared.Proc.{Proc}
use Rattle.table.specs.declared.Table.{Table}
use Rattle.text.specs.Writer.{text, fault}
use Rattle.table.specs.Shape.{Shaped}
use Rattle.closing.specs.Close.{closed_with, close_table}
use Rattle.closing.proofs.CloseLaws.{close_proc}
use Rattle.closing.proofs.ClosedValid.{closed_fault}
use Rattle.masks.specs.Cells.{cell}
use Rattle.analysis.specs.Ready.{Ready}
use Rattle.analysis.specs.ReadyLaws.{ready}
use Rattle.analysis.specs.Decides.{Decides}
use Rattle.closer.specs.Parts.{ClosedProc, ClosedQueues}
use Rattle.closer.specs.TableLaws.{proc_is, queues_are}
use Rattle.put.specs.Put.{Put}
use Rattle.put.specs.RowLaws.{PutRows, rows_turn}
use Rattle.writer.specs.declared.Front.{Front}
use Rattle.writer.specs.Table.{FrontIn, front_of, front_bytes, ProcIn, ProcsIn, proc_bytes, procs_bytes, Counts}
use Rattle.writer.specs.CountsLaws.{counts}
use Rattle.writer.specs.TableLaws.{table_put}

-- what the closed table says before its procedures
abbrev closed_front : Table → List Queue → Front
closed_front t queues = record { trap = t.trap; closed = true; tasks = t.tasks; procs = t.procs; sems = t.sems; queues = t.queues; task = t.task; sem = t.sem; queue = queues }

-- the lines of its procedures
abbrev pub closed_procs : Table → ℕ → List ℕ
closed_procs t = procs_bytes (close_table t).closed (close_table t).proc

-- a table that can be closed, and its closed table written
pub record Closable (t : Table) : Type 0 where
  pub open_ready : Ready t
  pub closed_counts : Counts (close_table t)

pub closable : (t : Table) → Shaped t → fault t ≡ 0 → t.closed ≡ false → Closable t
closable t s e h = record { open_ready = ready t s e h; closed_counts = counts (close_table t) (closed_fault t e h) }

module _ (t : Table) (k : Closable t) where
  pub front_in : (queues : List Queue) → FrontIn (closed_front t queues)
  unfolding close_table closed_with
  front_in queues = record { tasks = k.closed_counts.front.tasks; sems = k.closed_counts.front.sems; queues = k.closed_counts.front.queues }

  procs_in : ProcsIn (close_table t).proc t.procs
  unfolding close_table closed_with
  procs_in = k.closed_counts.procs

  pub procs_few : t.procs ≤ 8
  procs_few = procs_in.count

module _ (t : Table) (k : Closable t) (l : List ℕ) (d : Decides t l) where
  front_is : (queues : List Queue) → ClosedQueues (cell l 264) t.queue queues → closed_front t queues ≡ front_of (close_table t)
  unfolding close_table closed_with
  front_is queues h = ap (closed_front t) (queues_are t k.open_ready l d queues h)

  proc_at_lem : (p : ℕ) → p < 8 → (r : Proc) → ClosedProc (proc_at t p) p l r → r ≡ proc_at (close_table t) p
  proc_at_lem p h r c = proc_is t k.open_ready l d p h r c ∙ sym (close_proc t p)

  pub proc_in : (p : ℕ) → p < t.procs → (r : Proc) → ClosedProc (proc_at t p) p l r → ProcIn r
  proc_in p h r c = rw (proc_at_lem p (omega (arith, procs_few t k)) r c) ((procs_in t k).each p h)

  -- the next procedure
  pub proc_put : {out m n : List ℕ} {at q s p : ℕ} (r : Proc) → p < t.procs → PutRows 7820 (closed_procs t) out at m q p → ClosedProc (proc_at t p) p l r → Put 7820 m q (proc_bytes true p r) n s → PutRows 7820 (closed_procs t) out at n s (p + 1)
  unfolding close_table closed_with
  proc_put {p = p} r h w c a = rows_turn w (rw (proc_at_lem p (omega (arith, procs_few t k)) r c) at a)

  -- the whole
  pub closed_put : {out m n : List ℕ} {at s i : ℕ} (queues : List Queue) → ClosedQueues (cell l 264) t.queue queues → Put 880 out 0 (front_bytes (closed_front t queues)) m at → PutRows 7820 (closed_procs t) m at n s i → i ≤ t.procs → t.procs ≤ i → Put 65536 out 0 (text (close_table t)) n s
  unfolding close_table closed_with
  closed_put queues q a b f g = table_put (close_table t) k.closed_counts (rw (front_is queues q) at a) b f g
