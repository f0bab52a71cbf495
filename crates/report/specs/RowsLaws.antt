-- A state's lines and the whole report, from their parts.
use Rattle.std.specs.Prelude.{ℕ, ◌*◌, ◌≡◌, List, get_or}
use Rattle.std.proofs.Common.{arith}
use Rattle.table.specs.declared.Table.{Table}
use Rattle.text.specs.Reader.{concat_from}
use Rattle.put.specs.Put.{Put}
use Rattle.put.specs.PutLaws.{put_after, put_more}
use Rattle.put.specs.RowLaws.{concat_same}
use Rattle.machine.specs.declared.State.{State}
use Rattle.machine.specs.declared.Running.{Running}
use Rattle.machine.specs.State.{sem_count, entries_at}
use Rattle.machine.specs.Report.{answer_line, step_line, frame_line_of, task_lines, sem_line, queue_line, state_lines, report}
use Rattle.report_tasks.specs.Rows.{VariableCounts, frame_row, task_row}
use Rattle.report.specs.Rows.{Shown, Reportable}

module _ (t : Table) (s : State) (counts : List ℕ) (v : VariableCounts t.proc counts) where
  abbrev tasks : ℕ → List ℕ
  tasks = task_row s.depth s.lost s.frames counts

  frame_rows : (k j : ℕ) → frame_line_of t s k j ≡ frame_row s.frames counts k j
  frame_rows k j = rw (v.same _)

  task_rows : (k : ℕ) → task_lines t s k ≡ tasks k
  task_rows k = rw (concat_same (frame_line_of t s k) (frame_row s.frames counts k) (frame_rows k) (get_or s.depth k 0) 0)

  pub state_put : {l m n o : List ℕ} {at p q r : ℕ} → Shown t s
      → Put (24920 * t.tasks) l at (concat_from tasks t.tasks 0) m p
      → Put (40 * t.sems) m p (concat_from (λ a. sem_line a (sem_count s.sems a)) t.sems 0) n q
      → Put (3090 * t.queues) n q (concat_from (λ a. queue_line a (entries_at s.queues a)) t.queues 0) o r
      → Put 124720 l at (state_lines t s) o r
  unfolding state_lines
  state_put h a b c = rw (concat_same (task_lines t s) tasks task_rows t.tasks 0) (put_more (omega (arith, h.tasks, h.sems, h.queues)) (put_after a (put_after b c)))

pub report_put : {l m n o log : List ℕ} {p q e : ℕ} (t : Table) (r : Running) → Reportable t r log
    → Put 70 l 0 (answer_line r) m p → Put (58 * r.steps) m p (concat_from (step_line log) r.steps 0) n q → Put 124720 n q (state_lines t r.state) o e
    → Put 5925000 l 0 (report t r log) o e
unfolding report
report_put t r h a b c = put_more (omega (arith, h.steps)) (put_after a (put_after b c))
