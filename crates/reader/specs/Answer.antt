-- What the readers of whole texts answer.
use Rattle.std.specs.Prelude.{ℕ, ◌≤◌, ◌≡◌, List, Bool, length, drop, replicate, Ok, Err, IfOk}
use Rattle.table.specs.Table.{no_task, no_sem, no_queue, no_proc}
use Rattle.table.specs.declared.Task.{Task}
use Rattle.table.specs.declared.Sem.{Sem}
use Rattle.table.specs.declared.Queue.{Queue}
use Rattle.table.specs.declared.Proc.{Proc}
use Rattle.table.specs.declared.Table.{Table}
use Rattle.text.specs.declared.Reading.{Reading}
use Rattle.text.specs.Line.{Outcome, Parser, ◌>>=◌, give}
use Rattle.text.specs.Reader.{rows, task_row, sem_row, queue_row, proc_row, at_end, body, result_of, bad, reading}
use Rattle.records.specs.declared.Counts.{Counts}
use Rattle.records.specs.Answer.{Counted}
use Rattle.rows.specs.Rows.{Lines}
use Rattle.reader.specs.declared.Objects.{Objects}
use Rattle.reader.specs.declared.Front.{Front}

-- three lists of rows
abbrev pub lists : List Task → List Sem → List Queue → Objects
lists ts ss qs = record { task = ts; sem = ss; queue = qs }

abbrev pub queue_rows : Bool → Counts → List Task → List Sem → Parser Objects
queue_rows closed x ts ss = rows (queue_row closed) x.queues 0 (replicate 8 no_queue) >>= λ qs. give (lists ts ss qs)

abbrev pub sem_rows : Bool → Counts → List Task → Parser Objects
sem_rows closed x ts = rows sem_row x.sems 0 (replicate 8 no_sem) >>= queue_rows closed x ts

abbrev pub object_rows : Bool → Counts → Parser Objects
object_rows closed x = rows (task_row x.procs) x.tasks 0 (replicate 4 no_task) >>= sem_rows closed x

-- what is answered to the outcome of the lines: faults 6 and 7 come after all of them
abbrev pub answered : Outcome Table → Reading
answered o = reading (result_of o)

-- the lines behind the first two
abbrev pub body_in : ℕ → Bool → Counts → List ℕ → Outcome Table
body_in trap closed x s = body trap closed x.tasks x.procs x.sems x.queues 3 s

-- a table by its parts
abbrev pub table_of : ℕ → Bool → Counts → Objects → List Proc → Table
table_of trap closed x o ps = record {
  trap = trap;
  closed = closed;
  tasks = x.tasks;
  procs = x.procs;
  sems = x.sems;
  queues = x.queues;
  task = o.task;
  sem = o.sem;
  queue = o.queue;
  proc = ps;
}

-- procedures and the text's end
abbrev pub others : ℕ → Bool → Counts → Objects → Parser Table
others trap closed x o =
    rows (proc_row closed x.procs x.sems x.queues) x.procs 0 (replicate 8 no_proc) >>= λ ps.
    at_end >>= λ u.
    give (table_of trap closed x o ps)

-- the table of what stands before its procedures
abbrev pub table_with : Front → List Proc → Table
table_with o = table_of o.trap o.closed o.counts o.objects

-- what the rest of the text leads to
abbrev pub rest_in : List ℕ → Lines Front → Reading
rest_in s (Ok a) = answered (others a.0.trap a.0.closed a.0.counts a.0.objects a.1.line (drop a.1.at s))
rest_in s (Err x) = reading (bad x.fault x.line)

pub record FrontAt (s : List ℕ) (a : Reading) (r : Lines Front) : Type 0 where
  pub same : rest_in s r ≡ a
  pub within : IfOk r (λ b. b.1.at ≤ length s)
  pub lines : IfOk r (λ b. b.1.line ≤ 23)
  pub fit : IfOk r (λ b. Counted b.0.counts)
