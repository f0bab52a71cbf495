-- A table's lines, and the counts within which they are written.
use Rattle.std.specs.Prelude.{ℕ, ◌≤◌, ◌<◌, ◌≡◌, List, ◌++◌, Bool, get_or}
use Rattle.table.specs.Table.{no_slot, no_task, no_sem, no_queue, outside}
use Rattle.table.specs.declared.Slot.{Slot}
use Rattle.table.specs.declared.Task.{Task}
use Rattle.table.specs.declared.Sem.{Sem}
use Rattle.table.specs.declared.Queue.{Queue}
use Rattle.table.specs.declared.Proc.{Proc}
use Rattle.table.specs.declared.Table.{Table}
use Rattle.text.specs.Number.{bytes}
use Rattle.text.specs.Reader.{concat_from}
use Rattle.text.specs.Writer.{fitted}
use Rattle.text.specs.declared.Writing.{Writing}
use Rattle.writer.specs.declared.Front.{Front}
use Rattle.lines.specs.Lines.{FewArgs, head_text, counts_text, pair_text, queue_text, proc_line_text, node_bytes}

-- ---- counts

-- the first n of 32 places for nodes
pub record NodesIn (slots : List Slot) (n : ℕ) : Type 0 where
  pub count : n ≤ 32
  pub few : (j : ℕ) → j < n → FewArgs (get_or slots j no_slot).node

pub record ProcIn (q : Proc) : Type 0 where
  pub within : NodesIn q.slots q.nodes

-- the first n of 8 places for procedures
pub record ProcsIn (procs : List Proc) (n : ℕ) : Type 0 where
  pub count : n ≤ 8
  pub each : (i : ℕ) → i < n → ProcIn (get_or procs i outside)

-- no count before the procedures passes its array
pub record FrontIn (f : Front) : Type 0 where
  pub tasks : f.tasks ≤ 4
  pub sems : f.sems ≤ 8
  pub queues : f.queues ≤ 8

-- what a table says before its procedures
abbrev pub front_of : Table → Front
front_of t = record { trap = t.trap; closed = t.closed; tasks = t.tasks; procs = t.procs; sems = t.sems; queues = t.queues; task = t.task; sem = t.sem; queue = t.queue }

-- no count passes its array, and no call in use has more than four arguments
pub record Counts (t : Table) : Type 0 where
  pub front : FrontIn (front_of t)
  pub procs : ProcsIn t.proc t.procs

-- ---- lines

abbrev pub task_bytes : ℕ → Task → List ℕ
task_bytes i x = pair_text (bytes "task=") i (bytes " top=") x.top

abbrev pub sem_bytes : ℕ → Sem → List ℕ
sem_bytes i x = pair_text (bytes "sem=") i (bytes " count=") x.count

abbrev pub queue_bytes : Bool → ℕ → Queue → List ℕ
queue_bytes closed i x = queue_text closed i x.cap x.blank

abbrev pub slot_bytes : List Slot → ℕ → List ℕ
slot_bytes slots j = node_bytes j (get_or slots j no_slot).node

abbrev pub proc_bytes : Bool → ℕ → Proc → List ℕ
proc_bytes closed i q = proc_line_text closed i q.params q.vars q.nodes q.drop ++ concat_from (slot_bytes q.slots) q.nodes 0

abbrev pub procs_bytes : Bool → List Proc → ℕ → List ℕ
procs_bytes closed procs i = proc_bytes closed i (get_or procs i outside)

-- the lines before the procedures
unfoldable pub front_bytes : Front → List ℕ
front_bytes f = head_text f.trap f.closed
    ++ (counts_text f.tasks f.procs f.sems f.queues
    ++ (concat_from (λ i. task_bytes i (get_or f.task i no_task)) f.tasks 0
    ++ (concat_from (λ i. sem_bytes i (get_or f.sem i no_sem)) f.sems 0
    ++ concat_from (λ i. queue_bytes f.closed i (get_or f.queue i no_queue)) f.queues 0)))

-- ---- the answer: the text with every byte behind it as before; or 8, and every byte as before, where the buffer is shorter than the text
pub record WrittenAs (s before after : List ℕ) (r : Writing) : Type 0 where
  pub answer : r ≡ (fitted s before).answer
  pub buffer : after ≡ (fitted s before).buffer
