-- What the readers of the lines before the nodes answer.
use Rattle.std.specs.Prelude.{ℕ, ◌<◌, List, Bool, true, false, IfOk}
use Rattle.table.specs.declared.Queue.{Queue}
use Rattle.text.specs.Number.{bytes}
use Rattle.text.specs.Value.{from}
use Rattle.text.specs.Line.{Line, end, field, Vals}
use Rattle.text.specs.Format.{head_line, counts_line, queue_line, blank_field, proc_line, drop_field, set_of}
use Rattle.text.specs.Reader.{queue_of, dropped_by}
use Rattle.records.specs.declared.Counts.{Counts}
use Rattle.records.specs.declared.ProcHead.{ProcHead}
use Rattle.fields.specs.Answer.{Answer, LineAt}

-- ---- the lines before the procedures

-- the trap's number, and whether the form is closed
abbrev pub form_of : Vals head_line → ℕ × Bool
form_of w = (w.0, w.1.0)

abbrev pub counts_of : Vals counts_line → Counts
counts_of w = record { tasks = w.0; procs = w.1.0; sems = w.1.1.0; queues = w.1.1.1.0 }

pub record Counted (x : Counts) : Type 0 where
  pub tasks : x.tasks < 5
  pub procs : x.procs < 9
  pub sems : x.sems < 9
  pub queues : x.queues < 9

pub record CountsAt (d : Line) (g : Vals d → Counts) (s : List ℕ) (at : ℕ) (r : Answer Counts) : Type 0 where
  pub is : LineAt d g s at r
  pub fit : IfOk r (λ a. Counted a.0)

abbrev pub last_counts : Line
last_counts =
    field (bytes " sems=") (from 0 8) λ s.
    field (bytes " queues=") (from 0 8) λ q.
    end

abbrev pub counted : ℕ → ℕ → Vals last_counts → Counts
counted k p w = record { tasks = k; procs = p; sems = w.0; queues = w.1.0 }

pub record QueueAt (closed : Bool) (i : ℕ) (s : List ℕ) (at : ℕ) (r : Answer Queue) : Type 0 where
  pub is : LineAt (queue_line closed i) (queue_of closed i) s at r

-- what is left of a queue line behind its capacity
abbrev pub capped : (closed : Bool) → ℕ → Vals (blank_field closed) → Queue
capped false c w = record { cap = c; blank = false }
capped true c w = record { cap = c; blank = w.0 }

-- ---- procedure lines

pub record Sized (k m n : ℕ) : Type 0 where
  pub params : k < 5
  pub vars : m < 17
  pub nodes : n < 33

abbrev pub head_of : (closed : Bool) (i : ℕ) → Vals (proc_line closed i) → ProcHead
head_of closed i w = record { params = w.1.0; vars = w.1.1.0; nodes = w.1.1.1.0; drop = dropped_by closed i w }

-- what is left behind the count of nodes, and behind that of parameters
abbrev pub drop_of : (closed : Bool) (k : ℕ) → Vals (drop_field closed k) → ℕ
drop_of false k w = 0
drop_of true k w = set_of w.0

abbrev pub dropped : (closed : Bool) (k m n : ℕ) → Vals (drop_field closed k) → ProcHead
dropped closed k m n w = record { params = k; vars = m; nodes = n; drop = drop_of closed k w }

abbrev pub sizes_line : Bool → ℕ → Line
sizes_line closed k =
    field (bytes " vars=") (from k 16) λ m.
    field (bytes " nodes=") (from 2 32) λ n.
    drop_field closed k

abbrev pub sizes : (closed : Bool) (k : ℕ) → Vals (sizes_line closed k) → ProcHead
sizes closed k w = dropped closed k w.0 w.1.0 w.1.1

pub record DropAt (closed : Bool) (k m n : ℕ) (s : List ℕ) (at : ℕ) (r : Answer ProcHead) : Type 0 where
  pub is : LineAt (drop_field closed k) (dropped closed k m n) s at r
  pub fits : IfOk r (λ a. Sized a.0.params a.0.vars a.0.nodes)

pub record SizesAt (closed : Bool) (k : ℕ) (s : List ℕ) (at : ℕ) (r : Answer ProcHead) : Type 0 where
  pub is : LineAt (sizes_line closed k) (sizes closed k) s at r
  pub fits : IfOk r (λ a. Sized a.0.params a.0.vars a.0.nodes)

pub record ProcAt (closed : Bool) (i : ℕ) (s : List ℕ) (at : ℕ) (r : Answer ProcHead) : Type 0 where
  pub is : LineAt (proc_line closed i) (head_of closed i) s at r
  pub fits : IfOk r (λ a. Sized a.0.params a.0.vars a.0.nodes)
