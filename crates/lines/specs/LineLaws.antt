-- The bytes of each line.
use Rattle.std.specs.Prelude.{ℕ, ◌≡◌, refl, Bool, true, false}
use Rattle.table.specs.declared.Queue.{Queue}
use Rattle.table.specs.declared.Proc.{Proc}
use Rattle.text.specs.Number.{bytes}
use Rattle.text.specs.Value.{spell}
use Rattle.text.specs.Line.{write}
use Rattle.text.specs.Format.{head_line, counts_line, task_line, sem_line, queue_line, proc_line}
use Rattle.text.specs.Writer.{queue_vals, proc_vals}
use Rattle.lines.specs.Lines.{pair_text, counts_text, head_text, queue_text, proc_line_text}
pub use Rattle.node_lines.specs.NodeLineLaws.{node_scope}

pub head_text_lem : (n : ℕ) (c : Bool) → write head_line (n, (c, tt)) ≡ head_text n c
unfolding write spell
head_text_lem n c = refl

pub counts_text_lem : (t p s q : ℕ) → write counts_line (t, (p, (s, (q, tt)))) ≡ counts_text t p s q
unfolding write spell
counts_text_lem t p s q = refl

pub task_text : (procs i n : ℕ) → write (task_line procs i) (i, (n, tt)) ≡ pair_text (bytes "task=") i (bytes " top=") n
unfolding write spell
task_text procs i n = refl

pub sem_text : (i n : ℕ) → write (sem_line i) (i, (n, tt)) ≡ pair_text (bytes "sem=") i (bytes " count=") n
unfolding write spell
sem_text i n = refl

pub queue_text_lem : (c : Bool) (i : ℕ) (x : Queue) → write (queue_line c i) (queue_vals c i x) ≡ queue_text c i x.cap x.blank
unfolding write spell
queue_text_lem false i x = refl
queue_text_lem true i x = refl

pub proc_text_lem : (c : Bool) (i : ℕ) (q : Proc) → write (proc_line c i) (proc_vals c i q) ≡ proc_line_text c i q.params q.vars q.nodes q.drop
unfolding write spell
proc_text_lem false i q = refl
proc_text_lem true i q = refl
