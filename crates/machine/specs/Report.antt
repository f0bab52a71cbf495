-- The lines that the program `run` prints of a run.
use Rattle.std.specs.Prelude.{ℕ, ◌+◌, ◌*◌, Bool, List, [], ◌∷◌, ◌++◌, get_or, ℤ}
use Rattle.std.specs.Int.{w32}
use Rattle.std.proofs.Common.{to_z}
use Rattle.table.specs.Table.{proc_at}
use Rattle.table.specs.declared.Operand.TheVariants.{Const}
use Rattle.table.specs.declared.Table.{Table}
use Rattle.text.specs.Number.{bytes, digits}
use Rattle.text.specs.Value.{chosen, spell_operand, spell_list}
use Rattle.text.specs.Reader.{concat_from}
use Rattle.machine.specs.declared.Frame.{Frame}
use Rattle.machine.specs.declared.Entries.{Entries}
use Rattle.machine.specs.declared.State.{State}
use Rattle.machine.specs.declared.Running.{Running}
use Rattle.machine.specs.State.{open_frames, is_lost, frame_at, sem_count, entries_at, var_at}

-- a number under its key, before the rest of its line
abbrev pub keyed : List ℕ → ℕ → List ℕ → List ℕ
keyed key n rest = key ++ (digits n ++ rest)

-- a value is spelt like a constant
abbrev pub spell_value : ℤ → List ℕ
spell_value z = spell_operand (Const z)

-- the first n of some values, as a list
abbrev pub values_text : List ℤ → ℕ → List ℕ
values_text l n = spell_list (concat_from (λ i. spell_value (var_at l i) ∷ []) n 0)

-- `steps=S used=U stop=N`
abbrev pub answer_line : Running → List ℕ
answer_line r = keyed (bytes "steps=") r.steps (keyed (bytes " used=") r.used (keyed (bytes " stop=") r.stop (10 ∷ [])))

-- byte b of the log's entry i; the value of its last four bytes, lowest first
abbrev pub logged : List ℕ → ℕ → ℕ → ℕ
logged log i b = get_or log (8 * i + b) 0

abbrev pub logged_value : List ℕ → ℕ → ℤ
logged_value log i = to_z w32 (logged log i 4 + 256 * logged log i 5 + 65536 * logged log i 6 + 16777216 * logged log i 7)

-- `step=i task=t proc=p node=n flag=f value=v`, of the log's entry j
abbrev pub step_fields : ℕ → List ℕ → ℕ → List ℕ
step_fields i log j =
    keyed (bytes "step=") i (keyed (bytes " task=") (logged log j 0) (keyed (bytes " proc=") (logged log j 1)
    (keyed (bytes " node=") (logged log j 2) (keyed (bytes " flag=") (logged log j 3) (bytes " value=" ++ spell_value (logged_value log j))))))

abbrev pub step_line : List ℕ → ℕ → List ℕ
step_line log i = step_fields i log i ++ (10 ∷ [])

-- `frame=j proc=p node=n vars=a,b`, with so many variables
abbrev pub frame_line : ℕ → Frame → ℕ → List ℕ
frame_line j f n =
    keyed (bytes "frame=") j (keyed (bytes " proc=") f.proc (keyed (bytes " node=") f.node (bytes " vars=" ++ (values_text f.vars n ++ (10 ∷ [])))))

-- `task=k frames=d lost=no`, or `yes`
abbrev pub task_line : ℕ → ℕ → Bool → List ℕ
task_line k d lost = keyed (bytes "task=") k (keyed (bytes " frames=") d (bytes " lost=" ++ (chosen (bytes "no") (bytes "yes") lost ++ (10 ∷ []))))

-- a task's line, then its frames from the first, with as many variables as the procedure has
abbrev pub frame_line_of : Table → State → ℕ → ℕ → List ℕ
frame_line_of t s k j = let f = frame_at s k j in frame_line j f (proc_at t f.proc).vars

abbrev pub task_lines : Table → State → ℕ → List ℕ
task_lines t s k = task_line k (open_frames s k) (is_lost s k) ++ concat_from (frame_line_of t s k) (open_frames s k) 0

-- `sem=i count=c`
abbrev pub sem_line : ℕ → ℕ → List ℕ
sem_line i c = keyed (bytes "sem=") i (keyed (bytes " count=") c (10 ∷ []))

-- `queue=i entries=a,b`, the oldest first
abbrev pub queue_line : ℕ → Entries → List ℕ
queue_line i x = keyed (bytes "queue=") i (bytes " entries=" ++ (values_text x.items x.len ++ (10 ∷ [])))

-- the state: its tasks, semaphores and queues
unfoldable pub state_lines : Table → State → List ℕ
state_lines t s =
    concat_from (task_lines t s) t.tasks 0
    ++ (concat_from (λ i. sem_line i (sem_count s.sems i)) t.sems 0
    ++ concat_from (λ i. queue_line i (entries_at s.queues i)) t.queues 0)

-- the answer, the completed steps as the log has them, and the state
unfoldable pub report : Table → Running → List ℕ → List ℕ
report t r log = answer_line r ++ (concat_from (step_line log) r.steps 0 ++ state_lines t r.state)
