-- Document 02, Change 2: "20 for text that ends early or carries on after its last line; any accepted text cut within a line gives 20". What the reader answers to the
-- beginning of an accepted text, and to one with more behind it.
use Rattle.std.specs.Prelude.{ℕ, suc, ◌-◌, ◌≤◌, ◌≡◌, ◌⊎◌, List, [], ◌∷◌, ◌++◌, true, eqb, length, set, take, replicate}
use Rattle.table.specs.Mask.{pick}
use Rattle.table.specs.Table.{no_slot, no_table, proc_at, node_in}
use Rattle.table.specs.declared.Proc.{Proc}
use Rattle.table.specs.declared.Table.{Table}
use Rattle.text.specs.declared.Reading.{Reading}
use Rattle.text.specs.Number.{bytes}
use Rattle.text.specs.Format.{describe}
use Rattle.text.specs.Reader.{concat_from, late, first_late, reading, read}
use Rattle.text.specs.Writer.{node_text, scope, text}

-- ---- where a text ends

-- how many LFs it has
unfoldable pub feeds : List ℕ → ℕ
feeds [] = 0
feeds (b ∷ s) = pick (eqb b 10) (suc (feeds s)) (feeds s)

-- 20 with the line in which it ends: "an early end gives the line broken off or due"
abbrev pub early : List ℕ → Reading
early s = record { number = 20; line = suc (feeds s); table = no_table }

-- ---- what a closed text may lack: "each further line beginning `node=` belongs to the procedure before it"

abbrev pub last_of : Table → ℕ
last_of t = t.procs - 1

-- the lines of the last procedure's nodes from k on
abbrev pub node_lines : ℕ → Table → List ℕ
node_lines k t = let q = proc_at t (last_of t) in let c = scope t q in concat_from (λ j. node_text c j (describe c (node_in q j))) (q.nodes - k) k

-- a table with another procedure p
abbrev pub with_proc : Table → ℕ → Proc → Table
with_proc t p q = record {
  trap = t.trap;
  closed = t.closed;
  tasks = t.tasks;
  procs = t.procs;
  sems = t.sems;
  queues = t.queues;
  task = t.task;
  sem = t.sem;
  queue = t.queue;
  proc = set t.proc p q;
}

-- the table without those nodes
abbrev pub nodes_below : ℕ → Proc → Proc
nodes_below k q = record { params = q.params; vars = q.vars; nodes = q.nodes; drop = q.drop; slots = take k q.slots ++ replicate (32 - k) no_slot }

abbrev pub without : ℕ → Table → Table
without k t = with_proc t (last_of t) (nodes_below k (proc_at t (last_of t)))

-- y is the lines of nodes of a closed table's last procedure, all of those from one on that is not the first
pub record Further (t : Table) (y : List ℕ) : Type 0 where
  pub closed : t.closed ≡ true
  pub lowest : ℕ
  pub not_first : 1 ≤ lowest
  pub lines : y ≡ node_lines lowest t

-- ---- a text s ++ y that the reader accepts, cut to s

-- not behind an LF: within a line, or to nothing
abbrev pub CutWithin : Type 0
CutWithin = (s y : List ℕ) → (read (s ++ y)).number ≡ 0 → ((r : List ℕ) → s ≡ r ++ (10 ∷ []) → ⊥) → read s ≡ early s

-- anywhere: an early end, or behind a node line of a closed text's last procedure
abbrev pub CutAnywhere : Type 0
CutAnywhere = (s : List ℕ) (b : ℕ) (y : List ℕ) → (read (s ++ (b ∷ y))).number ≡ 0 → (read s ≡ early s) ⊎ Further (read (s ++ (b ∷ y))).table (b ∷ y)

-- there: what the rest of the rules say of the table without those nodes, which is no fault or 7
pub record LacksNodes (t : Table) (k : ℕ) (s : List ℕ) : Type 0 where
  pub same : s ≡ text (without k t)
  pub says : read s ≡ reading (first_late (without k t) 1 (late (without k t)))
  pub number : ((read s).number ≡ 0) ⊎ ((read s).number ≡ 7)

abbrev pub CutFurther : Type 0
CutFurther = (s y : List ℕ) → (read (s ++ y)).number ≡ 0 → (f : Further (read (s ++ y)).table y) → LacksNodes (read (s ++ y)).table f.lowest s

-- ---- a text s that the reader accepts, with more behind it

-- 20 with the line after the last, whatever stands there; but a line beginning `node=` still belongs to a closed table's last procedure
abbrev pub CarriesOn : Type 0
CarriesOn = (s : List ℕ) (b : ℕ) (x : List ℕ) → (read s).number ≡ 0 → length (s ++ (b ∷ x)) ≤ 65536
    → ((r : List ℕ) → (read s).table.closed ≡ true → b ∷ x ≡ bytes "node=" ++ r → ⊥) → read (s ++ (b ∷ x)) ≡ early s
