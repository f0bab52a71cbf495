-- Tables: total look-ups, and the views of a node through which closing and stepping see it.
use Rattle.std.specs.Prelude.{ℕ, Bool, true, false, List, [], ◌∷◌, ◌++◌, get_or, take, replicate}
use Rattle.std.proofs.Math.Option.{Option, none, some}
use Rattle.table.specs.Mask.{members}
use Rattle.table.specs.declared.Operand.{Operand}
use Rattle.table.specs.declared.Operand.TheVariants.{Var, Const}
use Rattle.table.specs.declared.Args.{Args}
use Rattle.table.specs.declared.Node.{Node}
use Rattle.table.specs.declared.Node.TheVariants.{Absent, Start, Set, Test, Read, Call, Wait, Signal, Send, Recv, Assert, Out, Return}
use Rattle.table.specs.declared.Slot.{Slot}
use Rattle.table.specs.declared.Task.{Task}
use Rattle.table.specs.declared.Sem.{Sem}
use Rattle.table.specs.declared.Queue.{Queue}
use Rattle.table.specs.declared.Proc.{Proc}
use Rattle.table.specs.declared.Table.{Table}

-- ---- places that are 0

abbrev pub no_slot : Slot
no_slot = record { node = Absent }

abbrev pub no_task : Task
no_task = record { top = 0 }

abbrev pub no_sem : Sem
no_sem = record { count = 0 }

abbrev pub no_queue : Queue
no_queue = record { cap = 0; blank = false }

abbrev pub no_slots : List Slot
no_slots = replicate 32 no_slot

abbrev pub no_proc : Proc
no_proc = record { params = 0; vars = 0; nodes = 0; drop = 0; slots = no_slots }

-- "a place for one is all 0"
abbrev pub no_table : Table
no_table = record {
  trap = 0;
  closed = false;
  tasks = 0;
  procs = 0;
  sems = 0;
  queues = 0;
  task = replicate 4 no_task;
  sem = replicate 8 no_sem;
  queue = replicate 8 no_queue;
  proc = replicate 8 no_proc;
}

-- ---- look-ups; past a list's end stands what is 0

abbrev pub task_at : Table → ℕ → Task
task_at t i = get_or t.task i no_task

abbrev pub sem_at : Table → ℕ → Sem
sem_at t i = get_or t.sem i no_sem

abbrev pub queue_at : Table → ℕ → Queue
queue_at t i = get_or t.queue i no_queue

-- past the last procedure: no node, no variable
abbrev pub outside : Proc
outside = record { params = 0; vars = 0; nodes = 0; drop = 0; slots = [] }

abbrev pub proc_at : Table → ℕ → Proc
proc_at t p = get_or t.proc p outside

abbrev pub node_in : Proc → ℕ → Node
node_in q n = (get_or q.slots n no_slot).node

abbrev pub node_at : Table → ℕ → ℕ → Node
node_at t p n = node_in (proc_at t p) n

-- ---- variables

-- the number that stands for `-`. It is no variable's: a frame has 16
abbrev pub removed : ℕ
removed = 255

-- the four places of a call's arguments
abbrev pub arg_places : Args → List ℕ
arg_places x = x.a0 ∷ x.a1 ∷ x.a2 ∷ x.a3 ∷ []

abbrev pub arg_at : Args → ℕ → ℕ
arg_at x i = get_or (arg_places x) i 0

-- the variables that a call passes
abbrev pub arg_list : Args → List ℕ
arg_list x = take x.len (arg_places x)

abbrev pub operand_uses : Operand → List ℕ
operand_uses (Var v) = v ∷ []
operand_uses (Const c) = []

-- ---- a node by its parts: through them closing, stepping and the text see it

-- "Kept: all nodes but `read`, and `set` or `test` with a dirty use": a `read` is never kept, and alone is; a place without a node is absent
pub data Keeping : Type 0 where
  always if_clean never absent : Keeping

-- where it goes on: nowhere, by its arc, or by one of a test's two, at `yes` and at `no`; an arc is a mask of targets
pub data Exit : Type 0 where
  ends : Exit
  by : ℕ → Exit
  either : ℕ → ℕ → Exit

-- what it does beyond its frame's variables: to a semaphore, to a queue with a variable, or a frame opened or closed
pub data Act : Type 0 where
  alone : Act
  waits signals : ℕ → Act
  sends receives : ℕ → ℕ → Act
  calls : ℕ → Args → Act
  returns : Act

pub record Parts : Type 0 where
  pub uses : List ℕ  -- the variables that it uses
  pub sets : Option ℕ  -- the variable that it sets
  pub keeping : Keeping
  pub act : Act
  pub asserted : Option ℕ  -- the variable that it asserts
  pub exit : Exit

abbrev pub made : List ℕ → Option ℕ → Keeping → Act → Option ℕ → Exit → Parts
made us v k a w e = record { uses = us; sets = v; keeping = k; act = a; asserted = w; exit = e }

-- by kind: uses, sets, keeping, act, asserted, exit
unfoldable pub parts : Node → Parts
parts Absent = made [] none absent alone none ends
parts (Start to) = made [] none always alone none (by to)
parts (Set v o a b to) = made (operand_uses a ++ operand_uses b) (some v) if_clean alone none (by to)
parts (Test o a b y n) = made (operand_uses a ++ operand_uses b) none if_clean alone none (either y n)
parts (Read v to) = made [] (some v) never alone none (by to)
parts (Call q xs to) = made (arg_list xs) none always (calls q xs) none (by to)
parts (Wait s to) = made [] none always (waits s) none (by to)
parts (Signal s to) = made [] none always (signals s) none (by to)
parts (Send q v to) = made (v ∷ []) none always (sends q v) none (by to)
parts (Recv q v to) = made [] (some v) always (receives q v) none (by to)
parts (Assert v to) = made (v ∷ []) none always alone (some v) (by to)
parts (Out v to) = made (v ∷ []) none always alone none (by to)
parts Return = made [] none always returns none ends

abbrev pub uses : Node → List ℕ
uses x = (parts x).uses

abbrev pub variable_set : Node → Option ℕ
variable_set x = (parts x).sets

abbrev pub keeping : Node → Keeping
keeping x = (parts x).keeping

abbrev pub act : Node → Act
act x = (parts x).act

abbrev pub asserted : Node → Option ℕ
asserted x = (parts x).asserted

abbrev pub no_node : Keeping → Bool
no_node always = false
no_node if_clean = false
no_node never = false
no_node absent = true

abbrev pub is_absent : Node → Bool
is_absent x = no_node (keeping x)

-- its arc, as a mask; of a test the one taken at `yes`
abbrev pub first_arc : Exit → ℕ
first_arc ends = 0
first_arc (by m) = m
first_arc (either y n) = y

-- a test's arc at `no`
abbrev pub second_arc : Exit → ℕ
second_arc ends = 0
second_arc (by m) = 0
second_arc (either y n) = n

abbrev pub arc_to : Node → ℕ
arc_to x = first_arc (parts x).exit

abbrev pub arc_no : Node → ℕ
arc_no x = second_arc (parts x).exit

-- the targets of all its arcs
abbrev pub arcs : Node → List ℕ
arcs x = members (arc_to x) ++ members (arc_no x)

-- ---- a node with other arcs and variables

abbrev pub map_args : (ℕ → ℕ → ℕ) → Args → Args
map_args f x = record { len = x.len; a0 = f 0 x.a0; a1 = f 1 x.a1; a2 = f 2 x.a2; a3 = f 3 x.a3 }

-- each arc m is `arc m`; variable v, where `-` may stand, is `var i v`, i being the place of an argument, else 0
unfoldable pub map_node : (ℕ → ℕ) → (ℕ → ℕ → ℕ) → Node → Node
map_node arc var Absent = Absent
map_node arc var (Start to) = Start (arc to)
map_node arc var (Set v o a b to) = Set v o a b (arc to)
map_node arc var (Test o a b y n) = Test o a b (arc y) (arc n)
map_node arc var (Read v to) = Read v (arc to)
map_node arc var (Call q xs to) = Call q (map_args var xs) (arc to)
map_node arc var (Wait s to) = Wait s (arc to)
map_node arc var (Signal s to) = Signal s (arc to)
map_node arc var (Send q v to) = Send q (var 0 v) (arc to)
map_node arc var (Recv q v to) = Recv q (var 0 v) (arc to)
map_node arc var (Assert v to) = Assert (var 0 v) (arc to)
map_node arc var (Out v to) = Out (var 0 v) (arc to)
map_node arc var Return = Return
