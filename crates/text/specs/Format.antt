-- Document 01, "The table text": each line, with its keys in the order shown and the kinds of their values.
use Rattle.std.specs.Prelude.{ℕ, ◌-◌, min, List, [], ◌∷◌, ◌++◌, map, Bool, true, false, not, eqb, length, get_or, take, replicate}
use Rattle.std.proofs.Math.Option.{Option, none, some}
use Rattle.table.specs.Mask.{pick, members, mask_of}
use Rattle.table.specs.Table.{removed, arg_places}
use Rattle.table.specs.declared.Args.{Args}
use Rattle.table.specs.declared.Task.{Task}
use Rattle.table.specs.declared.Sem.{Sem}
use Rattle.table.specs.declared.Node.{Node}
use Rattle.table.specs.declared.Node.TheVariants.{Absent, Start, Set, Test, Read, Call, Wait, Signal, Send, Recv, Assert, Out, Return}
use Rattle.text.specs.Number.{bytes}
use Rattle.text.specs.declared.Fault.TheVariants.{Index}
use Rattle.text.specs.Value.{NodeKind, start, set_kind, test, read, call, wait, signal, send, recv, assert, out, return, ValueKind, number, choice, kind, operation, operand, variable, ascending, arguments, from, due, one_of}
use Rattle.text.specs.Line.{Line, end, field, Vals}

-- ---- the lines before the procedures

-- `trap=1 form=open` (or `closed`)
abbrev pub head_line : Line
head_line =
    field (bytes "trap=") (from 1 1) λ n.
    field (bytes " form=") (choice (bytes "open") (bytes "closed")) λ c.
    end

-- "tasks= 1 to 4, procs= 1 to 8, sems= 0 to 8, queues= 0 to 8, on one line"
abbrev pub counts_line : Line
counts_line =
    field (bytes "tasks=") (from 1 4) λ k.
    field (bytes " procs=") (from 1 8) λ p.
    field (bytes " sems=") (from 0 8) λ s.
    field (bytes " queues=") (from 0 8) λ q.
    end

-- `task=i top=p`
abbrev pub task_line : ℕ → ℕ → Line
task_line procs i =
    field (bytes "task=") (due i) λ j.
    field (bytes " top=") (one_of procs) λ p.
    end

-- "`sem=i count=c`, c 0 to 255"
abbrev pub sem_line : ℕ → Line
sem_line i =
    field (bytes "sem=") (due i) λ j.
    field (bytes " count=") (from 0 255) λ c.
    end

-- what a task line and a semaphore line make, and the values that they stand for
abbrev pub task_of : (procs i : ℕ) → Vals (task_line procs i) → Task
task_of procs i w = record { top = w.1.0 }

abbrev pub task_vals : (procs i : ℕ) → Task → Vals (task_line procs i)
task_vals procs i x = (i, (x.top, tt))

abbrev pub sem_of : (i : ℕ) → Vals (sem_line i) → Sem
sem_of i w = record { count = w.1.0 }

abbrev pub sem_vals : (i : ℕ) → Sem → Vals (sem_line i)
sem_vals i x = (i, (x.count, tt))

-- "in closed form also `blank=yes` or `no`"
abbrev pub blank_field : Bool → Line
blank_field false = end
blank_field true =
    field (bytes " blank=") (choice (bytes "no") (bytes "yes")) λ b.
    end

-- "`queue=i cap=c`, c 1 to 8"
abbrev pub queue_line : Bool → ℕ → Line
queue_line closed i =
    field (bytes "queue=") (due i) λ j.
    field (bytes " cap=") (from 1 8) λ c.
    blank_field closed

-- "closed form adds `drop=` and a list of parameters"
abbrev pub drop_field : Bool → ℕ → Line
drop_field false k = end
drop_field true k =
    field (bytes " drop=") (ascending false 0 k) λ d.
    end

-- "`proc=i params=k vars=m nodes=n`, k 0 to 4, m from k to 16, n 2 to 32"
abbrev pub proc_line : Bool → ℕ → Line
proc_line closed i =
    field (bytes "proc=") (due i) λ j.
    field (bytes " params=") (from 0 4) λ k.
    field (bytes " vars=") (from k 16) λ m.
    field (bytes " nodes=") (from 2 32) λ n.
    drop_field closed k

-- ---- node lines

-- what the references on a node line are judged by
pub record Scope : Type 0 where
  pub closed : Bool
  pub procs : ℕ
  pub sems : ℕ
  pub queues : ℕ
  pub vars : ℕ
  pub nodes : ℕ

-- "Targets are 1 to n-1: one in open form; a list in closed form"
abbrev pub targets : Scope → ValueKind
targets c = ascending (not c.closed) 1 c.nodes

abbrev pub to_field : Scope → Line
to_field c =
    field (bytes " to=") (targets c) λ to.
    end

-- what stands behind the kind
abbrev pub fields : Scope → NodeKind → Line
fields c start = to_field c
fields c set_kind =
    field (bytes " var=") (one_of c.vars) λ v.
    field (bytes " op=") (operation false) λ o.
    field (bytes " a=") (operand c.vars) λ a.
    field (bytes " b=") (operand c.vars) λ b.
    to_field c
fields c test =
    field (bytes " op=") (operation true) λ o.
    field (bytes " a=") (operand c.vars) λ a.
    field (bytes " b=") (operand c.vars) λ b.
    field (bytes " yes=") (targets c) λ y.
    field (bytes " no=") (targets c) λ n.
    end
fields c read =
    field (bytes " var=") (one_of c.vars) λ v.
    to_field c
fields c call =
    field (bytes " proc=") (one_of c.procs) λ p.
    field (bytes " args=") (arguments c.closed c.vars) λ xs.
    to_field c
fields c wait =
    field (bytes " sem=") (one_of c.sems) λ s.
    to_field c
fields c signal =
    field (bytes " sem=") (one_of c.sems) λ s.
    to_field c
fields c send =
    field (bytes " queue=") (one_of c.queues) λ q.
    field (bytes " var=") (variable c.closed c.vars) λ v.
    to_field c
fields c recv =
    field (bytes " queue=") (one_of c.queues) λ q.
    field (bytes " var=") (variable c.closed c.vars) λ v.
    to_field c
fields c assert =
    field (bytes " var=") (variable c.closed c.vars) λ v.
    to_field c
fields c out =
    field (bytes " var=") (variable c.closed c.vars) λ v.
    to_field c
fields c return = end

-- a node line whose number is at least lo and below n, else 4: `node=j kind=` and what the kind has
abbrev pub node_line : Scope → ℕ → ℕ → Line
node_line c lo n =
    field (bytes "node=") (number lo n Index) λ j.
    field (bytes " kind=") (kind c.closed j) λ k.
    fields c k

-- ---- a node and the values of its line

abbrev pub variable_of : Option ℕ → ℕ
variable_of none = removed
variable_of (some v) = v

abbrev pub name_of : ℕ → Option ℕ
name_of v = pick (eqb v removed) none (some v)

unfoldable pub elem : ℕ → List ℕ → Bool
elem x [] = false
elem x (y ∷ ys) = pick (eqb x y) true (elem x ys)

abbrev pub set_of : List ℕ → ℕ
set_of xs = mask_of 32 (λ i. elem i xs)

abbrev pub arg_of : List (Option ℕ) → ℕ → ℕ
arg_of xs i = variable_of (get_or xs i (some 0))

-- five stands for any count above four: no procedure has so many parameters
abbrev pub args_of : List (Option ℕ) → Args
args_of xs = record { len = min (length xs) 5; a0 = arg_of xs 0; a1 = arg_of xs 1; a2 = arg_of xs 2; a3 = arg_of xs 3 }

-- arguments past the fourth repeat the fourth
abbrev pub arg_names : Args → List (Option ℕ)
arg_names x = map name_of (take x.len (arg_places x ++ replicate (x.len - 4) x.a3))

unfoldable pub node_of : (c : Scope) (k : NodeKind) → Vals (fields c k) → Node
node_of c start w = Start (set_of w.0)
node_of c set_kind w = Set w.0 w.1.0 w.1.1.0 w.1.1.1.0 (set_of w.1.1.1.1.0)
node_of c test w = Test w.0 w.1.0 w.1.1.0 (set_of w.1.1.1.0) (set_of w.1.1.1.1.0)
node_of c read w = Read w.0 (set_of w.1.0)
node_of c call w = Call w.0 (args_of w.1.0) (set_of w.1.1.0)
node_of c wait w = Wait w.0 (set_of w.1.0)
node_of c signal w = Signal w.0 (set_of w.1.0)
node_of c send w = Send w.0 (variable_of w.1.0) (set_of w.1.1.0)
node_of c recv w = Recv w.0 (variable_of w.1.0) (set_of w.1.1.0)
node_of c assert w = Assert (variable_of w.0) (set_of w.1.0)
node_of c out w = Out (variable_of w.0) (set_of w.1.0)
node_of c return w = Return

-- the line that a node stands for: its kind and the values behind it
pub data Described (c : Scope) : Type 0 where
  no_line : Described c
  described : (k : NodeKind) → Vals (fields c k) → Described c

unfoldable pub describe : (c : Scope) → Node → Described c
describe c Absent = no_line
describe c (Start to) = described start (members to, tt)
describe c (Set v o a b to) = described set_kind (v, (o, (a, (b, (members to, tt)))))
describe c (Test o a b y n) = described test (o, (a, (b, (members y, (members n, tt)))))
describe c (Read v to) = described read (v, (members to, tt))
describe c (Call q xs to) = described call (q, (arg_names xs, (members to, tt)))
describe c (Wait s to) = described wait (s, (members to, tt))
describe c (Signal s to) = described signal (s, (members to, tt))
describe c (Send q v to) = described send (q, (name_of v, (members to, tt)))
describe c (Recv q v to) = described recv (q, (name_of v, (members to, tt)))
describe c (Assert v to) = described assert (name_of v, (members to, tt))
describe c (Out v to) = described out (name_of v, (members to, tt))
describe c Return = described return tt
