-- What the code of a step says of a node's rows: whether it is blocked, and what it does to its frame.
use Rattle.std.specs.Prelude.{ℕ, ◌+◌, Bool, false, List, length, get_or, eqb, leb, ℤ, pos, Result, Ok, Err}
use Rattle.table.specs.Mask.{pick}
use Rattle.table.specs.Table.{removed}
use Rattle.table.specs.Values.{apply, holds}
use Rattle.table.specs.declared.Node.{Node}
use Rattle.table.specs.declared.Node.TheVariants.{Absent, Start, Set, Test, Read, Call, Wait, Signal, Send, Recv, Assert, Out, Return}
use Rattle.machine.specs.Step.{operand_in}
use Rattle.tosses.specs.declared.Stop.{Stop}
use Rattle.tosses.specs.declared.Stop.TheVariants.{ValuesSpent}
use Rattle.run_code.specs.Code.{byte}
use Rattle.run_step.specs.declared.Effect.{Effect}

-- ---- blocked, by a row's bytes, the marks and the frames open

-- the count of the semaphore, the length of the queue that the row names
abbrev pub sem_of : List ℕ → List ℕ → ℕ
sem_of b m = byte m (8 + byte b 1)

abbrev pub len_of : List ℕ → List ℕ → ℕ
len_of b m = byte m (16 + byte b 1)

unfoldable pub stuck_of : ℕ → List ℕ → List ℕ → ℕ → Bool
stuck_of k b m d =
    pick (eqb k 5) (leb 8 d)
    (pick (eqb k 6) (eqb (sem_of b m) 0)
    (pick (eqb k 7) (leb 255 (sem_of b m))
    (pick (eqb k 8) (leb (byte b 3) (len_of b m))
    (pick (eqb k 9) (eqb (len_of b m) 0)
    (pick (eqb k 12) (leb d 1) false)))))

-- ---- a node's effect on its frame: the variable set, its value, the values used, the arc, and the kept node that this leads straight to

abbrev pub goes_to : ℕ → ℤ → ℕ → ℕ → ℕ → Effect
goes_to v x used arc near = record { var = v; value = x; used = used; arc = arc; near = near }

abbrev pub read_to : ℕ → List ℤ → ℕ → ℕ → ℕ → Result Effect Stop
read_to v vs used arc near = pick (leb (length vs) used) (Err ValuesSpent) (Ok (goes_to v (get_or vs used (pos 0)) (used + 1) arc near))

-- of a dropped node: a set, a test, a read; another is not met on the way
unfoldable pub pass_of : Node → List ℤ → List ℤ → ℕ → Result Effect Stop
pass_of Absent l vs used = Ok (goes_to removed (pos 0) used 0 0)
pass_of (Start to) l vs used = Ok (goes_to removed (pos 0) used to 0)
pass_of (Set v o a b to) l vs used = Ok (goes_to v (apply o (operand_in l a) (operand_in l b)) used to 0)
pass_of (Test o a b y n) l vs used = Ok (goes_to removed (pos 0) used (pick (holds (apply o (operand_in l a) (operand_in l b))) y n) 0)
pass_of (Read v to) l vs used = read_to v vs used to 0
pass_of (Call q xs to) l vs used = Ok (goes_to removed (pos 0) used to 0)
pass_of (Wait i to) l vs used = Ok (goes_to removed (pos 0) used to 0)
pass_of (Signal i to) l vs used = Ok (goes_to removed (pos 0) used to 0)
pass_of (Send q v to) l vs used = Ok (goes_to removed (pos 0) used to 0)
pass_of (Recv q v to) l vs used = Ok (goes_to removed (pos 0) used to 0)
pass_of (Assert v to) l vs used = Ok (goes_to removed (pos 0) used to 0)
pass_of (Out v to) l vs used = Ok (goes_to removed (pos 0) used to 0)
pass_of Return l vs used = Ok (goes_to removed (pos 0) used 0 0)
