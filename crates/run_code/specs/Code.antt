-- A table decoded into numbers: for each node a row of eight bytes and a row of four words.
use Rattle.std.specs.Prelude.{ℕ, ◌+◌, ◌*◌, ◌<◌, ◌≤◌, ◌≡◌, List, [], ◌∷◌, map, length, get_or, replicate, eqb, ltb}
use Rattle.std.specs.Int.{w32}
use Rattle.std.proofs.Common.{of_z, to_z}
use Rattle.table.specs.Mask.{pick}
use Rattle.table.specs.Table.{proc_at, node_in, node_at, arc_to, arc_no}
use Rattle.table.specs.declared.Operand.{Operand}
use Rattle.table.specs.declared.Operand.TheVariants.{Var, Const}
use Rattle.table.specs.declared.Node.{Node}
use Rattle.table.specs.declared.Node.TheVariants.{Absent, Start, Set, Test, Read, Call, Wait, Signal, Send, Recv, Assert, Out, Return}
use Rattle.table.specs.declared.Queue.{Queue}
use Rattle.table.specs.declared.Proc.{Proc}
use Rattle.table.specs.declared.Table.{Table}
use Rattle.values.specs.Numbered.{operation, op_number}
use Rattle.tosses.specs.Tosses.{straight_of}
use Rattle.run_code.specs.declared.Decoded.{Decoded}
use Rattle.run_code.specs.Ready.{Placed}

-- ---- a node's rows

-- the variable that an operand is, 255 if it is a constant
abbrev pub var_of : Operand → ℕ
var_of (Var v) = v
var_of (Const c) = 255

-- the bits of the constant that an operand is, 0 if it is a variable
abbrev pub const_of : Operand → ℕ
const_of (Var v) = 0
const_of (Const c) = of_z w32 c

abbrev pub eight : ℕ → ℕ → ℕ → ℕ → ℕ → ℕ → ℕ → ℕ → List ℕ
eight a b c d e f g h = a ∷ b ∷ c ∷ d ∷ e ∷ f ∷ g ∷ h ∷ []

abbrev pub four : ℕ → ℕ → ℕ → ℕ → List ℕ
four a b c d = a ∷ b ∷ c ∷ d ∷ []

-- the kind; then its numbers, a send's with its queue's capacity; last the kept node that its arc leads straight to, and before that the one of a test's arc at `no`.
-- The queues' capacities and the mask of the procedure's kept nodes are given
unfoldable pub bytes_of : List ℕ → ℕ → Node → List ℕ
bytes_of cs k Absent = eight 0 0 0 0 0 0 0 0
bytes_of cs k (Start to) = eight 1 0 0 0 0 0 0 (straight_of to k)
bytes_of cs k (Set v o a b to) = eight 2 (op_number o) (var_of a) (var_of b) v 0 0 (straight_of to k)
bytes_of cs k (Test o a b y n) = eight 3 (op_number o) (var_of a) (var_of b) 0 0 (straight_of n k) (straight_of y k)
bytes_of cs k (Read v to) = eight 4 0 0 0 v 0 0 (straight_of to k)
bytes_of cs k (Call q xs to) = eight 5 q xs.len xs.a0 xs.a1 xs.a2 xs.a3 (straight_of to k)
bytes_of cs k (Wait i to) = eight 6 i 0 0 0 0 0 (straight_of to k)
bytes_of cs k (Signal i to) = eight 7 i 0 0 0 0 0 (straight_of to k)
bytes_of cs k (Send q v to) = eight 8 q v (get_or cs q 0) 0 0 0 (straight_of to k)
bytes_of cs k (Recv q v to) = eight 9 q v 0 0 0 0 (straight_of to k)
bytes_of cs k (Assert v to) = eight 10 0 v 0 0 0 0 (straight_of to k)
bytes_of cs k (Out v to) = eight 11 0 v 0 0 0 0 (straight_of to k)
bytes_of cs k Return = eight 12 0 0 0 0 0 0 0

-- the bits of the constants of a set or a test; the arcs
unfoldable pub consts_of : Node → ℕ × ℕ
consts_of Absent = (0, 0)
consts_of (Start to) = (0, 0)
consts_of (Set v o a b to) = (const_of a, const_of b)
consts_of (Test o a b y n) = (const_of a, const_of b)
consts_of (Read v to) = (0, 0)
consts_of (Call q xs to) = (0, 0)
consts_of (Wait i to) = (0, 0)
consts_of (Signal i to) = (0, 0)
consts_of (Send q v to) = (0, 0)
consts_of (Recv q v to) = (0, 0)
consts_of (Assert v to) = (0, 0)
consts_of (Out v to) = (0, 0)
consts_of Return = (0, 0)

abbrev pub words_of : Node → List ℕ
words_of x = four (consts_of x).0 (consts_of x).1 (arc_to x) (arc_no x)

abbrev pub rows_of : List ℕ → ℕ → ℕ → ℕ → ℕ → Decoded
rows_of l a b y n = record { bytes = l; words = four a b y n }

abbrev pub decoded_of : List ℕ → ℕ → Node → Decoded
decoded_of cs k x = record { bytes = bytes_of cs k x; words = words_of x }

-- ---- the node that two rows are

abbrev pub byte : List ℕ → ℕ → ℕ
byte l i = get_or l i 0

abbrev pub operand_of : ℕ → ℕ → Operand
operand_of v c = pick (ltb v 16) (Var v) (Const (to_z w32 c))

unfoldable pub node_of : List ℕ → List ℕ → Node
node_of b w =
    let k = byte b 0 in let to = byte w 2 in
    pick (eqb k 1) (Start to)
    (pick (eqb k 2) (Set (byte b 4) (operation (byte b 1)) (operand_of (byte b 2) (byte w 0)) (operand_of (byte b 3) (byte w 1)) to)
    (pick (eqb k 3) (Test (operation (byte b 1)) (operand_of (byte b 2) (byte w 0)) (operand_of (byte b 3) (byte w 1)) to (byte w 3))
    (pick (eqb k 4) (Read (byte b 4) to)
    (pick (eqb k 5) (Call (byte b 1) (record { len = byte b 2; a0 = byte b 3; a1 = byte b 4; a2 = byte b 5; a3 = byte b 6 }) to)
    (pick (eqb k 6) (Wait (byte b 1) to)
    (pick (eqb k 7) (Signal (byte b 1) to)
    (pick (eqb k 8) (Send (byte b 1) (byte b 2) to)
    (pick (eqb k 9) (Recv (byte b 1) (byte b 2) to)
    (pick (eqb k 10) (Assert (byte b 2) to)
    (pick (eqb k 11) (Out (byte b 2) to)
    (pick (eqb k 12) Return Absent)))))))))))

-- ---- a table's rows: node n of procedure p stands in row 32 p + n

-- the queues' capacities
abbrev pub queue_caps : List Queue → List ℕ
queue_caps l = map (λ (q : Queue). q.cap) l

abbrev pub caps_of : Table → List ℕ
caps_of t = queue_caps t.queue

abbrev pub Coded : Table → List ℕ → List (List ℕ) → Type 0
Coded t keep code = (p n : ℕ) → p < 8 → n < 32 → get_or code (32 * p + n) [] ≡ bytes_of (caps_of t) (get_or keep p 0) (node_at t p n)

abbrev pub Worded : Table → List (List ℕ) → Type 0
Worded t words = (p n : ℕ) → p < 8 → n < 32 → get_or words (32 * p + n) [] ≡ words_of (node_at t p n)

-- how many inputs a task takes whose top is p
abbrev pub takes_of : Table → ℕ → ℕ
takes_of t p = pick t.closed 0 (proc_at t p).params

-- rows of arrays that were all 0
abbrev pub no_code : List (List ℕ)
no_code = replicate 256 (replicate 8 0)

abbrev pub no_words : List (List ℕ)
no_words = replicate 256 (replicate 4 0)

-- ---- the rows of a procedure

-- `after` is `before` but for n rows from `base` on, which f says
pub record Laid (base n : ℕ) (f : ℕ → List ℕ) (before after : List (List ℕ)) : Type 0 where
  pub long : length after ≡ length before
  pub laid : (i : ℕ) → i < n → get_or after (base + i) [] ≡ f i
  pub others : (a : ℕ) → (base ≤ a → a < base + n → ⊥) → get_or after a [] ≡ get_or before a []

-- a procedure's rows have a place from `base` on
pub record Room (q : Proc) (base : ℕ) (code words : List (List ℕ)) : Type 0 where
  pub low : base ≤ 224
  pub few : q.nodes ≤ 32
  pub placed : (n : ℕ) → Placed (node_in q n)
  pub code_long : length code ≡ 256
  pub words_long : length words ≡ 256
