-- The rows of a node say the node.
use Rattle.std.specs.Prelude.{ℕ, ◌<◌, ◌≤◌, ◌≡◌, refl, Bool, true, false, List, [], ◌∷◌, length, get_or, pos, negsuc}
use Rattle.std.proofs.Common.{arith, ap, to_z-of_z, lt-ltb, ne_eqb}
use Rattle.std.proofs.Math.ListN.{get_or-map}
use Rattle.std.specs.Int.{w32}
use Rattle.table.specs.Mask.{pick, bit, members, members_from}
use Rattle.table.specs.Table.{parts, arc_to, arc_no, no_queue, queue_at}
use Rattle.table.specs.declared.Op.{Op}
use Rattle.table.specs.declared.Op.TheVariants.{Add, Sub, And, Or, Xor, Shr, Lt, Eq}
use Rattle.table.specs.declared.Operand.{Operand}
use Rattle.table.specs.declared.Operand.TheVariants.{Var, Const}
use Rattle.table.specs.declared.Node.{Node}
use Rattle.table.specs.declared.Node.TheVariants.{Absent, Start, Set, Test, Read, Call, Wait, Signal, Send, Recv, Assert, Out, Return}
use Rattle.table.specs.declared.Queue.{Queue}
use Rattle.table.specs.declared.Table.{Table}
use Rattle.text.specs.Right.{OperandIn}
use Rattle.values.specs.Numbered.{operation, op_number, operation_of}
use Rattle.tosses.specs.Tosses.{one_kept, straight_of}
use Rattle.run_code.specs.Ready.{Placed}
use Rattle.run_code.specs.Code.{var_of, const_of, bytes_of, consts_of, words_of, byte, operand_of, node_of, caps_of}

-- ---- operands, operations, arcs

operand_of_lem : (a : Operand) → OperandIn 16 a → operand_of (var_of a) (const_of a) ≡ a
operand_of_lem (Var v) h = rw (lt-ltb v 16 h)
operand_of_lem (Const (pos x)) h = ap Const (to_z-of_z {w = w32} (record { sfits = omega arith }))
operand_of_lem (Const (negsuc x)) h = ap Const (to_z-of_z {w = w32} (record { sfits = omega arith }))

number_low : (o : Op) → op_number o < 8
unfolding op_number
number_low o = elim o as (λ k. op_number k < 8) [ Add ↦ omega arith | Sub ↦ omega arith | And ↦ omega arith | Or ↦ omega arith | Xor ↦ omega arith | Shr ↦ omega arith | Lt ↦ omega arith | Eq ↦ omega arith ]

kept_near : (k : ℕ) (l : List ℕ) → (one_kept k l ≡ 0 → ⊥) → (l ≡ one_kept k l ∷ []) × (bit (one_kept k l) k ≡ true)
kept_near k [] h = absurd (h refl)
kept_near k (j ∷ []) h = go (bit j k) refl h
  where
    go : (b : Bool) → bit j k ≡ b → (pick b j 0 ≡ 0 → ⊥) → (j ∷ [] ≡ pick b j 0 ∷ []) × (bit (pick b j 0) k ≡ true)
    go true e h = (refl, e)
    go false e h = absurd (h refl)
kept_near k (j ∷ i ∷ l) h = absurd (h refl)

-- an arc that leads straight to a kept node has that one target
pub straight_near : (arc k : ℕ) → (straight_of arc k ≡ 0 → ⊥) → (members arc ≡ straight_of arc k ∷ []) × (bit (straight_of arc k) k ≡ true)
straight_near arc k h = kept_near k (members arc) h

pub caps_at : (t : Table) (q : ℕ) → get_or (caps_of t) q 0 ≡ (queue_at t q).cap
caps_at t q = get_or-map (λ (q : Queue). q.cap) t.queue q no_queue

-- ---- a node's rows, by kind

node_back : (cs : List ℕ) (k : ℕ) (x : Node) → Placed x → node_of (bytes_of cs k x) (words_of x) ≡ x
unfolding Placed node_of bytes_of consts_of parts
node_back cs k Absent h = refl
node_back cs k (Start to) h = refl
node_back cs k (Set v o a b to) h = λ i. Set v (operation_of o i) (operand_of_lem a h.0 i) (operand_of_lem b h.1 i) to
node_back cs k (Test o a b y n) h = λ i. Test (operation_of o i) (operand_of_lem a h.0 i) (operand_of_lem b h.1 i) y n
node_back cs k (Read v to) h = refl
node_back cs k (Call q xs to) h = refl
node_back cs k (Wait i to) h = refl
node_back cs k (Signal i to) h = refl
node_back cs k (Send q v to) h = refl
node_back cs k (Recv q v to) h = refl
node_back cs k (Assert v to) h = refl
node_back cs k (Out v to) h = refl
node_back cs k Return h = refl

-- what is known of a node's row of bytes
record Row (cs : List ℕ) (k : ℕ) (x : Node) (l : List ℕ) : Type 0 where
  long : length l ≡ 8
  low : Placed x → byte l 1 < 8
  few : Placed x → byte l 0 ≡ 5 → byte l 2 ≤ 4
  near : byte l 7 ≡ straight_of (arc_to x) k
  near_no : byte l 0 ≡ 3 → byte l 6 ≡ straight_of (arc_no x) k
  cap : byte l 0 ≡ 8 → byte l 3 ≡ get_or cs (byte l 1) 0

-- of a node that is neither a call nor a test nor a send
other : (cs : List ℕ) (k : ℕ) (x : Node) (l : List ℕ) → length l ≡ 8 → (Placed x → byte l 1 < 8) → (byte l 0 ≡ 3 → ⊥) → (byte l 0 ≡ 5 → ⊥) → (byte l 0 ≡ 8 → ⊥) → byte l 7 ≡ straight_of (arc_to x) k → Row cs k x l
other cs k x l n w a b c s = record { long = n; low = w; few = λ h e. absurd (b e); near = s; near_no = λ e. absurd (a e); cap = λ e. absurd (c e) }

row : (cs : List ℕ) (k : ℕ) (x : Node) → Row cs k x (bytes_of cs k x)
unfolding Placed bytes_of parts members_from bit
row cs k Absent = other cs k _ _ refl (λ h. omega arith) (λ e. omega arith) (λ e. omega arith) (λ e. omega arith) refl
row cs k (Start to) = other cs k _ _ refl (λ h. omega arith) (λ e. omega arith) (λ e. omega arith) (λ e. omega arith) refl
row cs k (Set v o a b to) = other cs k _ _ refl (λ h. number_low o) (λ e. omega arith) (λ e. omega arith) (λ e. omega arith) refl
row cs k (Test o a b y n) = record { long = refl; low = λ h. number_low o; few = λ h e. absurd (omega arith); near = refl; near_no = λ e. refl; cap = λ e. absurd (omega arith) }
row cs k (Read v to) = other cs k _ _ refl (λ h. omega arith) (λ e. omega arith) (λ e. omega arith) (λ e. omega arith) refl
row cs k (Call q xs to) = record { long = refl; low = λ h. h.0; few = λ h e. h.1; near = refl; near_no = λ e. absurd (omega arith); cap = λ e. absurd (omega arith) }
row cs k (Wait i to) = other cs k _ _ refl (λ h. h) (λ e. omega arith) (λ e. omega arith) (λ e. omega arith) refl
row cs k (Signal i to) = other cs k _ _ refl (λ h. h) (λ e. omega arith) (λ e. omega arith) (λ e. omega arith) refl
row cs k (Send q v to) = record { long = refl; low = λ h. h; few = λ h e. absurd (omega arith); near = refl; near_no = λ e. absurd (omega arith); cap = λ e. refl }
row cs k (Recv q v to) = other cs k _ _ refl (λ h. h) (λ e. omega arith) (λ e. omega arith) (λ e. omega arith) refl
row cs k (Assert v to) = other cs k _ _ refl (λ h. omega arith) (λ e. omega arith) (λ e. omega arith) (λ e. omega arith) refl
row cs k (Out v to) = other cs k _ _ refl (λ h. omega arith) (λ e. omega arith) (λ e. omega arith) (λ e. omega arith) refl
row cs k Return = other cs k _ _ refl (λ h. omega arith) (λ e. omega arith) (λ e. omega arith) (λ e. omega arith) refl

module _ (cs : List ℕ) (k : ℕ) (x : Node) where
  pub node_of_lem : Placed x → node_of (bytes_of cs k x) (words_of x) ≡ x
  node_of_lem h = node_back cs k x h

  pub bytes_long : length (bytes_of cs k x) ≡ 8
  bytes_long = (row cs k x).long

  pub words_long : length (words_of x) ≡ 4
  words_long = refl

  -- what a node names, a number below 8
  pub name_low : Placed x → byte (bytes_of cs k x) 1 < 8
  name_low h = (row cs k x).low h

  pub args_few : Placed x → byte (bytes_of cs k x) 0 ≡ 5 → byte (bytes_of cs k x) 2 ≤ 4
  args_few h e = (row cs k x).few h e

  pub straight_to : byte (bytes_of cs k x) 7 ≡ straight_of (arc_to x) k
  straight_to = (row cs k x).near

  pub straight_no : byte (bytes_of cs k x) 0 ≡ 3 → byte (bytes_of cs k x) 6 ≡ straight_of (arc_no x) k
  straight_no e = (row cs k x).near_no e

-- ---- the node that two rows are, by the kind's number

module _ (b w : List ℕ) where
  pub is_start : byte b 0 ≡ 1 → node_of b w ≡ Start (byte w 2)
  unfolding node_of
  is_start e = rw e

  pub is_set : byte b 0 ≡ 2 → node_of b w ≡ Set (byte b 4) (operation (byte b 1)) (operand_of (byte b 2) (byte w 0)) (operand_of (byte b 3) (byte w 1)) (byte w 2)
  unfolding node_of
  is_set e = rw e

  pub is_test : byte b 0 ≡ 3 → node_of b w ≡ Test (operation (byte b 1)) (operand_of (byte b 2) (byte w 0)) (operand_of (byte b 3) (byte w 1)) (byte w 2) (byte w 3)
  unfolding node_of
  is_test e = rw e

  pub is_read : byte b 0 ≡ 4 → node_of b w ≡ Read (byte b 4) (byte w 2)
  unfolding node_of
  is_read e = rw e

  pub is_call : byte b 0 ≡ 5 → node_of b w ≡ Call (byte b 1) (record { len = byte b 2; a0 = byte b 3; a1 = byte b 4; a2 = byte b 5; a3 = byte b 6 }) (byte w 2)
  unfolding node_of
  is_call e = rw e

  pub is_wait : byte b 0 ≡ 6 → node_of b w ≡ Wait (byte b 1) (byte w 2)
  unfolding node_of
  is_wait e = rw e

  pub is_signal : byte b 0 ≡ 7 → node_of b w ≡ Signal (byte b 1) (byte w 2)
  unfolding node_of
  is_signal e = rw e

  pub is_send : byte b 0 ≡ 8 → node_of b w ≡ Send (byte b 1) (byte b 2) (byte w 2)
  unfolding node_of
  is_send e = rw e

  pub is_recv : byte b 0 ≡ 9 → node_of b w ≡ Recv (byte b 1) (byte b 2) (byte w 2)
  unfolding node_of
  is_recv e = rw e

  pub is_assert : byte b 0 ≡ 10 → node_of b w ≡ Assert (byte b 2) (byte w 2)
  unfolding node_of
  is_assert e = rw e

  pub is_out : byte b 0 ≡ 11 → node_of b w ≡ Out (byte b 2) (byte w 2)
  unfolding node_of
  is_out e = rw e

  pub is_return : byte b 0 ≡ 12 → node_of b w ≡ Return
  unfolding node_of
  is_return e = rw e

-- the number of no kind
abbrev pub NoKind : ℕ → Type 0
NoKind n = (n ≡ 1 → ⊥) × (n ≡ 2 → ⊥) × (n ≡ 3 → ⊥) × (n ≡ 4 → ⊥) × (n ≡ 5 → ⊥) × (n ≡ 6 → ⊥) × (n ≡ 7 → ⊥) × (n ≡ 8 → ⊥) × (n ≡ 9 → ⊥) × (n ≡ 10 → ⊥) × (n ≡ 11 → ⊥) × (n ≡ 12 → ⊥)

pub is_absent : (b w : List ℕ) → NoKind (byte b 0) → node_of b w ≡ Absent
unfolding node_of
is_absent b w h =
    let k = byte b 0 in
    rw (ne_eqb k 1 h.0, ne_eqb k 2 h.1, ne_eqb k 3 h.2, ne_eqb k 4 h.3, ne_eqb k 5 h.4, ne_eqb k 6 h.5)
    (rw (ne_eqb k 7 h.6, ne_eqb k 8 h.7, ne_eqb k 9 h.8, ne_eqb k 10 h.9, ne_eqb k 11 h.10, ne_eqb k 12 h.11))
