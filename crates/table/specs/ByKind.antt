-- A law of every node, from what it says at each kind. Where `search` finds that, `by_kind (search L)` is the whole proof, and no new kind meets it.
use Rattle.std.specs.Prelude.{ℕ}
use Rattle.table.specs.declared.Operand.{Operand}
use Rattle.table.specs.declared.Op.{Op}
use Rattle.table.specs.declared.Args.{Args}
use Rattle.table.specs.declared.Node.{Node}
use Rattle.table.specs.declared.Node.TheVariants.{Absent, Start, Set, Test, Read, Call, Wait, Signal, Send, Recv, Assert, Out, Return}

pub record Each {ℓ} (P : Node → Type ℓ) : Type ℓ where
  pub absent : P Absent
  pub start : (to : ℕ) → P (Start to)
  pub set : (v : ℕ) (o : Op) (a b : Operand) (to : ℕ) → P (Set v o a b to)
  pub test : (o : Op) (a b : Operand) (y n : ℕ) → P (Test o a b y n)
  pub read : (v to : ℕ) → P (Read v to)
  pub call : (q : ℕ) (xs : Args) (to : ℕ) → P (Call q xs to)
  pub wait : (s to : ℕ) → P (Wait s to)
  pub signal : (s to : ℕ) → P (Signal s to)
  pub send : (q v to : ℕ) → P (Send q v to)
  pub recv : (q v to : ℕ) → P (Recv q v to)
  pub assert : (v to : ℕ) → P (Assert v to)
  pub out : (v to : ℕ) → P (Out v to)
  pub return : P Return

pub by_kind {ℓ} : {P : Node → Type ℓ} → Each P → (x : Node) → P x
by_kind {P} h x = elim x as (λ k. P k) [
  | Absent ↦ h.absent
  | Start to ↦ h.start to
  | Set v o a b to ↦ h.set v o a b to
  | Test o a b y n ↦ h.test o a b y n
  | Read v to ↦ h.read v to
  | Call q xs to ↦ h.call q xs to
  | Wait s to ↦ h.wait s to
  | Signal s to ↦ h.signal s to
  | Send q v to ↦ h.send q v to
  | Recv q v to ↦ h.recv q v to
  | Assert v to ↦ h.assert v to
  | Out v to ↦ h.out v to
  | Return ↦ h.return
]
