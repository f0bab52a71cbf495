-- What executing a node does, by its act: a call opens a frame, a return closes one, any other node goes on or stops; a read alone takes a value.
use Rattle.std.specs.Prelude.{ℕ, ◌≡◌, ℤ}
use Rattle.std.proofs.Math.Path.{refl}
use mathlib.Core.List.{List, [], ◌∷◌}
use Rattle.std.proofs.Math.Option.{Option, none}
use Rattle.table.specs.Table.{calls, returns, act, parts}
use Rattle.table.specs.declared.Args.{Args}
use Rattle.table.specs.declared.Node.{Node}
use Rattle.table.specs.declared.Node.TheVariants.{Absent, Start, Set, Test, Read, Call, Wait, Signal, Send, Recv, Assert, Out, Return}
use Rattle.table.specs.declared.Table.{Table}
use Rattle.machine.specs.Step.{Stop, values_spent, Memory, value_of, entering, Does, opens, closes, goes, stops, exec}

pub data Executes (x : Node) (m : Memory) (vs : List ℤ) (d : Does) : Type 0 where
  calling : (q : ℕ) (xs : Args) → act x ≡ calls q xs → d ≡ opens (entering m.vars q xs) → Executes x m vs d
  returning : act x ≡ returns → d ≡ closes → Executes x m vs d
  going : (arc : ℕ) (m' : Memory) (ws : List ℤ) (o : Option ℤ) → (((v to : ℕ) → x ≡ Read v to → ⊥) → ws ≡ vs) → d ≡ goes arc m' ws o → Executes x m vs d
  stopping : (c : Stop) → d ≡ stops c → Executes x m vs d

module _ (t : Table) (k : ℕ) (m : Memory) where
  read_view : (v to : ℕ) (vs : List ℤ) → Executes (Read v to) m vs (exec t k (Read v to) m vs)
  unfolding exec
  read_view v to [] = stopping values_spent refl
  read_view v to (x ∷ vs) = going to _ vs none (λ h. absurd (h v to refl)) refl

  pub exec_view : (x : Node) (vs : List ℤ) → Executes x m vs (exec t k x m vs)
  unfolding exec parts
  exec_view Absent vs = going 0 m vs none (λ h. refl) refl
  exec_view (Start to) vs = going to m vs none (λ h. refl) refl
  exec_view (Set v o a b to) vs = going to _ vs none (λ h. refl) refl
  exec_view (Test o a b y n) vs = going _ m vs none (λ h. refl) refl
  exec_view (Read v to) vs = read_view v to vs
  exec_view (Call q xs to) vs = calling q xs refl refl
  exec_view (Wait i to) vs = going to _ vs none (λ h. refl) refl
  exec_view (Signal i to) vs = going to _ vs none (λ h. refl) refl
  exec_view (Send q v to) vs = going to _ vs none (λ h. refl) refl
  exec_view (Recv q v to) vs = going to _ vs none (λ h. refl) refl
  exec_view (Assert v to) vs = going to m vs (value_of m.vars v) (λ h. refl) refl
  exec_view (Out v to) vs = going to m vs (value_of m.vars v) (λ h. refl) refl
  exec_view Return vs = returning refl refl
