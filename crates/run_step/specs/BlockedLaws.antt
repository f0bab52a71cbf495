-- A task's node by the arrays: whether it is blocked, and what stops the task before its step.
use Rattle.std.specs.Prelude.{ℕ, ◌+◌, ◌-◌, ◌*◌, ◌<◌, ◌≤◌, Bool, List, [], length, get_or, eqb, leb, Ok, Err}
use native.Mathlib.Omega.{arith}
use Rattle.std.proofs.Math.Path.{◌≡◌, refl, ap}
use Rattle.std.proofs.Common.{sym, ◌∙◌}
use Rattle.std.proofs.Math.Bool.{true, false}
use Rattle.std.proofs.Math.Option.{none, some}
use Rattle.table.specs.Mask.{pick}
use Rattle.table.specs.Table.{node_at, parts, act}
use Rattle.table.specs.declared.Node.{Node}
use Rattle.table.specs.declared.Node.TheVariants.{Absent, Start, Set, Test, Read, Call, Wait, Signal, Send, Recv, Assert, Out, Return}
use Rattle.table.specs.declared.Table.{Table}
use Rattle.machine.specs.declared.State.{State}
use Rattle.machine.specs.State.{open_frames, is_lost, place, stands_before, blocked_at, blocked}
use Rattle.machine.specs.Step.{task_lost, task_blocked, before}
use Rattle.tosses.specs.declared.Stop.TheVariants.{TaskLost, TaskBlocked}
use Rattle.run_code.specs.Ready.{Placed}
use Rattle.run_code.specs.Code.{byte, bytes_of, caps_of}
use Rattle.run_code.specs.CodeLaws.{bytes_long, name_low, caps_at}
use Rattle.run_state.specs.Good.{frame_in, Shape}
use Rattle.run_state.specs.Arrays.{lost_mark, marks_of}
use Rattle.run_state.specs.ArrayLaws.{depth_at, lost_at, sem_at, len_at}
use Rattle.run_step.specs.Effects.{stuck_of}
use Rattle.run_step.specs.Steps.{Marked, Asked, before_of, top_in, row_in}
use Rattle.run_step.specs.GoLaws.{proc_is, node_is, frame_asks, row_low, bytes_are, placed}

-- the bytes of a node say whether it is blocked
pub stuck_right : (t : Table) (s : State) (h : Shape s) (k i : ℕ) (x : Node) → Placed x
    → stuck_of (byte (bytes_of (caps_of t) k x) 0) (bytes_of (caps_of t) k x) (marks_of s) (open_frames s i) ≡ blocked_at t s i (act x)
unfolding stuck_of bytes_of blocked_at parts Placed
stuck_right t s h k i Absent p = refl
stuck_right t s h k i (Start to) p = refl
stuck_right t s h k i (Set v o a b to) p = refl
stuck_right t s h k i (Test o a b y n) p = refl
stuck_right t s h k i (Read v to) p = refl
stuck_right t s h k i (Call q xs to) p = refl
stuck_right t s h k i (Wait q to) p = ap (λ (c : ℕ). eqb c 0) (sem_at s h q p)
stuck_right t s h k i (Signal q to) p = ap (λ (c : ℕ). leb 255 c) (sem_at s h q p)
stuck_right t s h k i (Send q v to) p = λ ι. leb (caps_at t q ι) (len_at s h q p ι)
stuck_right t s h k i (Recv q v to) p = ap (λ (c : ℕ). eqb c 0) (len_at s h q p)
stuck_right t s h k i (Assert v to) p = refl
stuck_right t s h k i (Out v to) p = refl
stuck_right t s h k i Return p = refl

module _ (t : Table) (s : State) (keep : List ℕ) (code : List (List ℕ)) (marks : List ℕ) (marked : Marked t s keep code marks) (i : ℕ) (task : i < t.tasks) where
  pub task_low : i < 4
  task_low = omega (arith, task, marked.ready.tasks)

  pub depth_is : byte marks i ≡ open_frames s i
  depth_is = ap (λ (m : List ℕ). byte m i) marked.marks_are ∙ depth_at s marked.good.shape i task_low

  pub lost_is : byte marks (4 + i) ≡ lost_mark (is_lost s i)
  lost_is = ap (λ (m : List ℕ). byte m (4 + i)) marked.marks_are ∙ lost_at s marked.good.shape i task_low

  pub opened : 0 < byte marks i
  opened = rw depth_is (marked.good.opened i task)

  pub bounded : byte marks i ≤ 8
  bounded = rw depth_is (marked.good.bounded i)

  -- the place of its topmost frame
  pub top_low : top_in marks i < 32
  top_low = omega (arith, task_low, opened, bounded)

  abbrev top : ℕ
  top = top_in marks i

  pub top_is : top ≡ place i (open_frames s i - 1)
  top_is = ap (λ (d : ℕ). 8 * i + (d - 1)) depth_is

  abbrev mask : ℕ
  mask = get_or keep (byte marks (32 + top)) 0

  pub stands_is : node_at t (byte marks (32 + top)) (byte marks (64 + top)) ≡ stands_before t s i
  stands_is =
      (λ ι. node_at t (proc_is t s keep code marks marked top top_low ι) (node_is t s keep code marks marked top top_low ι))
      ∙ ap (λ (f : ℕ). node_at t (frame_in s.frames f).proc (frame_in s.frames f).node) top_is

  -- its row, and what the code leans on there
  module _ (a : ℕ) (row : a ≡ row_in marks top) where
    bytes_here : get_or code a [] ≡ bytes_of (caps_of t) mask (stands_before t s i)
    bytes_here = ap (λ (x : ℕ). get_or code x []) row ∙ bytes_are t s keep code marks marked top top_low ∙ ap (bytes_of (caps_of t) mask) stands_is

    here_placed : Placed (stands_before t s i)
    here_placed = rw stands_is at (placed t s keep code marks marked top top_low)

    pub row_here : (a < 256) × ((length (get_or code a []) ≡ 8) × (byte (get_or code a []) 1 < 8))
    row_here = (
      omega (arith, row, row_low t s keep code marks marked top top_low),
      (ap length bytes_here ∙ bytes_long (caps_of t) mask (stands_before t s i), rw bytes_here (name_low (caps_of t) mask (stands_before t s i) here_placed)),
    )

    module _ (d : ℕ) (deep : d ≡ byte marks i) where
      pub stuck_is : stuck_of (byte (get_or code a []) 0) (get_or code a []) marks d ≡ blocked t s i
      stuck_is =
          (λ ι. stuck_of (byte (bytes_here ι) 0) (bytes_here ι) (marked.marks_are ι) ((deep ∙ depth_is) ι))
          ∙ stuck_right t s marked.good.shape mask i (stands_before t s i) here_placed

      abbrev stuck : Bool
      stuck = stuck_of (byte (get_or code a []) 0) (get_or code a []) marks d

      pub before_lost : (byte marks (4 + i) ≡ 0 → ⊥) → Err TaskLost ≡ before_of (before t s i)
      unfolding before
      before_lost h = go (is_lost s i) (λ e. h (lost_is ∙ ap lost_mark e))
        where
          go : (b : Bool) → (b ≡ false → ⊥) → Err TaskLost ≡ before_of (elim b [ true ↦ some task_lost | false ↦ pick (blocked t s i) (some task_blocked) none ])
          go true n = refl
          go false n = absurd (n refl)

      pub before_here : byte marks (4 + i) ≡ 0 → pick stuck (Err TaskBlocked) (Ok tt) ≡ before_of (before t s i)
      unfolding before
      before_here h = ap (λ (b : Bool). pick b (Err TaskBlocked) (Ok tt)) stuck_is ∙ go (is_lost s i) (blocked t s i) (λ e. one (sym h ∙ lost_is ∙ ap lost_mark e))
        where
          one : ◌≡◌ {A = ℕ} 0 1 → ⊥
          one e = omega arith

          go : (b k : Bool) → (b ≡ true → ⊥) → pick k (Err TaskBlocked) (Ok tt) ≡ before_of (elim b [ true ↦ some task_lost | false ↦ pick k (some task_blocked) none ])
          go true k n = absurd (n refl)
          go false true n = refl
          go false false n = refl

-- what `top` and `row_at` ask for
module _ {i : ℕ} {code : List (List ℕ)} {marks : List ℕ} (p : Asked i code marks) where
  pub top_asks : (i < 4) × ((0 < byte marks i) × (byte marks i ≤ 8))
  top_asks = let t = p.t in let s = p.s in let m = p.marked in (task_low t s p.keep code marks m i p.task, (opened t s p.keep code marks m i p.task, bounded t s p.keep code marks m i p.task))

  pub row_asks : (f : ℕ) → f ≡ top_in marks i → (f < 32) × ((byte marks (32 + f) < 8) × (byte marks (64 + f) < 32))
  row_asks f e = frame_asks p.t p.s p.keep code marks p.marked f (rw e (top_low p.t p.s p.keep code marks p.marked i p.task))
