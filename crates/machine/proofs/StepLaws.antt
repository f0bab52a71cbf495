-- Arcs: one target is taken with no toss; of several each is taken by some one toss, and nothing else is used. The entry of a step has its task.
use Rattle.std.specs.Prelude.{ℕ, zero, suc, ◌-◌, ◌<◌, ◌≡◌, refl, length, ℤ, pos}
use Rattle.std.proofs.Common.{arith, sym, ap}
use Rattle.std.proofs.Math.Path.{subst}
use Rattle.std.proofs.Math.Option.{Option, none, some}
use mathlib.Core.List.Memᴰ
use mathlib.Core.List.{List, [], ◌∷◌, ◌++◌, map, Memᴰ}
use Rattle.std.proofs.Math.ListN.{get_elem?}
use Rattle.table.specs.Mask.{members}
use Rattle.table.specs.MaskLaws.{members_few}
use Rattle.table.specs.Table.{node_at, arc_to}
use Rattle.table.specs.declared.Table.{Table}
use Rattle.closing.proofs.ListLaws.{All, all_nil, all_cons}
use Rattle.machine.specs.declared.Frame.{Frame}
use Rattle.machine.specs.declared.State.{State}
use Rattle.machine.specs.State.{open_frames, frame_at, topmost, stands_before}
use Rattle.machine.specs.Step.{Stop, Does, opens, closes, goes, stops, exec, node, tossed, choose_from, choose, Kept, Walk, halts, arrives, along, walk, Entry, Step, stopped, stepped, settled, returned, memory, entry_of, step_as, step_of, before, unless, step}

-- an arc with one target
pub choose_one : (a m : ℕ) (vs : List ℤ) → members a ≡ m ∷ [] → choose a vs ≡ node m vs
unfolding choose
choose_one a m vs e = ap (λ (ms : List ℕ). choose_from ms vs) e

pub index_of : {A : Type 0} (a : A) (l : List A) → Memᴰ a l → (i : ℕ) × (i < length l) × (get_elem? l i ≡ some a)
index_of a l (Memᴰ.head e) = (zero, omega arith, ap some (sym e))
index_of a l (Memᴰ.tail {xs = r} m) = let j = index_of a r m in (suc j.0, omega (arith, j.1), j.2)

choose_from_lem : (k : ℕ) (ms : List ℕ) → Memᴰ k ms → (is : List ℕ) × All (λ i. i < length ms) is × ((ws : List ℤ) → choose_from ms (map pos is ++ ws) ≡ node k ws)
choose_from_lem k [] m = absurd (Memᴰ.not-nil m)
choose_from_lem k (a ∷ []) (Memᴰ.head e) = ([], all_nil _, λ ws. ap (λ (z : ℕ). node z ws) (sym e))
choose_from_lem k (a ∷ []) (Memᴰ.tail m) = absurd (Memᴰ.not-nil m)
choose_from_lem k (a ∷ b ∷ ms) m = let i = index_of k (a ∷ b ∷ ms) m in (i.0 ∷ [], all_cons _ i.0 [] i.1 (all_nil _), λ ws. ap (λ (z : Option ℕ). tossed z ws) i.2)

-- some toss, or none where there is nothing to choose, leads to a given target; it is below 32
pub choose_some : (k a : ℕ) → Memᴰ k (members a) → (is : List ℕ) × All (λ i. i < 32) is × ((ws : List ℤ) → choose a (map pos is ++ ws) ≡ node k ws)
unfolding choose
choose_some k a m = let c = choose_from_lem k (members a) m in (c.0, λ i d. omega (arith, c.1 i d, members_few a), c.2)

-- ---- the entry is the task's own

module _ (t : Table) (keep : Kept) (most : ℕ) (s : State) (k : ℕ) where
  abbrev OfTask : Step → Type 0
  OfTask (stopped c) = Unit {0}
  OfTask (stepped e ns z ws) = e.task ≡ k

  settled_task : (f : Frame) (o : Option ℤ) (z : State) (j p : ℕ) (w : Walk) → OfTask (settled (entry_of k f o) z k j p w)
  settled_task f o z j p (halts c) = tt
  settled_task f o z j p (arrives w m ws ns) = refl

  as_task : (f : Frame) (vs : List ℤ) (d : Does) → OfTask (step_as t keep most s k f vs d)
  as_task f vs (opens g) = refl
  as_task f vs closes =
      let g = frame_at s k (open_frames s k - 2) in
      let w = along (λ n m ws. walk t keep k g.proc most n m ws) (memory s g) (choose (arc_to (node_at t g.proc g.node)) vs) in
      settled_task f none (returned s k) (open_frames s k - 2) g.proc w
  as_task f vs (goes arc m ws o) = settled_task f o s (open_frames s k - 1) f.proc (along (λ n m vs. walk t keep k f.proc most n m vs) m (choose arc ws))
  as_task f vs (stops c) = tt

  unless_task : (o : Option Stop) (r : Step) → OfTask r → OfTask (unless o r)
  unless_task none r h = h
  unless_task (some c) r h = tt

  pub step_task : (vs : List ℤ) (e : Entry) (ns : List ℕ) (z : State) (rest : List ℤ) → step t keep most s k vs ≡ stepped e ns z rest → e.task ≡ k
  unfolding step step_of
  step_task vs e ns z rest h =
      subst OfTask h (unless_task (before t s k) (step_of t keep most s k vs) (as_task (topmost s k) vs (exec t k (stands_before t s k) (memory s (topmost s k)) vs)))
