-- The closed table of a value of the declared type is one too: as many places, and masks of 32 bits.
use Rattle.std.specs.Prelude.{ℕ, ◌^◌, ◌<◌, ◌≤◌}
use native.Mathlib.Omega.{arith}
use Rattle.std.proofs.Common.{◌∙◌, pow_mono, lt_of_lt_of_le}
use Rattle.std.proofs.Math.Path.{ap}
use Rattle.std.proofs.Math.ListN.{length}
use Rattle.table.specs.Cases.{cases}
use Rattle.table.specs.MaskLaws.{mask_of_lt}
use Rattle.table.specs.Table.{node_at, proc_at, Exit, ends, by, either, act, first_arc, second_arc, arc_to, arc_no, parts}
use Rattle.table.specs.NodeLaws.{map_exit, mapped}
use Rattle.table.specs.declared.Node.{Node}
use Rattle.table.specs.declared.Proc.{Proc}
use Rattle.table.specs.declared.Table.{Table}
use Rattle.table.specs.Shape.{Shaped}
use Rattle.closing.specs.Closing.{dirty, kept}
use Rattle.closing.specs.Close.{unkept_arcs, kept_among, new_arc, var_or, closed_node, closed_proc, closed_with, close_table}
use Rattle.closing.proofs.CloseLaws.{map_from_length, close_proc, kept_node, unkept_node}

module _ (t : Table) (s : Shaped t) (few : (p : ℕ) → (proc_at t p).params ≤ 4) where
  abbrev Low : Node → Type 0
  Low x = (arc_to x < 2 ^ 32) × (arc_no x < 2 ^ 32)

  new_low : (p m : ℕ) → new_arc t (dirty t) p (unkept_arcs t (dirty t) p) m < 2 ^ 32
  unfolding new_arc kept_among
  new_low p m = mask_of_lt 32 _

  low_exit : (f : ℕ → ℕ) → ((m : ℕ) → f m < 2 ^ 32) → (e : Exit) → (first_arc (map_exit f e) < 2 ^ 32) × (second_arc (map_exit f e) < 2 ^ 32)
  low_exit f h ends = (omega arith, omega arith)
  low_exit f h (by m) = (h m, omega arith)
  low_exit f h (either y n) = (h y, h n)

  low_node : (p n : ℕ) (f : ℕ → ℕ) → ((m : ℕ) → f m < 2 ^ 32) → (x : Node) → Low (closed_node t (dirty t) p n f x)
  unfolding closed_node
  low_node p n f h x = rw (mapped f (var_or t (dirty t) p n (act x)) x).exit (low_exit f h (parts x).exit)

  low_arcs : (p n : ℕ) → Low (node_at (close_table t) p n)
  unfolding parts
  low_arcs p n = cases (kept (dirty t) p n (node_at t p n))
      (λ k. rw (kept_node t p n k) (low_node p n _ (new_low p) (node_at t p n)))
      (λ k. rw (unkept_node t p n k) (omega arith, omega arith))

  pub closed_shaped : Shaped (close_table t)
  unfolding close_table closed_with closed_proc
  closed_shaped = record {
    tasks = s.tasks;
    sems = s.sems;
    queues = map_from_length _ 0 t.queue ∙ s.queues;
    procs = map_from_length _ 0 t.proc ∙ s.procs;
    slots = λ p l. ap (λ (q : Proc). length q.slots) (close_proc t p) ∙ map_from_length _ 0 (proc_at t p).slots ∙ s.slots p l;
    drops = λ p. rw (ap (λ (q : Proc). q.drop) (close_proc t p)) (lt_of_lt_of_le (mask_of_lt (proc_at t p).params _) (pow_mono {i = (proc_at t p).params} {j = 32} (omega (arith, few p))));
    arcs = low_arcs;
  }
