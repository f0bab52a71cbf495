-- A table without a fault, as a value of the declared type, is ready to run, with masks that say which nodes count as kept.
use Rattle.std.specs.Prelude.{ℕ, ◌<◌, ◌≤◌, ◌≡◌, refl, true, not, List, get_or, pos, negsuc}
use Rattle.std.proofs.Common.{arith}
use borrow.Author.Tests.{eqb-true}
use Rattle.table.specs.Cases.{cases}
use Rattle.table.specs.Mask.{bit}
use Rattle.table.specs.Table.{queue_at, proc_at, node_at, no_queue, parts, is_absent}
use Rattle.table.specs.Shape.{Shaped}
use Rattle.table.specs.declared.Operand.{Operand}
use Rattle.table.specs.declared.Operand.TheVariants.{Var, Const}
use Rattle.table.specs.declared.Node.{Node}
use Rattle.table.specs.declared.Node.TheVariants.{Absent, Start, Set, Test, Read, Call, Wait, Signal, Send, Recv, Assert, Out, Return}
use Rattle.table.specs.declared.Table.{Table}
use Rattle.text.proofs.NumberLaws.{by_order, and_left}
use Rattle.text.specs.Reader.{count_right}
use Rattle.text.specs.Right.{OperandIn}
use Rattle.text.specs.Writer.{scope, fault, queue_empty, is_zero}
use Rattle.text.specs.Valid.{NodeValid, Valid}
use Rattle.text.proofs.ValidLaws.{valid_of, far_empty, absent_is, inside_of, tidy_parts, all_behind}
use Rattle.text.proofs.PartsLaws.{count_of}
use Rattle.machine.specs.Step.{kept_in}
use Rattle.run_code.specs.Ready.{Placed, Ready}

operand_in : (n m : ℕ) (a : Operand) → n ≤ m → OperandIn n a → OperandIn m a
operand_in n m (Var v) l h = omega arith
operand_in n m (Const (pos x)) l h = h
operand_in n m (Const (negsuc x)) l h = h

module _ (t : Table) (keep : List ℕ) (s : Shaped t) (z : fault t ≡ 0) (keeps : (p n : ℕ) → p < 8 → n < 32 → bit n (get_or keep p 0) ≡ kept_in t p n) where
  v : Valid t
  v = valid_of t z

  params : (p : ℕ) → (proc_at t p).params ≤ 4
  params p = by_order p t.procs (λ l. (v.lines.proc p l).params) (λ l. omega (arith, (far_empty t v.unused p l).0))

  counts : (p : ℕ) → (proc_at t p).nodes ≤ 32
  counts p = by_order p t.procs (λ l. (v.lines.proc p l).nodes) (λ l. omega (arith, (far_empty t v.unused p l).2))

  caps : (q : ℕ) → (queue_at t q).cap ≤ 8
  caps q = by_order q t.queues
      (λ l. (v.lines.cap q l).1)
      (λ l. omega (arith, eqb-true (queue_at t q).cap 0 (and_left (is_zero (queue_at t q).cap) (not (queue_at t q).blank) (all_behind queue_empty t.queue no_queue t.queues q (tidy_parts t v.unused).2 refl l))))

  -- a valid node of a procedure that has at most 16 variables
  placed : (p n : ℕ) (x : Node) → (proc_at t p).vars ≤ 16 → NodeValid (scope t (proc_at t p)) n x → count_right t x ≡ true → Placed x
  unfolding Placed parts
  placed p n Absent l h k = tt
  placed p n (Start to) l h k = tt
  placed p n (Set x o a b to) l h k = (operand_in (proc_at t p).vars 16 a l h.2, operand_in (proc_at t p).vars 16 b l h.3)
  placed p n (Test o a b y m) l h k = (operand_in (proc_at t p).vars 16 a l h.2, operand_in (proc_at t p).vars 16 b l h.3)
  placed p n (Read x to) l h k = tt
  placed p n (Call q xs to) l h k = (omega (arith, h.1, v.lines.procs), omega (arith, eqb-true xs.len (proc_at t q).params k, params q))
  placed p n (Wait i to) l h k = omega (arith, h.1, v.lines.sems)
  placed p n (Signal i to) l h k = omega (arith, h.1, v.lines.sems)
  placed p n (Send q x to) l h k = omega (arith, h.1, v.lines.queues)
  placed p n (Recv q x to) l h k = omega (arith, h.1, v.lines.queues)
  placed p n (Assert x to) l h k = tt
  placed p n (Out x to) l h k = tt
  placed p n Return l h k = tt

  nodes : (p n : ℕ) → Placed (node_at t p n)
  unfolding Placed
  nodes p n = cases (is_absent (node_at t p n))
      (λ e. rw (absent_is (node_at t p n) e) tt)
      (λ e. let i = inside_of t z p n e in let h = v.lines.proc p i.0 in placed p n (node_at t p n) h.vars (h.node n i.1) (count_of t z p n))

  beyond : (p n : ℕ) → (p < t.procs → n < (proc_at t p).nodes → ⊥) → node_at t p n ≡ Absent
  beyond p n f = cases (is_absent (node_at t p n))
      (absent_is (node_at t p n))
      (λ e. let i = inside_of t z p n e in absurd (f i.0 i.1))

  pub ready : Ready t keep
  ready = record {
    tasks = v.lines.tasks;
    procs = v.lines.procs;
    counts = counts;
    sems = s.sems;
    queues = s.queues;
    tops = v.lines.top;
    params = params;
    caps = caps;
    nodes = nodes;
    beyond = beyond;
    keeps = keeps;
  }
