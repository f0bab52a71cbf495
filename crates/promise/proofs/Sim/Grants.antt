-- What the reader grants: an open table without a fault is well formed.
use Rattle.std.specs.Prelude.{ℕ, ◌<◌, ◌≡◌, true, false}
use Rattle.std.proofs.Common.{arith, eqb-true}
use Rattle.table.specs.Cases.{cases}
use Rattle.table.specs.Mask.{bit, members_from}
use Rattle.table.specs.Table.{node_at, proc_at, task_at, Exit, ends, by, either, Act, alone, waits, signals, sends, receives, calls, returns, parts, act, arcs, is_absent}
use Rattle.table.specs.declared.Node.{Node}
use Rattle.table.specs.declared.Node.TheVariants.{Absent}
use Rattle.table.specs.declared.Table.{Table}
use Rattle.text.proofs.NumberLaws.{by_order}
use Rattle.text.specs.Reader.{count_by}
use Rattle.text.specs.Writer.{scope, fault}
use Rattle.text.specs.Valid.{ActValid, ExitValid, Valid}
use Rattle.text.proofs.LinedLaws.{arcs_within}
use Rattle.text.proofs.ValidLaws.{valid_of, absent_is, far_empty, inside_of, open_present, start_at}
use Rattle.text.proofs.PartsLaws.{PartsIn, parts_of, count_of}
use Rattle.closing.proofs.ListLaws.{All, all_nil}
use Rattle.promise.proofs.Sim.Wf.{OneTarget, Declared, Wf}

module _ (t : Table) (z : fault t ≡ 0) (o : t.closed ≡ false) where
  v : Valid t
  v = valid_of t z

  declared : (p n : ℕ) → PartsIn (scope t (proc_at t p)) (node_at t p n)
  declared p n = parts_of t z p n

  one_target : (p : ℕ) (e : Exit) → ExitValid (scope t (proc_at t p)) e → OneTarget e
  one_target p ends h = tt
  one_target p (by m) h = h.1 o
  one_target p (either y n) h = (h.0.1 o, h.1.1 o)

  acts_on : (p : ℕ) (a : Act) → ActValid (scope t (proc_at t p)) a → count_by t a ≡ true → Declared t a
  acts_on p alone h k = tt
  acts_on p (waits i) h k = h
  acts_on p (signals i) h k = h
  acts_on p (sends q x) h k = h.0
  acts_on p (receives q x) h k = h.0
  acts_on p (calls q xs) h k = (eqb-true xs.len (proc_at t q).params k, start_at t v q h.0)
  acts_on p returns h k = tt

  -- what holds of an absent node, and of one within the counts, holds of every node
  at_node : (P : Node → Type 0) (p n : ℕ) → P Absent → (p < t.procs → n < (proc_at t p).nodes → P (node_at t p n)) → P (node_at t p n)
  at_node P p n a f = cases (is_absent (node_at t p n))
      (λ e. rw (absent_is (node_at t p n) e) a)
      (λ e. let i = inside_of t z p n e in f i.0 i.1)

  targets : (p n : ℕ) → All (λ m. is_absent (node_at t p m) ≡ false) (arcs (node_at t p n))
  unfolding parts members_from bit
  targets p n = at_node (λ x. All (λ m. is_absent (node_at t p m) ≡ false) (arcs x)) p n (all_nil _)
      (λ l k m d. open_present t v o p m l (arcs_within (scope t (proc_at t p)) n (node_at t p n) ((v.lines.proc p l).node n k) m d).1)

  pub wf : Wf t
  wf = record {
    tasks = v.lines.tasks;
    params = λ p. by_order p t.procs (λ l. (v.lines.proc p l).params) (λ l. omega (arith, (far_empty t v.unused p l).0));
    vars = λ p. by_order p t.procs (λ l. (v.lines.proc p l).vars) (λ l. omega (arith, (far_empty t v.unused p l).1));
    uses< = λ p n. (declared p n).uses o;
    sets< = λ p n. (declared p n).sets o;
    one = λ p n. one_target p (parts (node_at t p n)).exit (declared p n).exit;
    declared = λ p n. acts_on p (act (node_at t p n)) (declared p n).act (count_of t z p n);
    present = targets;
    tops = λ k l. start_at t v (task_at t k).top (v.lines.top k l);
  }
