-- An open table without a fault, as a value of the declared type, is ready to be closed.
use Rattle.std.specs.Prelude.{ℕ, ◌<◌, ◌≡◌, true, false, [], ◌∷◌}
use Rattle.std.proofs.Common.{arith, eqb-true}
use Rattle.table.specs.Mask.{members}
use Rattle.table.specs.Table.{task_at, proc_at, node_at, arg_at, Exit, ends, by, either, Act, alone, waits, signals, sends, receives, calls, returns, act, parts}
use Rattle.table.specs.declared.Table.{Table}
use Rattle.text.proofs.NumberLaws.{by_order}
use Rattle.text.specs.Reader.{count_by}
use Rattle.text.specs.Writer.{scope, fault}
use Rattle.table.specs.Shape.{Shaped}
use Rattle.text.specs.Valid.{Valid, Named, ActValid, ExitValid}
use Rattle.text.proofs.PartsLaws.{parts_of, count_of}
use Rattle.text.proofs.ValidLaws.{valid_of, far_empty, outside_absent, named_open}
use Rattle.analysis.specs.Ready.{One, FitsExit, FitsAct, FitsNode, Ready}

one : {m : ℕ} → (k : ℕ) × (members m ≡ k ∷ []) → One m
one s = record { at = s.0; is = s.1 }

module _ (t : Table) (s : Shaped t) (z : fault t ≡ 0) (o : t.closed ≡ false) where
  v : Valid t
  v = valid_of t z

  named : (p x : ℕ) → Named (scope t (proc_at t p)) x → x < (proc_at t p).vars
  named p x h = named_open (scope t (proc_at t p)) x o h

  below : (n : ℕ) → n < t.procs → n < 8
  below n l = omega (arith, v.lines.procs)

  low : (q : ℕ) → q < t.queues → q < 8
  low q l = omega (arith, v.lines.queues)

  exit_fits : (p : ℕ) (e : Exit) → ExitValid (scope t (proc_at t p)) e → FitsExit e
  exit_fits p ends h = tt
  exit_fits p (by m) h = one (h.1 o)
  exit_fits p (either y n) h = (one (h.0.1 o), one (h.1.1 o))

  act_fits : (p : ℕ) (a : Act) → ActValid (scope t (proc_at t p)) a → count_by t a ≡ true → FitsAct t (proc_at t p).vars a
  act_fits p alone h k = tt
  act_fits p (waits s) h k = tt
  act_fits p (signals s) h k = tt
  act_fits p (sends q x) h k = (low q h.0, named p x h.1)
  act_fits p (receives q x) h k = low q h.0
  act_fits p (calls q xs) h k =
      let e = eqb-true xs.len (proc_at t q).params k in
      (below q h.0, omega arith, λ i l. named p (arg_at xs i) (h.1 i l (omega (arith, (v.lines.proc q h.0).params))))
  act_fits p returns h k = tt

  fit : (p n : ℕ) → FitsNode t (proc_at t p).vars (node_at t p n)
  fit p n = let h = parts_of t z p n in
      record { uses = h.uses o; sets = h.sets o; act = act_fits p (act (node_at t p n)) h.act (count_of t z p n); exit = exit_fits p (parts (node_at t p n)).exit h.exit }

  pub ready : Ready t
  ready = record {
    procs_size = s.procs;
    slots_size = s.slots;
    queues_size = s.queues;
    procs_few = v.lines.procs;
    nodes_few = λ p. by_order p t.procs (λ l. (v.lines.proc p l).nodes) (λ l. omega (arith, (far_empty t v.unused p l).2));
    tasks_few = v.lines.tasks;
    tops_low = λ k l. below (task_at t k).top (v.lines.top k l);
    params_few = λ p. by_order p t.procs (λ l. (v.lines.proc p l).params) (λ l. omega (arith, (far_empty t v.unused p l).0));
    params_are_vars = λ p. by_order p t.procs (λ l. (v.lines.proc p l).vars_low) (λ l. omega (arith, (far_empty t v.unused p l).0));
    vars_few = λ p. by_order p t.procs (λ l. (v.lines.proc p l).vars) (λ l. omega (arith, (far_empty t v.unused p l).1));
    fits = fit;
    beyond = outside_absent t z;
  }
