-- What a step notes in the histories, and what a call passes to the frame that it opens.
use Rattle.std.specs.Prelude.{ℕ, zero, ◌<◌, ◌≡◌, refl, ◌≢◌, true, false, List, [], ◌++◌, eqb, ltb, ℤ, pos}
use Rattle.std.proofs.Common.{arith, ◌∙◌, ap}
use Rattle.std.proofs.Math.Nat.{zero-add}
use Rattle.std.proofs.Math.Path.{sym}
use Rattle.std.proofs.Math.Option.{some}
use Rattle.std.proofs.Math.ListN.{get_elem?}
use borrow.Author.Tests.{eqb-true, eq-eqb, ne_eqb, ltb-true, lt-ltb}
use Rattle.table.specs.Cases.{cases}
use Rattle.table.specs.Table.{node_at, arg_places, arg_at, arg_list, calls, parts, act, arc_to, map_args, map_node}
use Rattle.table.specs.declared.Args.{Args}
use Rattle.table.specs.declared.Node.{Node}
use Rattle.table.specs.declared.Node.TheVariants.{Call}
use Rattle.table.specs.declared.Table.{Table}
use Rattle.closing.specs.Dirty.{dropped, Dirty, here, by_entry, from_entry, passed}
use Rattle.closing.specs.Closing.{dirty, kept}
use Rattle.closing.specs.Close.{var_or, closed_node}
use Rattle.closing.proofs.ClosedValid.{arg_at_lem}
use Rattle.machine.specs.State.{var_at}
use Rattle.machine.specs.Step.{passed_at, entering}
use Rattle.promise.specs.History.{History, is_at, executed, entered, last_setting}
use Rattle.promise.proofs.Sim.Wf.{Begins, Wf}
use Rattle.promise.proofs.Sim.Stores.{concat_at, concat_length, take_at?, at_in}
use Rattle.promise.proofs.Sim.Locals.{Last, kept_at, D-false, Locals, clean_use}
use Rattle.promise.proofs.Sim.Exec.{arc_of, closing}
use Rattle.promise.proofs.Sim.Same.{IsCall, last_of}

-- ---- histories

pub executed_here : (k j : ℕ) (ns : List ℕ) (h : History) → executed k j ns h k j ≡ h k j ++ ns
executed_here k j ns h = rw (eq-eqb k k refl, eq-eqb j j refl)

at_other : (k j k' j' : ℕ) → (k' ≡ k → j' ≢ j) → is_at k j k' j' ≡ false
at_other k j k' j' c = cases (eqb k k')
    (λ e. rw e (ne_eqb j j' (λ i. c (sym (eqb-true k k' e)) (sym i))))
    (λ e. rw e)

pub executed_other : (k j k' j' : ℕ) (ns : List ℕ) (h : History) → (k' ≡ k → j' ≢ j) → executed k j ns h k' j' ≡ h k' j'
executed_other k j k' j' ns h c = rw (at_other k j k' j' c)

pub entered_here : (k j : ℕ) (h : History) → entered k j h k j ≡ []
entered_here k j h = rw (eq-eqb k k refl, eq-eqb j j refl)

pub entered_other : (k j k' j' : ℕ) (h : History) → (k' ≡ k → j' ≢ j) → entered k j h k' j' ≡ h k' j'
entered_other k j k' j' h c = rw (at_other k j k' j' c)

-- a procedure's first node is kept
pub first_kept : (t : Table) (p : ℕ) → Begins t p → kept_at t p zero ≡ true
unfolding kept parts
first_kept t p b = ap (kept (dirty t) p zero) b.1

-- a call is kept, and its arc is closed
pub call_kept : (t : Table) (p n : ℕ) → IsCall (node_at t p n) → kept_at t p n ≡ true
unfolding kept parts
call_kept t p n c = ap (kept (dirty t) p n) c.3

pub call_arc : (t : Table) (p n : ℕ) (x : Node) → IsCall x → arc_to (closing t p n x) ≡ arc_of t p (arc_to x)
unfolding closed_node map_node parts
call_arc t p n x c = rw c.3

-- ---- what a call passes

-- the arguments of the closed call
abbrev pub args_or : Table → ℕ → Args → Args
args_or t c xs = map_args (var_or t (dirty t) 0 0 (calls c xs)) xs

module _ (t : Table) (wf : Wf t) (p n c to : ℕ) (xs : Args) (la : Last) (lo lc : List ℤ) (e : node_at t p n ≡ Call c xs to) (r : Locals t p n la lo lc) where
  arg_eq : (v : ℕ) → v < xs.len → (Dirty t (dropped c v) → ⊥) → var_at lo (arg_at xs v) ≡ var_at lc (arg_at (args_or t c xs) v)
  unfolding parts
  arg_eq v l clean =
      let count = (rw e at (wf.declared p n)).0 in
      let l₄ : v < 4 = omega (arith, wf.params c) in
      let u = arg_at xs v in
      let at : get_elem? (arg_list xs) v ≡ some u = take_at? (arg_places xs) xs.len v 0 l (omega (arith, wf.params c)) in
      rw (arg_at_lem (var_or t (dirty t) 0 0 (calls c xs)) xs v l₄, lt-ltb v xs.len l, D-false t (dropped c v) clean)
      (clean_use t p n u la lo lc r (wf.uses< p n u (rw e (at_in (arg_list xs) v u at))) (λ d. clean (passed p n u xs (omega arith) (ap act e) at d)))

  passed_eq : (v : ℕ) → (Dirty t (dropped c v) → ⊥) → passed_at lo xs v ≡ passed_at lc (args_or t c xs) v
  passed_eq v clean = cases (ltb v xs.len)
      (λ k. rw k (arg_eq v (ltb-true v xs.len k) clean))
      (λ k. rw k)

  pub call_locals : Locals t c zero (last_of t c []) (entering lo c xs).vars (entering lc c (args_or t c xs)).vars
  unfolding last_setting
  call_locals = record {
    open_size = concat_length (passed_at lo xs) 16 0;
    closed_size = concat_length (passed_at lc (args_or t c xs)) 16 0;
    agree = λ v l clean. let l₁₆ : v < 16 = omega (arith, wf.vars c) in
        concat_at (passed_at lo xs) 16 0 v (pos 0) l₁₆
        ∙ rw zero-add (passed_eq v (λ d. clean (by_entry d)))
        ∙ sym (concat_at (passed_at lc (args_or t c xs)) 16 0 v (pos 0) l₁₆);
    reach = λ v l d. from_entry l here d;
  }
