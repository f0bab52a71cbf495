-- The fault of a hand-made table is the fault from its parts.
use Prim.Native.Nat.{ℕ, zero, suc, ◌+◌, ◌≤◌, ◌<◌, min}
use Rattle.std.specs.Prelude.{◌≡◌, Bool, true, false, ◌&&◌, ◌||◌, not, eqb}
use Rattle.std.proofs.Math.Path.{refl, ap}
use Rattle.std.proofs.Common.{◌∙◌}
use mathlib.Core.List.Memᴰ
use mathlib.Core.List.{List, [], ◌∷◌, ◌++◌}
use Rattle.std.proofs.Math.Option.{Option, none, some}
use native.Mathlib.Omega.{arith}
use borrow.Author.Tests.{eqb-true, ne_eqb}
use Rattle.table.specs.Cases.{cases}
use Rattle.table.specs.Mask.{bit, members}
use Rattle.table.specs.Table.{arg_at, task_at, queue_at, proc_at, node_at, Act, alone, waits, signals, sends, receives, calls, returns, Exit, ends, by, either, parts, keeping, act, first_arc, second_arc, arcs, no_node, is_absent}
use Rattle.table.specs.declared.Args.{Args}
use Rattle.table.specs.declared.Node.{Node}
use Rattle.table.specs.declared.Proc.{Proc}
use Rattle.table.specs.declared.Table.{Table}
use Rattle.text.specs.Number.{every}
use Rattle.text.specs.declared.Fault.{Fault}
use Rattle.text.specs.declared.Fault.TheVariants.{Arguments, Unclosed, Unused}
use Rattle.text.specs.Fault.{number}
use Rattle.table.specs.ByKind.{by_kind}
use Rattle.text.proofs.NumberLaws.{by_order}
use Rattle.text.specs.Value.{unless, or_else}
use Rattle.text.specs.Line.{Outcome}
use Rattle.text.specs.Format.{Scope, variable_of, name_of, set_of, args_of, arg_names, node_of, describe}
use Rattle.text.specs.Reader.{table, all_below, all_present, is_removed, iff, count_by, count_right, removed_by, removed_right, node_fault, task_fault, concat_from, node_late, proc_late, late, first_late, result_of, read_lines}
use Rattle.text.specs.Writer.{text, scope, tidy, fault_in, fault}
use Rattle.text.proofs.MaskLists.{bit_again, members_again}
use Rattle.text.specs.Right.{Within}
use Rattle.text.specs.Structure.{first_in, lines_fault, table_fault, numbered}
use Rattle.text.specs.Valid.{ActValid, Lined}
use Rattle.text.proofs.NodeLaws.{number_back, node_from}
use Rattle.text.proofs.ArgsLaws.{names_length, name_at, made_at}
use Rattle.text.proofs.LinedLaws.{valid_parts, arcs_within, lined_of}
use Rattle.text.proofs.EndsLaws.{Ends, ends_took, ends_refused, ProcSame, Same, ends_table}

-- ---- the same for each

concat_same : {A : Type 0} (f g : ℕ → List A) (n i : ℕ) → ((j : ℕ) → i ≤ j → j < i + n → f j ≡ g j) → concat_from f n i ≡ concat_from g n i
unfolding concat_from
concat_same f g zero i h = refl
concat_same f g (suc n) i h = rw (h i (omega arith) (omega arith), concat_same f g n (suc i) (λ j l u. h j (omega arith) (omega arith)))

below_same : (n : ℕ) (f g : ℕ → Bool) → ((i : ℕ) → i < n → f i ≡ g i) → all_below n f ≡ all_below n g
unfolding all_below
below_same zero f g h = refl
below_same (suc n) f g h = rw (h n (omega arith), below_same n f g (λ i l. h i (omega arith)))

-- ---- a node that is read back: in all that the late faults go by it is the node

act_again : Act → Act
act_again alone = alone
act_again (waits i) = waits i
act_again (signals i) = signals i
act_again (sends q v) = sends q (variable_of (name_of v))
act_again (receives q v) = receives q (variable_of (name_of v))
act_again (calls q xs) = calls q (args_of (arg_names xs))
act_again returns = returns

exit_again : Exit → Exit
exit_again ends = ends
exit_again (by m) = by (set_of (members m))
exit_again (either y n) = either (set_of (members y)) (set_of (members n))

back_parts : (c : Scope) (x : Node) → let b = parts (node_from c (describe c x)) in (b.keeping ≡ keeping x) × (b.act ≡ act_again (act x)) × (b.exit ≡ exit_again (parts x).exit)
unfolding describe parts node_of act_again exit_again
back_parts c = by_kind (search)

back_absent : (c : Scope) (x : Node) → is_absent (node_from c (describe c x)) ≡ is_absent x
back_absent c x = ap no_node (back_parts c x).0

back_arcs : (c : Scope) (x : Node) → arcs (node_from c (describe c x)) ≡ arcs x
unfolding exit_again
back_arcs c x = rw (back_parts c x).2 (go (parts x).exit)
  where
    go : (e : Exit) → members (first_arc (exit_again e)) ++ members (second_arc (exit_again e)) ≡ members (first_arc e) ++ members (second_arc e)
    go ends = refl
    go (by m) = rw (members_again m)
    go (either y n) = rw (members_again y, members_again n)

arg_back : (xs : Args) (i : ℕ) → i < xs.len → i < 4 → arg_at (args_of (arg_names xs)) i ≡ arg_at xs i
arg_back xs i l u = made_at (arg_names xs) i u ∙ ap variable_of (name_at xs i l u) ∙ number_back (arg_at xs i)

-- five stands for any count above four
eqb_min : (a k : ℕ) → k ≤ 4 → eqb (min a 5) k ≡ eqb a k
eqb_min a k h = by_order a 5
    (λ l. let e : min a 5 ≡ a = omega arith in rw e)
    (λ l. let e : min a 5 ≡ 5 = omega arith in rw (e, ne_eqb 5 k (λ q. omega arith), ne_eqb a k (λ q. omega arith)))

-- ---- the late faults of a table that is read back

fault_same : (b b' k k' a a' m m' : Bool) → b' ≡ b → k' ≡ k → a' ≡ a → (b ≡ true → k ≡ true → m' ≡ m)
    → or_else (unless k' Arguments) (unless (not b' || (a' && m')) Unclosed) ≡ or_else (unless k Arguments) (unless (not b || (a && m)) Unclosed)
fault_same b b' k k' a a' m m' p q s f = rw (p, q, s) (go b k f)
  where
    go : (b k : Bool) → (b ≡ true → k ≡ true → m' ≡ m) → or_else (unless k Arguments) (unless (not b || (a && m')) Unclosed) ≡ or_else (unless k Arguments) (unless (not b || (a && m)) Unclosed)
    go true true f = rw (f refl refl)
    go true false f = refl
    go false true f = refl
    go false false f = refl

module _ (t r : Table) (s : Same t r) (v : Lined t) where
  -- a procedure that is called or is a task's
  callee : (p : ℕ) → p < t.procs → ProcSame t (proc_at t p) (proc_at r p)
  callee p l = s.proc p l (omega (arith, v.procs))

  -- and the parameters that it drops
  bits : (p : ℕ) → p < t.procs → t.closed ≡ true → (i : ℕ) → i < 32 → bit i (proc_at r p).drop ≡ bit i (proc_at t p).drop
  bits p l o i u = rw ((callee p l).drop o) (bit_again (proc_at t p).drop i u)

  task_late : (i : ℕ) → i < t.tasks → task_fault r i ≡ task_fault t i
  task_late i l =
      let p = (task_at t i).top in
      let u = v.top i l in
      let k = (v.proc p u).params in
      rw (s.closed, s.task i l (omega (arith, v.tasks)), (callee p u).params) (cases t.closed
      (λ o. rw (o, below_same (proc_at t p).params (λ j. bit j (proc_at r p).drop) (λ j. bit j (proc_at t p).drop) (λ j m. bits p u o j (omega arith))))
      (λ o. rw o))

  count_back : (q : Proc) (a : Act) → ActValid (scope t q) a → count_by r (act_again a) ≡ count_by t a
  unfolding act_again
  count_back q alone h = refl
  count_back q (waits i) h = refl
  count_back q (signals i) h = refl
  count_back q (sends p x) h = refl
  count_back q (receives p x) h = refl
  count_back q (calls p xs) h = rw ((callee p h.0).params, names_length xs) (eqb_min xs.len (proc_at t p).params (v.proc p h.0).params)
  count_back q returns h = refl

  blank_back : (p x : ℕ) → p < t.queues → t.closed ≡ true → iff (is_removed (variable_of (name_of x))) (queue_at r p).blank ≡ iff (is_removed x) (queue_at t p).blank
  blank_back p x l o = rw (number_back x, s.blank p l (omega (arith, v.queues)) o)

  -- with the right count of arguments
  removed_back : (q : Proc) (a : Act) → ActValid (scope t q) a → t.closed ≡ true → count_by t a ≡ true → removed_by r (act_again a) ≡ removed_by t a
  unfolding act_again
  removed_back q alone h o k = refl
  removed_back q (waits i) h o k = refl
  removed_back q (signals i) h o k = refl
  removed_back q (sends p x) h o k = blank_back p x h.0 o
  removed_back q (receives p x) h o k = blank_back p x h.0 o
  removed_back q (calls p xs) h o k =
      let a = (v.proc p h.0).params in
      let e = eqb-true xs.len (proc_at t p).params k in
      let m : min xs.len 5 ≡ xs.len = omega arith in
      rw (names_length xs, m) (below_same xs.len _ _ (λ i l. rw (arg_back xs i l (omega arith), bits p h.0 o i (omega arith))))
  removed_back q returns h o k = refl

  -- the nodes of procedure p
  absent_back : (p m : ℕ) → p < t.procs → m < (proc_at t p).nodes → is_absent (node_at r p m) ≡ is_absent (node_at t p m)
  absent_back p m u l =
      let c = scope t (proc_at t p) in
      rw ((callee p u).node m l (omega (arith, (v.proc p u).nodes))) (back_absent c (node_at t p m))

  present_back : (p : ℕ) → p < t.procs → (ms : List ℕ) → Within 1 (proc_at t p).nodes ms → all_present (proc_at r p) ms ≡ all_present (proc_at t p) ms
  unfolding every
  present_back p u [] w = refl
  present_back p u (m ∷ ms) w = rw (absent_back p m u (w m (Memᴰ.head refl)).1, present_back p u ms (λ k d. w k (Memᴰ.tail d)))

  node_late_lem : (p n : ℕ) → p < t.procs → n < (proc_at t p).nodes → node_late r (proc_at r p) (node_at r p n) ≡ node_late t (proc_at t p) (node_at t p n)
  node_late_lem p n u l =
      let q = proc_at t p in
      let c = scope t q in
      let x = node_at t p n in
      let h = (v.proc p u).node n l in
      let b = (back_parts c x).1 in
      let a = (valid_parts c n x h).act in
      let f : node_fault r (proc_at r p) (node_from c (describe c x)) ≡ node_fault t q x =
      fault_same t.closed r.closed (count_right t x) _ (all_present q (arcs x)) (all_present (proc_at r p) (arcs (node_from c (describe c x)))) (removed_right t x) _ s.closed (ap (count_by r) b ∙ count_back q (act x) a) (rw (back_arcs c x) (present_back p u (arcs x) (arcs_within c n x h))) (λ o k. ap (removed_by r) b ∙ removed_back q (act x) a o k)
      in
      rw ((callee p u).node n l (omega (arith, (v.proc p u).nodes)), back_absent c x, f)

  proc_late_lem : (p : ℕ) → p < t.procs → proc_late r p ≡ proc_late t p
  proc_late_lem p u = rw (callee p u).nodes
      (ap (λ xs. none ∷ xs) (concat_same (λ n. node_late r (proc_at r p) (node_at r p n)) (λ n. node_late t (proc_at t p) (node_at t p n)) (proc_at t p).nodes 0 (λ n l w. node_late_lem p n u (omega arith))))

  pub late_same : late r ≡ late t
  unfolding late
  late_same =
      let a : concat_from (λ i. task_fault r i ∷ []) r.tasks 0 ≡ concat_from (λ i. task_fault t i ∷ []) t.tasks 0 =
      ap (λ (n : ℕ). concat_from (λ i. task_fault r i ∷ []) n 0) s.tasks ∙ concat_same (λ i. task_fault r i ∷ []) (λ i. task_fault t i ∷ []) t.tasks 0 (λ i l u. ap (λ f. f ∷ []) (task_late i (omega arith)))
      in
      let b : concat_from (proc_late r) r.procs 0 ≡ concat_from (proc_late t) t.procs 0 = ap (λ (n : ℕ). concat_from (proc_late r) n 0) s.procs ∙ concat_same (proc_late r) (proc_late t) t.procs 0 (λ p l u. proc_late_lem p (omega arith)) in
      rw (a, b, s.sems, s.queues)

-- ---- the fault

-- the first late fault, or an unused place
pub late_fault : (t r : Table) (l : ℕ) (fs : List (Option Fault)) → fault_in t (first_late r l fs) ≡ numbered (or_else (first_in fs) (unless (tidy t) Unused))
unfolding first_late first_in
late_fault t r l [] = go (tidy t)
  where
    go : (b : Bool) → elim b as (λ x. ℕ) [ true ↦ 0 | false ↦ number Unused ] ≡ numbered (unless b Unused)
    go true = refl
    go false = refl
late_fault t r l (none ∷ fs) = late_fault t r (suc l) fs
late_fault t r l (some f ∷ fs) = refl

-- for every table: what the reader says of the table's lines, and then of its unused places, is the fault from its parts
pub fault_is : (t : Table) → fault t ≡ numbered (table_fault t)
unfolding fault read_lines table_fault
fault_is t = go (lines_fault t) (table 1 (text t)) refl (ends_table t)
  where
    go : (c : Option Fault) (o : Outcome Table) → lines_fault t ≡ c → Ends (Same t) [] c o → fault_in t (result_of o) ≡ numbered (or_else c (or_else (first_in (late t)) (unless (tidy t) Unused)))
    go c o e (ends_took {a = r} h) = rw (late_same t r h (lined_of t e)) (late_fault t r 1 (late t))
    go c o e ends_refused = refl
