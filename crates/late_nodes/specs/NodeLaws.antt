-- By the terms of a table, a node's late fault is the one that the reader finds.
use Rattle.std.specs.Prelude.{ℕ, ◌≡◌, refl, List, [], ◌∷◌, ◌++◌, Bool, true, false, not, ◌&&◌, ◌||◌}
use Rattle.std.proofs.Common.{sym, ◌∙◌, ap, arith}
use Rattle.std.proofs.Math.Option.{Option, none, some}
use Rattle.std.proofs.Math.ListN.{get_or-map}
use Rattle.table.specs.Mask.{bit, members_from, members}
use Rattle.table.specs.Table.{outside, proc_at, node_in, Act, alone, waits, signals, sends, receives, calls, returns, Exit, ends, by, either, parts, act, first_arc, second_arc, arc_to, arc_no, is_absent}
use Rattle.table.specs.declared.Node.{Node}
use Rattle.table.specs.declared.Proc.{Proc}
use Rattle.table.specs.declared.Table.{Table}
use Rattle.text.specs.Number.{every}
use Rattle.text.specs.declared.Fault.{Fault}
use Rattle.text.specs.declared.Fault.TheVariants.{Arguments, Unclosed}
use Rattle.text.specs.Value.{unless, or_else}
use Rattle.text.specs.Reader.{all_present, count_by, count_right, removed_by, removed_right, node_fault}
use Rattle.late_nodes.specs.declared.Terms.{Terms}
use Rattle.late_nodes.specs.Terms.{callee_at, callee_of, terms_of, present_in, if_closed, arc_fault, exit_fault, act_fault, node_fault_by}
use Rattle.late_nodes.specs.MaskLaws.{present_in_lem}

-- ---- parts

pub callee_of_lem : (t : Table) (k : ℕ) → callee_at (terms_of t) k ≡ callee_of (proc_at t k)
callee_of_lem t k = get_or-map callee_of t.proc k outside

arc_of : (b : Bool) (q : Proc) (to : ℕ) → arc_fault b (present_in q) to ≡ if_closed b (all_present q (members to))
arc_of b q to = rw (present_in_lem q 32 0 to (omega arith))

present_append : (q : Proc) (xs ys : List ℕ) → all_present q (xs ++ ys) ≡ all_present q xs && all_present q ys
unfolding every
present_append q [] ys = refl
present_append q (x ∷ xs) ys = rw (present_append q xs ys) (assoc (not (is_absent (node_in q x))) (all_present q xs) (all_present q ys))
  where
    assoc : (a b c : Bool) → a && (b && c) ≡ (a && b) && c
    assoc true b c = refl
    assoc false b c = refl

none_present : (q : Proc) → all_present q (members 0) ≡ true
unfolding every members_from bit
none_present q = refl

-- a count k, targets a and n, and removals m
split : (k b a n m : Bool) → or_else (unless k Arguments) (unless (not b || ((a && n) && m)) Unclosed) ≡ or_else (unless k Arguments) (or_else (or_else (if_closed b a) (if_closed b n)) (if_closed b m))
split true true true true m = refl
split true true true false m = refl
split true true false n m = refl
split true false a n m = refl
split false b a n m = refl

closed_true : (b : Bool) → if_closed b true ≡ none
closed_true true = refl
closed_true false = refl

else_none : (o : Option Fault) → or_else o none ≡ o
else_none none = refl
else_none (some f) = refl

exit_of : (t : Table) (q : Proc) (e : Exit) → exit_fault t.closed (present_in q) e ≡ or_else (if_closed t.closed (all_present q (members (first_arc e)))) (if_closed t.closed (all_present q (members (second_arc e))))
exit_of t q ends = rw (none_present q, closed_true t.closed)
exit_of t q (by m) = rw (none_present q, closed_true t.closed, arc_of t.closed q m, else_none (if_closed t.closed (all_present q (members m))))
exit_of t q (either y n) = rw (arc_of t.closed q y, arc_of t.closed q n)

act_of : (t : Table) (f : Option Fault) (a : Act) → act_fault (terms_of t) f a ≡ or_else (unless (count_by t a) Arguments) (or_else f (if_closed t.closed (removed_by t a)))
act_of t f alone = rw (closed_true t.closed, else_none f)
act_of t f (waits i) = rw (closed_true t.closed, else_none f)
act_of t f (signals i) = rw (closed_true t.closed, else_none f)
act_of t f (sends k v) = refl
act_of t f (receives k v) = refl
act_of t f (calls k xs) = rw (callee_of_lem t k)
act_of t f returns = rw (closed_true t.closed, else_none f)

pub node_of_lem : (t : Table) (q : Proc) (x : Node) → node_fault_by (terms_of t) (present_in q) x ≡ node_fault t q x
unfolding node_fault_by
node_of_lem t q x =
    let y = all_present q (members (arc_to x)) in
    let n = all_present q (members (arc_no x)) in
    act_of t _ (act x) ∙ rw (exit_of t q (parts x).exit, present_append q (members (arc_to x)) (members (arc_no x))) (sym (split (count_right t x) t.closed y n (removed_right t x)))

-- in open form no target is looked at
pub node_open : (c : Terms) (m k : ℕ) (x : Node) → c.closed ≡ false → node_fault_by c m x ≡ node_fault_by c k x
unfolding node_fault_by
node_open c m k x e = ap (λ f. act_fault c f (act x)) (rw e (go (parts x).exit))
  where
    go : (y : Exit) → exit_fault false m y ≡ exit_fault false k y
    go ends = refl
    go (by to) = refl
    go (either a b) = refl
