-- A walk over lines finds the first late fault: a law for each step and each return of the code.
use Rattle.std.specs.Prelude.{ℕ, zero, suc, ◌+◌, ◌-◌, ◌≤◌, ◌<◌, ◌≡◌, refl, List, [], ◌∷◌, ◌++◌, ◌⊎◌, Result, Ok, Err, IsErrAnd, MatchResult, true, false, replicate}
use Rattle.std.proofs.Common.{sym, ◌∙◌, ap, inl, inr, arith}
use Rattle.std.proofs.lemmas.Result.{err_from_is_err_and}
use Rattle.std.proofs.Math.Option.{Option, none, some}
use Rattle.table.specs.Mask.{pick}
use Rattle.table.specs.Table.{node_in, is_absent}
use Rattle.table.specs.declared.Node.{Node}
use Rattle.table.specs.declared.Proc.{Proc}
use Rattle.table.specs.declared.Task.{Task}
use Rattle.text.specs.declared.Fault.{Fault}
use Rattle.text.specs.Reader.{concat_from}
use Rattle.checks.specs.Judging.{judged}
use Rattle.late_lines.specs.declared.At.{At}
use Rattle.late_lines.specs.Places.{drop_fault, task_fault_by, node_late_by, nodes_late_by, proc_late_by, first_at, step_at}
use Rattle.late_nodes.specs.declared.Callee.{Callee}
use Rattle.late_nodes.specs.declared.Terms.{Terms}
use Rattle.late_nodes.specs.Terms.{callee_at, present_in, node_fault_by}
use Rattle.late_nodes.specs.NodeLaws.{node_open}

-- ---- lines behind lines

abbrev onward : Result ℕ At → List (Option Fault) → Result ℕ At
onward (Ok l) ys = first_at l ys
onward (Err a) ys = Err a

at_append : (l : ℕ) (xs ys : List (Option Fault)) → first_at l (xs ++ ys) ≡ onward (first_at l xs) ys
unfolding first_at
at_append l [] ys = refl
at_append l (none ∷ xs) ys = at_append (suc l) xs ys
at_append l (some f ∷ xs) ys = refl

pub at_good : (l : ℕ) (xs ys : List (Option Fault)) {k : ℕ} → Ok k ≡ first_at l xs → first_at l (xs ++ ys) ≡ first_at k ys
at_good l xs ys e = at_append l xs ys ∙ rw (← e)

pub at_bad : (l : ℕ) (xs ys : List (Option Fault)) {a : At} → Err a ≡ first_at l xs → Err a ≡ first_at l (xs ++ ys)
at_bad l xs ys e = sym (at_append l xs ys ∙ rw (← e))

pub at_none : (l n : ℕ) (xs : List (Option Fault)) → first_at l (replicate n none ++ xs) ≡ first_at (l + n) xs
unfolding first_at
at_none l zero xs = ap (λ (k : ℕ). first_at k xs) (omega_zero l)
  where
    omega_zero : (l : ℕ) → l ≡ l + 0
    omega_zero l = omega arith
at_none l (suc n) xs = let e : suc l + n ≡ l + suc n = omega arith in at_none (suc l) n xs ∙ rw e

-- what the exit of a `?` answers for a
pub failed : {a : At} {r x : Result ℕ At} → Err a ≡ x → IsErrAnd r (λ b. b ≡ a) → r ≡ x
failed {r = r} e h = let p = err_from_is_err_and r h in rw (p.1, p.2) e

-- ---- one line

pub step_is : (l : ℕ) (o : Option Fault) {r : Result (Unit {0}) Fault} {a : Result ℕ At} → r ≡ judged o → a ≡ step_at r l → a ≡ first_at l (o ∷ [])
unfolding first_at
step_is l none e h = (rw e at h) ∙ (let s : l + 1 ≡ suc l = omega arith in rw s)
step_is l (some f) e h = rw e at h

pub step_near : (r : Result (Unit {0}) Fault) (l : ℕ) {a : Result ℕ At} → a ≡ step_at r l → MatchResult a (λ k. k ≤ l + 1) (λ b. b.line ≤ l + 1)
step_near (Ok u) l e = rw e (omega arith)
step_near (Err f) l e = rw e (omega arith)

-- a node
pub node_absent : (c : Terms) (m : ℕ) (x : Node) (l : ℕ) → true ≡ is_absent x → Ok l ≡ first_at l (node_late_by c m x)
unfolding first_at
node_absent c m x l e = rw (← e)

pub node_step : (c : Terms) (m : ℕ) (x : Node) (l : ℕ) {r : Result (Unit {0}) Fault} {a : Result ℕ At} → false ≡ is_absent x → r ≡ judged (node_fault_by c m x) → a ≡ step_at r l → a ≡ first_at l (node_late_by c m x)
node_step c m x l e p h = rw (← e) (step_is l (node_fault_by c m x) p h)

-- a task
pub task_step : (c : Terms) (x : Task) (l : ℕ) {p : Callee} {r : Result (Unit {0}) Fault} {a : Result ℕ At} → p ≡ callee_at c x.top → r ≡ judged (drop_fault c.closed p.params p.drop) → a ≡ step_at r l → a ≡ first_at l (task_fault_by c x ∷ [])
task_step c x l z p h = step_is l (task_fault_by c x) (rw z at p) h

-- ---- n places, the first i of which have no fault and stand for the lines up to l

pub record Walked (g : ℕ → List (Option Fault)) (n m l i : ℕ) : Type 0 where
  pub left : first_at m (concat_from g n 0) ≡ first_at l (concat_from g (n - i) i)

pub walked_none : (g : ℕ → List (Option Fault)) (n m : ℕ) → Walked g n m m 0
walked_none g n m = let e : n ≡ n - 0 = omega arith in record { left = ap (λ (k : ℕ). first_at m (concat_from g k 0)) e }

one_more : (g : ℕ → List (Option Fault)) (n i : ℕ) → i < n → concat_from g (n - i) i ≡ g i ++ concat_from g (n - (i + 1)) (i + 1)
unfolding concat_from
one_more g n i u =
    let e : n - i ≡ suc (n - (i + 1)) = omega arith in
    let s : i + 1 ≡ suc i = omega arith in
    rw (e, s)

pub walked_more : (g : ℕ → List (Option Fault)) (n m l i : ℕ) {k : ℕ} → Walked g n m l i → i < n → Ok k ≡ first_at l (g i) → Walked g n m k (i + 1)
walked_more g n m l i w u e = record { left = w.left ∙ ap (first_at l) (one_more g n i u) ∙ at_good l (g i) (concat_from g (n - (i + 1)) (i + 1)) e }

pub walked_found : (g : ℕ → List (Option Fault)) (n m l i : ℕ) {a : At} → Walked g n m l i → i < n → Err a ≡ first_at l (g i) → Err a ≡ first_at m (concat_from g n 0)
walked_found g n m l i w u e = at_bad l (g i) (concat_from g (n - (i + 1)) (i + 1)) e ∙ sym (w.left ∙ ap (first_at l) (one_more g n i u))

pub walked_all : (g : ℕ → List (Option Fault)) (n m l i : ℕ) → Walked g n m l i → n ≤ i → Ok l ≡ first_at m (concat_from g n 0)
unfolding concat_from first_at
walked_all g n m l i w u = let e : n - i ≡ 0 = omega arith in sym (w.left ∙ ap (λ (k : ℕ). first_at l (concat_from g k i)) e)

-- a procedure's line has no late fault; in open form no target is looked at
pub proc_step : (c : Terms) (q : Proc) (m l : ℕ) {a : Result ℕ At} → (m ≡ present_in q) ⊎ (c.closed ≡ false) → a ≡ first_at (l + 1) (nodes_late_by c m q) → a ≡ first_at l (proc_late_by c q)
unfolding first_at
proc_step c q m l (inl e) h = let s : l + 1 ≡ suc l = omega arith in rw (s, e) at h
proc_step c q m l (inr e) h =
    let s : l + 1 ≡ suc l = omega arith in
    (rw s at h) ∙ (λ ι. first_at (suc l) (concat_from (λ n. pick (is_absent (node_in q n)) [] (node_open c m (present_in q) (node_in q n) e ι ∷ [])) q.nodes 0))
