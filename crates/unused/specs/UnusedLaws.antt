-- The places that are not used, as the code finds them.
use Rattle.std.specs.Prelude.{IsTrue, ◌↔◌, ℕ, zero, suc, ◌-◌, ◌≤◌, ◌<◌, ◌≡◌, refl, List, [], ◌∷◌, map, Bool, true, false, not, ◌&&◌, ◌||◌, eqb, length, get_or, take, drop}
use Rattle.std.proofs.Common.{sym, ◌∙◌, ap, arith, length-drop, get_or-take, length-take-le, lt-ltb}
use Rattle.std.proofs.lemmas.List.{length-map}
use Rattle.table.specs.Cases.{cases}
use Rattle.table.specs.declared.Proc.{Proc}
use Rattle.table.specs.declared.Table.{Table}
use Rattle.table.specs.Table.{no_queue, outside, node_in, arg_places, parts}
use Rattle.table.specs.declared.Args.{Args}
use Rattle.table.specs.declared.Node.{Node}
use Rattle.table.specs.declared.Node.TheVariants.{Call}
use Rattle.text.proofs.NumberLaws.{and_left, and_right}
use Rattle.text.proofs.ValidLaws.{below_all, all_below_lem}
use Rattle.targets.specs.MaskTests.{same_truth}
use Rattle.checks.specs.ArgumentChecks.{and_row}
use Rattle.text.specs.Reader.{all_below}
use Rattle.text.specs.Writer.{every, is_zero, slot_empty, args_empty, task_empty, sem_empty, queue_empty, proc_empty, proc_tidy, tidy}
use Rattle.unused.specs.Unused.{spare}

and_true : (a : Bool) → a && true ≡ a
and_true true = refl
and_true false = refl

-- an array's list has its length as a list of machine values
pub values_long : {A B : Type 0} (f : A → B) (xs : List A) (n : ℕ) → length (map f xs) ≡ n → length xs ≡ n
values_long f xs n e = sym (length-map xs f) ∙ e

-- ---- behind a call's arguments

pub call_args : {x : Node} {q to : ℕ} (xs : Args) {r : Bool} → x ≡ Call q xs to → r ≡ every is_zero (drop xs.len (arg_places xs)) → r ≡ args_empty x
unfolding parts
call_args xs e h = rw e h

-- a node that is no call
pub no_args : (x : Node) → ((q : ℕ) (xs : Args) (to : ℕ) → x ≡ Call q xs to → ⊥) → true ≡ args_empty x
unfolding parts
no_args x f = elim x as (λ y. ((q : ℕ) (xs : Args) (to : ℕ) → y ≡ Call q xs to → ⊥) → true ≡ args_empty y) [ Call q xs to ↦ λ g. absurd (g q xs to refl) | y ↦ λ g. refl ] f

-- ---- all of some things

all_get : {A : Type 0} (f : A → Bool) (d : A) (xs : List A) → ((k : ℕ) → k < length xs → f (get_or xs k d) ≡ true) → every f xs ≡ true
unfolding every
all_get f d [] g = refl
all_get f d (x ∷ xs) g = rw (g 0 (omega arith)) (all_get f d xs (λ k u. g (suc k) (omega arith)))

get_all : {A : Type 0} (f : A → Bool) (d : A) (xs : List A) → every f xs ≡ true → (k : ℕ) → k < length xs → f (get_or xs k d) ≡ true
unfolding every
get_all f d [] e k u = absurd (omega arith)
get_all f d (x ∷ xs) e zero u = and_left (f x) (every f xs) e
get_all f d (x ∷ xs) e (suc k) u = get_all f d xs (and_right (f x) (every f xs) e) k (omega arith)

pub every_is : {A : Type 0} (f : A → Bool) (d : A) (xs : List A) {r : Bool} → (IsTrue r ↔ ((k : ℕ) → k < length xs → f (get_or xs k d) ≡ true)) → r ≡ every f xs
every_is f d xs {r} h = same_truth r (every f xs) (λ e. all_get f d xs (h.0 e)) (λ e. h.1 (get_all f d xs e))

-- one of some things is not
pub every_not : {A : Type 0} (f : A → Bool) (d : A) (xs : List A) (k : ℕ) → k < length xs → f (get_or xs k d) ≡ false → false ≡ every f xs
every_not f d xs k l e = cases (every f xs) (λ h. let t = get_all f d xs h k l in absurd (cc)) sym

pub every_one : {A : Type 0} (f : A → Bool) (d : A) (xs : List A) (n : ℕ) → ((k : ℕ) → k < n → f (get_or xs k d) ≡ true) → length xs ≤ n → true ≡ every f xs
every_one f d xs n h l = sym (all_get f d xs (λ k u. h k (omega arith)))

-- of a list of m, all from n on
take_long : {A : Type 0} (m : ℕ) (xs : List A) → length xs ≤ m → take m xs ≡ xs
take_long zero [] l = refl
take_long (suc m) [] l = refl
take_long zero (x ∷ xs) l = absurd (omega arith)
take_long (suc m) (x ∷ xs) l = ap (λ ys. x ∷ ys) (take_long m xs (omega arith))

pub from_on : {A : Type 0} (f : A → Bool) (xs : List A) (n m : ℕ) {r : Bool} → length xs ≡ m → r ≡ every f (take (m - n) (drop n xs)) → r ≡ every f (drop n xs)
from_on f xs n m e h = h ∙ ap (every f) (take_long (m - n) (drop n xs) (omega (arith, length-drop n xs)))

-- all of the first n, by their numbers
pub every_below : {A : Type 0} (f : A → Bool) (d : A) (xs : List A) (n : ℕ) → n ≤ length xs → every f (take n xs) ≡ all_below n (λ k. f (get_or xs k d))
every_below f d xs n l = same_truth (every f (take n xs)) (all_below n (λ k. f (get_or xs k d)))
    (λ e. all_below_lem n (λ k. f (get_or xs k d)) (λ k u. rw get_or-take at (get_all f d (take n xs) e k (rw (length-take-le n xs l) u))))
    (λ e. all_get f d (take n xs) (λ k u. let v : k < n = rw (length-take-le n xs l) at u in rw get_or-take (below_all n (λ k. f (get_or xs k d)) e k v)))

-- ---- the places of a procedure and of a table

args_in : (l a b c d : ℕ) → every is_zero (drop l (a ∷ b ∷ c ∷ d ∷ [])) ≡ spare l 0 a && (spare l 1 b && (spare l 2 c && spare l 3 d))
unfolding every
args_in zero a b c d = rw (and_true (eqb d 0))
args_in (suc zero) a b c d = rw (and_true (eqb d 0))
args_in (suc (suc zero)) a b c d = rw (and_true (eqb d 0))
args_in (suc (suc (suc zero))) a b c d = rw (and_true (eqb d 0))
args_in (suc (suc (suc (suc l)))) a b c d =
    let n = suc (suc (suc (suc l))) in
    rw (lt-ltb 0 n (omega arith), lt-ltb 1 n (omega arith), lt-ltb 2 n (omega arith), lt-ltb 3 n (omega arith)) (none l)
  where
    none : (l : ℕ) → every is_zero (drop l []) ≡ true
    none zero = refl
    none (suc l) = refl

pub args_are : (xs : Args) → every is_zero (drop xs.len (arg_places xs)) ≡ ((spare xs.len 0 xs.a0 && spare xs.len 1 xs.a1) && spare xs.len 2 xs.a2) && spare xs.len 3 xs.a3
args_are xs = args_in xs.len xs.a0 xs.a1 xs.a2 xs.a3 ∙ sym (and_row (spare xs.len 0 xs.a0) (spare xs.len 1 xs.a1) (spare xs.len 2 xs.a2) (spare xs.len 3 xs.a3))

-- a procedure: v is what the tests of the places behind its nodes and of the nodes give
module _ (closed : Bool) (q : Proc) {v : Bool} (two : v ≡ every slot_empty (drop q.nodes q.slots) && all_below q.nodes (λ j. args_empty (node_in q j))) where
  pub proc_rest : v ≡ true → (r : Bool) → r ≡ closed || is_zero q.drop → r ≡ proc_tidy closed q
  proc_rest e r h = go (every slot_empty (drop q.nodes q.slots)) (all_below q.nodes (λ j. args_empty (node_in q j))) two e h
    where
      go : (a b : Bool) {c : Bool} → v ≡ a && b → v ≡ true → r ≡ c → r ≡ a && (b && c)
      go true true p z h = h
      go true false p z h = absurd (cc)
      go false b p z h = absurd (cc)

  pub proc_stop : v ≡ false → v ≡ proc_tidy closed q
  proc_stop e = go (every slot_empty (drop q.nodes q.slots)) (all_below q.nodes (λ j. args_empty (node_in q j))) (closed || is_zero q.drop) two e
    where
      go : (a b c : Bool) → v ≡ a && b → v ≡ false → v ≡ a && (b && c)
      go true true c p z = absurd (cc)
      go true false c p z = p
      go false b c p z = p

pub tidy_is : (t : Table) → t.queues ≤ length t.queue → t.procs ≤ length t.proc
    → ((((every task_empty (drop t.tasks t.task) && every sem_empty (drop t.sems t.sem)) && every queue_empty (drop t.queues t.queue)) && every proc_empty (drop t.procs t.proc))
    && every (λ x. t.closed || not x.blank) (take t.queues t.queue)) && every (proc_tidy t.closed) (take t.procs t.proc)
    ≡ tidy t
unfolding tidy
tidy_is t q p =
    rw (every_below (λ x. t.closed || not x.blank) no_queue t.queue t.queues q, every_below (proc_tidy t.closed) outside t.proc t.procs p)
    (row (every task_empty (drop t.tasks t.task)) (every sem_empty (drop t.sems t.sem)) (every queue_empty (drop t.queues t.queue)) (every proc_empty (drop t.procs t.proc)) _ _)
  where
    row : (a b c d e f : Bool) → ((((a && b) && c) && d) && e) && f ≡ a && (b && (c && (d && (e && f))))
    row true true true true e f = refl
    row true true true false e f = refl
    row true true false d e f = refl
    row true false c d e f = refl
    row false b c d e f = refl
