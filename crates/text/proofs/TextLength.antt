-- The text of a table without a fault has at most 65,536 bytes, so the reader takes whatever the writer writes.
use Rattle.std.specs.Prelude.{ℕ, zero, suc, ◌+◌, ◌*◌, ◌^◌, ◌/◌, ◌≤◌, ◌<◌, ◌≡◌, List, [], ◌∷◌, map, Bool, true, false, ◌&&◌, ◌||◌, ltb, leb, pos, negsuc, length, take}
use Rattle.std.proofs.Math.Option.{Option, none, some}
use Rattle.std.proofs.Common.{arith, length-append, length-take, ltb-true, leb-true, le-ltb}
use Rattle.std.proofs.lemmas.List.{length-map}
use Rattle.table.specs.Table.{task_at, sem_at, queue_at, proc_at, node_in}
use Rattle.table.specs.Shape.{Shaped}
use Rattle.table.specs.declared.Operand.{Operand}
use Rattle.table.specs.declared.Operand.TheVariants.{Var, Const}
use Rattle.table.specs.declared.Op.TheVariants.{Add, Sub, And, Or, Xor, Shr, Lt, Eq}
use Rattle.table.specs.declared.Args.{Args}
use Rattle.table.specs.declared.Node.{Node}
use Rattle.table.specs.declared.Node.TheVariants.{Call}
use Rattle.table.specs.declared.Table.{Table}
use Rattle.text.specs.declared.Fault.TheVariants.{Range, Reference}
use Rattle.table.specs.ByKind.{by_kind}
use Rattle.text.specs.ByWord.{by_word}
use Rattle.text.specs.Number.{digits, every}
use Rattle.text.proofs.NumberLaws.{by_order, and_left, and_right, digits_small, digits_large}
use Rattle.text.specs.Value.{NodeKind, kind_word, ValueKind, number, choice, kind, operation, operand, variable, ascending, arguments, Of, spell_variable, spell_operand, commas, spell_list, spell, unless, ascends, within, none_removed, all_declared, check}
use Rattle.text.specs.Line.{Line, end, field, Vals, write}
use Rattle.text.specs.Format.{head_line, counts_line, task_line, sem_line, queue_line, proc_line, Scope, fields, node_line, arg_names, Described, no_line, described, describe, task_vals, sem_vals}
use Rattle.text.specs.Reader.{concat_from, good, read_lines, read}
use Rattle.text.specs.Writer.{queue_vals, proc_vals, node_text, scope, proc_text, text, fault}
use Rattle.text.proofs.RowLaws.{Faultless, or_right, unless_none}
use Rattle.text.proofs.NodeLaws.{number_fact, list_fact, FitsIn, few, FaultlessNode}
use Rattle.text.proofs.TableLaws.{Fitting, Lines, proc_bounds}
use Rattle.text.proofs.RoundTrip.{read_write, read_lines_lem, fault_none, write_read}

-- ---- values

-- a number below 10^k has at most k digits
digits_short : (k n : ℕ) → n < 10 ^ suc k → length (digits n) ≤ suc k
digits_short zero n h = rw (digits_small n h) (omega arith)
digits_short (suc k) n h = by_order n 10
    (λ u. rw (digits_small n u) (omega arith))
    (λ u. let ih = digits_short k (n / 10) (omega arith) in rw (digits_large n u, length-append (digits (n / 10)) _) (omega arith))

abbrev AllShort : ℕ → List (List ℕ) → Type 0
AllShort m [] = Unit {0}
AllShort m (s ∷ ss) = (length s ≤ m) × AllShort m ss

-- each item has a comma behind it, but for the last
commas_short : (m : ℕ) (s : List ℕ) (ss : List (List ℕ)) → AllShort m (s ∷ ss) → suc (length (commas (s ∷ ss))) ≤ suc m * length (s ∷ ss)
unfolding commas
commas_short m s [] h = omega arith
commas_short m s (x ∷ ss) h = let ih = commas_short m x ss h.1 in rw (length-append s _) (omega arith)

-- strictly ascending numbers are no more than their range
ascending_count : (lo n x : ℕ) (xs : List ℕ) → ascends (x ∷ xs) ≡ true → within lo n (x ∷ xs) ≡ true → x + length (x ∷ xs) ≤ n
unfolding ascends every
ascending_count lo n x [] a w = let h = ltb-true x n (and_right (leb lo x) (ltb x n) (and_left (leb lo x && ltb x n) true w)) in omega arith
ascending_count lo n x (y ∷ xs) a w =
    let ih = ascending_count lo n y xs (and_right (ltb x y) (ascends (y ∷ xs)) a) (and_right (leb lo x && ltb x n) (within lo n (y ∷ xs)) w) in
    let h = ltb-true x y (and_left (ltb x y) (ascends (y ∷ xs)) a) in
    omega arith

-- targets have two digits, variables three
numbers_short : (lo n : ℕ) (xs : List ℕ) → n ≤ 100 → within lo n xs ≡ true → AllShort 2 (map digits xs)
unfolding every
numbers_short lo n [] h w = tt
numbers_short lo n (x ∷ xs) h w =
    let u = ltb-true x n (and_right (leb lo x) (ltb x n) (and_left (leb lo x && ltb x n) (within lo n xs) w)) in
    (digits_short 1 x (omega arith), numbers_short lo n xs h (and_right (leb lo x && ltb x n) (within lo n xs) w))

names_short : (n : ℕ) (xs : List (Option ℕ)) → n ≤ 1000 → all_declared n xs ≡ true → AllShort 3 (map spell_variable xs)
unfolding every
names_short n [] h e = tt
names_short n (none ∷ xs) h e = (omega arith, names_short n xs h e)
names_short n (some v ∷ xs) h e =
    let u = ltb-true v n (and_left (ltb v n) (all_declared n xs) e) in
    (digits_short 2 v (omega arith), names_short n xs h (and_right (ltb v n) (all_declared n xs) e))

-- the bytes that a value of a kind has at most, where its numbers have three digits, a list's two, and arguments are four
abbrev most : (k : ValueKind) → Of k → ℕ
most (number lo n f) v = 3
most (choice a b) v = length a + length b
most (kind c j) v = length (kind_word v)
most (operation t) v = 3
most (operand n) v = 11
most (variable c n) v = 3
most (ascending one lo n) v = 92
most (arguments c n) v = 15

abbrev Small : (k : ValueKind) → Of k → Type 0
Small (number lo n f) v = n ≤ 1000
Small (choice a b) v = Unit {0}
Small (kind c j) v = Unit {0}
Small (operation t) v = Unit {0}
Small (operand n) v = n ≤ 1000
Small (variable c n) v = n ≤ 1000
Small (ascending one lo n) v = (n ≤ lo + 31) × (n ≤ 100)
Small (arguments c n) v = (n ≤ 1000) × (length v ≤ 4)

operand_short : (n : ℕ) (v : Operand) → n ≤ 1000 → check (operand n) v ≡ none → length (spell_operand v) ≤ 11
unfolding check
operand_short n (Var v) h e = let u = ltb-true v n (unless_none (ltb v n) Reference e) in let d = digits_short 2 v (omega arith) in omega arith
operand_short n (Const (pos x)) h e = let u = leb-true x 2147483647 (unless_none (leb x 2147483647) Range e) in let d = digits_short 9 x (omega arith) in omega arith
operand_short n (Const (negsuc x)) h e = let u = leb-true x 2147483647 (unless_none (leb x 2147483647) Range e) in let d = digits_short 9 (suc x) (omega arith) in omega arith

list_short : (one : Bool) (lo n : ℕ) (xs : List ℕ) → n ≤ lo + 31 → n ≤ 100 → check (ascending one lo n) xs ≡ none → length (spell_list (map digits xs)) ≤ 92
unfolding every
list_short one lo n [] h k e = omega arith
list_short one lo n (x ∷ xs) h k e =
    let f = list_fact one lo n (x ∷ xs) e in
    let c = commas_short 2 (digits x) (map digits xs) (numbers_short lo n (x ∷ xs) k f.1) in
    let a = ascending_count lo n x xs f.0 f.1 in
    let b = leb-true lo x (and_left (leb lo x) (ltb x n) (and_left (leb lo x && ltb x n) (within lo n xs) f.1)) in
    let d = length-map xs digits in
    omega arith

args_short : (c : Bool) (n : ℕ) (xs : List (Option ℕ)) → n ≤ 1000 → length xs ≤ 4 → check (arguments c n) xs ≡ none → length (spell_list (map spell_variable xs)) ≤ 15
unfolding check
args_short c n [] h k e = omega arith
args_short c n (x ∷ xs) h k e =
    let f = unless_none (all_declared n (x ∷ xs)) Reference (or_right (unless (c || none_removed (x ∷ xs)) _) (unless (all_declared n (x ∷ xs)) Reference) e) in
    let a = commas_short 3 (spell_variable x) (map spell_variable xs) (names_short n (x ∷ xs) h f) in
    let d = length-map xs spell_variable in
    omega arith

spell_short : (k : ValueKind) (v : Of k) → check k v ≡ none → Small k v → length (spell k v) ≤ most k v
unfolding spell check
spell_short (number lo n f) v e h = let u = number_fact lo n f v e in digits_short 2 v (omega arith)
spell_short (choice a b) false e h = omega arith
spell_short (choice a b) true e h = omega arith
spell_short (kind c j) v e h = omega arith
spell_short (operation t) v e h = elim v as (λ k. length (spell (operation t) k) ≤ most (operation t) k) [ Add ↦ omega arith | Sub ↦ omega arith | And ↦ omega arith | Or ↦ omega arith | Xor ↦ omega arith | Shr ↦ omega arith | Lt ↦ omega arith | Eq ↦ omega arith ]
spell_short (operand n) v e h = operand_short n v h e
spell_short (variable c n) none e h = omega arith
spell_short (variable c n) (some v) e h = let u = ltb-true v n (unless_none (ltb v n) Reference e) in digits_short 2 v (omega arith)
spell_short (ascending one lo n) v e h = list_short one lo n v h.0 h.1 e
spell_short (arguments c n) v e h = args_short c n v h.0 h.1 e

-- ---- lines

-- the bytes that a line has at most, and when
abbrev size : (d : Line) → Vals d → ℕ
size end w = 1
size (field key k next) w = length key + (most k w.0 + size (next w.0) w.1)

abbrev AllSmall : (d : Line) → Vals d → Type 0
AllSmall end w = Unit {0}
AllSmall (field key k next) w = Small k w.0 × AllSmall (next w.0) w.1

write_short : (d : Line) (w : Vals d) → Faultless d w → AllSmall d w → length (write d w) ≤ size d w
unfolding write
write_short end w f h = omega arith
write_short (field key k next) w f h =
    let a = spell_short k w.0 f.0 h.0 in
    let b = write_short (next w.0) w.1 f.1 h.1 in
    rw (length-append key _, length-append (spell k w.0) _) (omega arith)

-- lines that depend on the form
queue_short : (closed : Bool) (i : ℕ) (w : Vals (queue_line closed i)) → i < 8 → Faultless (queue_line closed i) w → length (write (queue_line closed i) w) ≤ 30
queue_short false i w h f = let a = write_short (queue_line false i) w f (omega arith) in omega arith
queue_short true i w h f = let a = write_short (queue_line true i) w f (omega arith) in omega arith

proc_short : (closed : Bool) (i : ℕ) (w : Vals (proc_line closed i)) → i < 8 → Faultless (proc_line closed i) w → length (write (proc_line closed i) w) ≤ 137
proc_short false i w h f = let a = write_short (proc_line false i) w f (omega arith) in omega arith
proc_short true i w h f = let p = number_fact 0 5 _ w.1.0 f.1.0 in let a = write_short (proc_line true i) w f (omega arith) in omega arith

-- a call that fits has at most four arguments
args_few : (t : Table) (q : ℕ) (xs : Args) (to : ℕ) → FitsIn t (Call q xs to) → length (arg_names xs) ≤ 4
args_few t q xs to h = rw (length-map (take xs.len _) _, length-take xs.len _) (omega (arith, few t q xs to h))

-- the bounds of the references on a node line
abbrev Bounded : Scope → Type 0
Bounded c = (c.procs ≤ 1000) × (c.sems ≤ 1000) × (c.queues ≤ 1000) × (c.vars ≤ 1000) × (c.nodes ≤ 32) × (c.nodes ≤ 100)

-- a node's kind and what stands behind it; the longest is a test's
fields_size : (c : Scope) (k : NodeKind) (w : Vals (fields c k)) → length (kind_word k) + size (fields c k) w ≤ 233
fields_size c = by_word (omega arith)

abbrev SmallLine : (c : Scope) → Described c → Type 0
SmallLine c no_line = Unit {0}
SmallLine c (described k w) = AllSmall (fields c k) w

node_small : (t : Table) (c : Scope) → Bounded c → (x : Node) → FitsIn t x → SmallLine c (describe c x)
unfolding describe
node_small t c b = by_kind (search args_few depth 9)

node_short : (t : Table) (c : Scope) (j : ℕ) (x : Node) → Bounded c → j < 32 → FitsIn t x → FaultlessNode c j (describe c x) → length (node_text c j (describe c x)) ≤ 247
node_short t c j x b h g f = go (describe c x) (node_small t c b x g) f
  where
    go : (d : Described c) → SmallLine c d → FaultlessNode c j d → length (node_text c j d) ≤ 247
    go no_line s f = omega arith
    go (described k w) s f = omega (arith, fields_size c k w, write_short (node_line c j (suc j)) (j, (k, w)) f (omega arith, (tt, s)))

-- ---- tables

-- n texts of at most m bytes each
concat_short : (f : ℕ → List ℕ) (m n i : ℕ) → ((j : ℕ) → i ≤ j → j < i + n → length (f j) ≤ m) → length (concat_from f n i) ≤ n * m
unfolding concat_from
concat_short f m zero i h = omega arith
concat_short f m (suc n) i h =
    let a = h i (omega arith) (omega arith) in
    let b = concat_short f m n (suc i) (λ j k u. h j (omega arith) (omega arith)) in
    rw (length-append (f i) (concat_from f n (suc i))) (omega arith)

-- a procedure has 32 node lines at most
proc_text_lem : (t : Table) → Lines t → Fitting t → (p : ℕ) → p < t.procs → length (proc_text t p) ≤ 137 + 32 * 247
proc_text_lem t h g p k =
    let q = proc_at t p in
    let c = h.counts in
    let procs = number_fact 1 9 _ t.procs c.1.0 in
    let sems = number_fact 0 9 _ t.sems c.1.1.0 in
    let queues = number_fact 0 9 _ t.queues c.1.1.1.0 in
    let b = proc_bounds t.closed p q (h.procs p k) in
    let x = proc_short t.closed p _ (omega arith) (h.procs p k) in
    let y = concat_short (λ j. node_text (scope t q) j (describe (scope t q) (node_in q j))) 247 q.nodes 0
    (λ j l u. node_short t (scope t q) j (node_in q j) (omega arith) (omega arith) (g p k j (omega arith)) (h.nodes p k j (omega arith))) in
    rw (length-append (write (proc_line t.closed p) (proc_vals t.closed p q)) _) (omega arith)

-- 691 bytes are left up to 65,536
lines_short : (t : Table) → Lines t → Fitting t → length (text t) ≤ 64845
unfolding text
lines_short t h g =
    let c = h.counts in
    let tasks = number_fact 1 5 _ t.tasks c.0 in
    let procs = number_fact 1 9 _ t.procs c.1.0 in
    let sems = number_fact 0 9 _ t.sems c.1.1.0 in
    let queues = number_fact 0 9 _ t.queues c.1.1.1.0 in
    let s₁ = write_short head_line _ h.head (omega arith) in
    let s₂ = write_short counts_line _ c (omega arith) in
    let s₃ = concat_short (λ i. write (task_line t.procs i) (task_vals t.procs i (task_at t i))) 17 t.tasks 0 (λ i k u. write_short (task_line t.procs i) _ (h.tasks i (omega arith)) (omega arith)) in
    let s₄ = concat_short (λ i. write (sem_line i) (sem_vals i (sem_at t i))) 18 t.sems 0 (λ i k u. write_short (sem_line i) _ (h.sems i (omega arith)) (omega arith)) in
    let s₅ = concat_short (λ i. write (queue_line t.closed i) (queue_vals t.closed i (queue_at t i))) 30 t.queues 0 (λ i k u. queue_short t.closed i _ (omega arith) (h.queues i (omega arith))) in
    let s₆ = concat_short (proc_text t) (137 + 32 * 247) t.procs 0 (λ i k u. proc_text_lem t h g i (omega arith)) in
    simp length-append (omega arith)

-- every accepted text has at most 65,536 bytes
pub read_length : (s : List ℕ) (t : Table) → read_lines s ≡ good t → length s ≤ 65536
read_length s t e = rw (← read_write s t e) (let h = read_lines_lem s t e in omega (arith, lines_short t h.0 h.1))

-- so has the text of every table without a fault
pub text_length : (t : Table) → fault t ≡ 0 → length (text t) ≤ 65536
text_length t e = let f = fault_none t e in read_length (text t) f.0 f.1

-- so a table without a fault, written and read, is the same table, with number and line 0
pub write_read_whole : (t : Table) → Shaped t → fault t ≡ 0 → read (text t) ≡ record { number = 0; line = 0; table = t }
unfolding read
write_read_whole t v e = rw (le-ltb 65536 (length (text t)) (text_length t e), read, write_read t v e)
