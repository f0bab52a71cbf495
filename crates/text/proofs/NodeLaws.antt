-- A node and the values of its line say the same, and so do a procedure's node lines and its places.
use Prim.Native.Nat.{ℕ, zero, suc, ◌+◌, ◌-◌, ◌^◌, ◌≤◌, ◌<◌, min}
use Rattle.std.specs.Prelude.{◌≡◌, Bool, true, false, ◌&&◌, ◌||◌, not, ltb, leb, eqb, length, get_or, set, take, drop, replicate}
use Rattle.std.proofs.Math.Path.{refl, sym, ap}
use Rattle.std.proofs.Common.{◌∙◌, subst, arith, length-set, get_or-set_other, ltb-true, lt-ltb, leb-true, le-leb, eqb-true, ne_eqb}
use mathlib.Core.List.{List, [], ◌∷◌, ◌++◌, map}
use Rattle.std.proofs.Math.Option.{Option, none, some}
use Rattle.std.proofs.lemmas.List.{set-get_or}
use Rattle.table.specs.Cases.{cases}
use Rattle.table.specs.Mask.{pick, members}
use Rattle.table.specs.Table.{no_slot, no_slots, proc_at, removed, arg_places, arc_to, arc_no, is_absent, parts}
use Rattle.table.specs.declared.Args.{Args}
use Rattle.table.specs.declared.Node.{Node}
use Rattle.table.specs.declared.Node.TheVariants.{Absent, Start, Set, Test, Read, Call, Wait, Signal, Send, Recv, Assert, Out, Return}
use Rattle.table.specs.declared.Slot.{Slot}
use Rattle.table.specs.declared.Table.{Table}
use Rattle.text.specs.declared.Fault.{Fault}
use Rattle.text.specs.declared.Fault.TheVariants.{Reference}
use Rattle.text.specs.Number.{bytes}
use Rattle.table.specs.ByKind.{by_kind}
use Rattle.text.specs.ByWord.{by_word}
use Rattle.text.proofs.NumberLaws.{by_order, and_left, and_right}
use Rattle.text.specs.Value.{NodeKind, start, set_kind, test, read, call, wait, signal, send, recv, assert, out, return, number, variable, ascending, arguments, spell, unless, ascends, within, is_one, none_removed, all_declared, check}
use Rattle.text.proofs.ValueLaws.{no}
use Rattle.text.specs.Line.{Vals, write, took, onto, give, at, after, line}
use Rattle.text.proofs.LineLaws.{line_read, onto_read, node_sound}
use Rattle.text.proofs.MaskLists.{members_set, set_members}
use Rattle.text.specs.Format.{Scope, fields, node_line, variable_of, name_of, set_of, args_of, arg_names, node_of, Described, no_line, described, describe}
use Rattle.text.specs.Reader.{Numbered, node_row, slot_of, stands, further_nodes, nodes_of, count_right}
use Rattle.text.specs.Writer.{node_text, every, is_zero, args_empty}
use Rattle.text.proofs.ArgsLaws.{args_again}
use Rattle.text.proofs.RowLaws.{Faultless, or_left, or_right, unless_none, faultless, line_only, Rows, Row, Filled, fill_done, fill_step, rows_fill}

-- ---- values

-- a number without fault lies between its bounds
pub number_fact : (lo n : ℕ) (f : Fault) (v : ℕ) → check (number lo n f) v ≡ none → (lo ≤ v) × (v < n)
unfolding check
number_fact lo n f v e =
    let h = unless_none (leb lo v && ltb v n) f e in
    (leb-true lo v (and_left (leb lo v) (ltb v n) h), ltb-true v n (and_right (leb lo v) (ltb v n) h))

-- so does each of a list, and the list ascends
pub list_fact : (one : Bool) (lo n : ℕ) (xs : List ℕ) → check (ascending one lo n) xs ≡ none → (ascends xs ≡ true) × (within lo n xs ≡ true)
unfolding check
list_fact one lo n xs e =
    let a = ascends xs && (not one || is_one xs) in (
      and_left (ascends xs) (not one || is_one xs) (unless_none a _ (or_left (unless a _) (unless (within lo n xs) Reference) e)),
      unless_none (within lo n xs) Reference (or_right (unless a _) (unless (within lo n xs) Reference) e),
    )

within_more : (lo n m : ℕ) (xs : List ℕ) → n ≤ m → within lo n xs ≡ true → within lo m xs ≡ true
unfolding every
within_more lo n m [] h e = refl
within_more lo n m (x ∷ xs) h e =
    let a = and_left (leb lo x && ltb x n) (within lo n xs) e in
    let b = ltb-true x n (and_right (leb lo x) (ltb x n) a) in
    rw (and_left (leb lo x) (ltb x n) a, lt-ltb x m (omega arith)) (within_more lo n m xs h (and_right (leb lo x && ltb x n) (within lo n xs) e))

-- what a list without fault says as a mask it says again as a list
pub list_back : (one : Bool) (lo n : ℕ) (xs : List ℕ) → n ≤ 32 → check (ascending one lo n) xs ≡ none → members (set_of xs) ≡ xs
list_back one lo n xs h e = let f = list_fact one lo n xs e in members_set lo xs f.0 (within_more lo n 32 xs h f.1)

-- so do a variable, a number, and a call's arguments where they are no more than four
name_back : (n v : ℕ) → n ≤ removed → v < n → name_of v ≡ some v
name_back n v h l = rw (ne_eqb v removed (λ q. omega arith))

variable_back : (c : Bool) (n : ℕ) (v : Option ℕ) → n ≤ removed → check (variable c n) v ≡ none → name_of (variable_of v) ≡ v
unfolding check
variable_back c n none h e = refl
variable_back c n (some v) h e = name_back n v h (ltb-true v n (unless_none (ltb v n) Reference e))

pub number_back : (v : ℕ) → variable_of (name_of v) ≡ v
number_back v = cases (eqb v removed) (λ e. rw e (sym (eqb-true v removed e))) (λ e. rw e)

names_back : (n : ℕ) (xs : List (Option ℕ)) → n ≤ removed → all_declared n xs ≡ true → map name_of (map variable_of xs) ≡ xs
unfolding every
names_back n [] h e = refl
names_back n (none ∷ xs) h e = rw (names_back n xs h e)
names_back n (some v ∷ xs) h e =
    rw (name_back n v h (ltb-true v n (and_left (ltb v n) (all_declared n xs) e)), names_back n xs h (and_right (ltb v n) (all_declared n xs) e))

args_back : (c : Bool) (n : ℕ) (xs : List (Option ℕ)) → n ≤ removed → check (arguments c n) xs ≡ none → min (length xs) 5 ≤ 4 → arg_names (args_of xs) ≡ xs
unfolding check
args_back c n xs h e l = go xs l (names_back n xs h (unless_none (all_declared n xs) Reference (or_right (unless (c || none_removed xs) _) (unless (all_declared n xs) Reference) e)))
  where
    go : (xs : List (Option ℕ)) → min (length xs) 5 ≤ 4 → map name_of (map variable_of xs) ≡ xs → arg_names (args_of xs) ≡ xs
    go [] l e = e
    go (a ∷ []) l e = e
    go (a ∷ b ∷ []) l e = e
    go (a ∷ b ∷ c ∷ []) l e = e
    go (a ∷ b ∷ c ∷ d ∷ []) l e = e
    go (a ∷ b ∷ c ∷ d ∷ f ∷ xs) l e = absurd (omega arith)

-- and arguments with nothing behind them
zero_all : (n : ℕ) (ns : List ℕ) → every is_zero (n ∷ ns) ≡ true → (n ≡ 0) × (every is_zero ns ≡ true)
unfolding every
zero_all n ns e = (eqb-true n 0 (and_left (is_zero n) (every is_zero ns) e), and_right (is_zero n) (every is_zero ns) e)

args_forth : (x : Args) → every is_zero (drop x.len (arg_places x)) ≡ true → min (length (arg_names x)) 5 ≤ 4 → args_of (arg_names x) ≡ x
args_forth x z l = go x.len x.a0 x.a1 x.a2 x.a3 z l
  where
    go : (n a b c d : ℕ) → every is_zero (drop n (a ∷ b ∷ c ∷ d ∷ [])) ≡ true → min (length (arg_names (record { len = n; a0 = a; a1 = b; a2 = c; a3 = d }))) 5 ≤ 4
        → args_of (arg_names (record { len = n; a0 = a; a1 = b; a2 = c; a3 = d })) ≡ record { len = n; a0 = a; a1 = b; a2 = c; a3 = d }
    go zero a b c d z l =
        let p = zero_all a (b ∷ c ∷ d ∷ []) z in
        let q = zero_all b (c ∷ d ∷ []) p.1 in
        let r = zero_all c (d ∷ []) q.1 in
        rw (p.0, q.0, r.0, (zero_all d [] r.1).0)
    go (suc zero) a b c d z l =
        let q = zero_all b (c ∷ d ∷ []) z in
        let r = zero_all c (d ∷ []) q.1 in
        rw (number_back a, q.0, r.0, (zero_all d [] r.1).0)
    go (suc (suc zero)) a b c d z l =
        let r = zero_all c (d ∷ []) z in
        rw (number_back a, number_back b, r.0, (zero_all d [] r.1).0)
    go (suc (suc (suc zero))) a b c d z l = rw (number_back a, number_back b, number_back c, (zero_all d [] z).0)
    go (suc (suc (suc (suc zero)))) a b c d z l = rw (number_back a, number_back b, number_back c, number_back d)
    go (suc (suc (suc (suc (suc n))))) a b c d z l =
        let e : suc (suc (suc (suc (suc n)))) - 4 ≡ suc n = omega arith in
        absurd (big (rw e at l))
      where
        big : min (suc (suc (suc (suc (length (map name_of (take (suc n) (replicate (suc n) d)))))))) 5 ≤ 4 → ⊥
        big l = omega arith

-- ---- a node and the values of its line

abbrev lacks : {c : Scope} → Described c → Bool
lacks no_line = true
lacks (described k w) = false

-- only where there is no node is no line
line_absent : (c : Scope) (x : Node) → is_absent x ≡ lacks (describe c x)
unfolding describe parts
line_absent c = by_kind (search)

absent_or : (x : Node) → x ≡ pick (is_absent x) Absent x
unfolding parts
absent_or = by_kind (search)

pub absent_is : (x : Node) → is_absent x ≡ true → x ≡ Absent
absent_is x e = absent_or x ∙ rw e

-- a place is absent and stands for no line, or is not and stands for one
pub by_line {ℓ} : {P : Type ℓ} (c : Scope) (x : Node) → (x ≡ Absent → describe c x ≡ no_line → P)
    → ((k : NodeKind) (w : Vals (fields c k)) → is_absent x ≡ false → describe c x ≡ described k w → P) → P
by_line {P = P} c x f g = go (describe c x) refl (line_absent c x)
  where
    go : (d : Described c) → describe c x ≡ d → is_absent x ≡ lacks d → P
    go no_line e a = f (absent_is x a) e
    go (described k w) e a = g k w a e

-- a node of table t with as many arguments as its callee has parameters, which are no more than four
abbrev pub FitsIn : Table → Node → Type 0
FitsIn t x = (count_right t x ≡ true) × ((q : ℕ) → (proc_at t q).params ≤ 4)

pub few : (t : Table) (q : ℕ) (xs : Args) (to : ℕ) → FitsIn t (Call q xs to) → xs.len ≤ 4
unfolding parts
few t q xs to f = let e = eqb-true xs.len (proc_at t q).params f.0 in rw e (f.1 q)

-- a line without fault stands for a node that stands for that line
pub describe_node : (t : Table) (c : Scope) (k : NodeKind) (w : Vals (fields c k)) → c.vars ≤ removed → c.nodes ≤ 32 → Faultless (fields c k) w
    → FitsIn t (node_of c k w) → describe c (node_of c k w) ≡ described k w
unfolding node_of describe parts
describe_node t c start w v n f g = rw (list_back _ 1 c.nodes w.0 n f.0)
describe_node t c set_kind w v n f g = rw (list_back _ 1 c.nodes w.1.1.1.1.0 n f.1.1.1.1.0)
describe_node t c test w v n f g = rw (list_back _ 1 c.nodes w.1.1.1.0 n f.1.1.1.0, list_back _ 1 c.nodes w.1.1.1.1.0 n f.1.1.1.1.0)
describe_node t c read w v n f g = rw (list_back _ 1 c.nodes w.1.0 n f.1.0)
describe_node t c call w v n f g = rw (args_back c.closed c.vars w.1.0 v f.1.0 (few t w.0 (args_of w.1.0) 0 g), list_back _ 1 c.nodes w.1.1.0 n f.1.1.0)
describe_node t c wait w v n f g = rw (list_back _ 1 c.nodes w.1.0 n f.1.0)
describe_node t c signal w v n f g = rw (list_back _ 1 c.nodes w.1.0 n f.1.0)
describe_node t c send w v n f g = rw (variable_back c.closed c.vars w.1.0 v f.1.0, list_back _ 1 c.nodes w.1.1.0 n f.1.1.0)
describe_node t c recv w v n f g = rw (variable_back c.closed c.vars w.1.0 v f.1.0, list_back _ 1 c.nodes w.1.1.0 n f.1.1.0)
describe_node t c assert w v n f g = rw (variable_back c.closed c.vars w.0 v f.0, list_back _ 1 c.nodes w.1.0 n f.1.0)
describe_node t c out w v n f g = rw (variable_back c.closed c.vars w.0 v f.0, list_back _ 1 c.nodes w.1.0 n f.1.0)
describe_node t c return w v n f g = refl

abbrev pub node_from : (c : Scope) → Described c → Node
node_from c no_line = Absent
node_from c (described k w) = node_of c k w

-- masks of 32 places, and nothing behind a call's arguments
abbrev pub CleanNode : Node → Type 0
CleanNode x = (args_empty x ≡ true) × (arc_to x < 2 ^ 32) × (arc_no x < 2 ^ 32)

-- a clean node stands for a line that stands for that node
pub node_describe : (t : Table) (c : Scope) (x : Node) → CleanNode x → FitsIn t (node_from c (describe c x)) → node_from c (describe c x) ≡ x
unfolding node_of describe parts
node_describe t c Absent h f = refl
node_describe t c (Start to) h f = rw (set_members to h.1)
node_describe t c (Set v o a b to) h f = rw (set_members to h.1)
node_describe t c (Test o a b y n) h f = rw (set_members y h.1, set_members n h.2)
node_describe t c (Read v to) h f = rw (set_members to h.1)
node_describe t c (Call q xs to) h f = rw (args_forth xs h.0 (few t q (args_of (arg_names xs)) 0 f), set_members to h.1)
node_describe t c (Wait s to) h f = rw (set_members to h.1)
node_describe t c (Signal s to) h f = rw (set_members to h.1)
node_describe t c (Send q v to) h f = rw (number_back v, set_members to h.1)
node_describe t c (Recv q v to) h f = rw (number_back v, set_members to h.1)
node_describe t c (Assert v to) h f = rw (number_back v, set_members to h.1)
node_describe t c (Out v to) h f = rw (number_back v, set_members to h.1)
node_describe t c Return h f = refl

-- the line of node j has no fault; only in closed form, and there behind place 0, does a node lack one
abbrev pub FaultlessNode : (c : Scope) → ℕ → Described c → Type 0
FaultlessNode c j no_line = (0 < j) × (c.closed ≡ true)
FaultlessNode c j (described k w) = Faultless (node_line c j (suc j)) (j, (k, w))

-- a line without fault makes a node whose line has no fault either
describe_fine : (c : Scope) (j : ℕ) (k : NodeKind) (w : Vals (fields c k)) → c.vars ≤ removed → c.nodes ≤ 32 → Faultless (node_line c j (suc j)) (j, (k, w)) → FaultlessNode c j (describe c (node_of c k w))
unfolding node_of describe
describe_fine c j start w v n f = rw (list_back _ 1 c.nodes w.0 n f.1.1.0) f
describe_fine c j set_kind w v n f = rw (list_back _ 1 c.nodes w.1.1.1.1.0 n f.1.1.1.1.1.1.0) f
describe_fine c j test w v n f = rw (list_back _ 1 c.nodes w.1.1.1.0 n f.1.1.1.1.1.0, list_back _ 1 c.nodes w.1.1.1.1.0 n f.1.1.1.1.1.1.0) f
describe_fine c j read w v n f = rw (list_back _ 1 c.nodes w.1.0 n f.1.1.1.0) f
describe_fine c j call w v n f =
    rw (list_back _ 1 c.nodes w.1.1.0 n f.1.1.1.1.0) (f.0, (f.1.0, (f.1.1.0, (args_again c.closed c.vars w.1.0 v f.1.1.1.0, f.1.1.1.1))))
describe_fine c j wait w v n f = rw (list_back _ 1 c.nodes w.1.0 n f.1.1.1.0) f
describe_fine c j signal w v n f = rw (list_back _ 1 c.nodes w.1.0 n f.1.1.1.0) f
describe_fine c j send w v n f = rw (variable_back c.closed c.vars w.1.0 v f.1.1.1.0, list_back _ 1 c.nodes w.1.1.0 n f.1.1.1.1.0) f
describe_fine c j recv w v n f = rw (variable_back c.closed c.vars w.1.0 v f.1.1.1.0, list_back _ 1 c.nodes w.1.1.0 n f.1.1.1.1.0) f
describe_fine c j assert w v n f = rw (variable_back c.closed c.vars w.0 v f.1.1.0, list_back _ 1 c.nodes w.1.0 n f.1.1.1.0) f
describe_fine c j out w v n f = rw (variable_back c.closed c.vars w.0 v f.1.1.0, list_back _ 1 c.nodes w.1.0 n f.1.1.1.0) f
describe_fine c j return w v n f = f

-- a node made of a line has nothing behind its arguments
args_none : (xs : List (Option ℕ)) → every is_zero (drop (min (length xs) 5) (arg_places (args_of xs))) ≡ true
unfolding every
args_none [] = refl
args_none (a ∷ []) = refl
args_none (a ∷ b ∷ []) = refl
args_none (a ∷ b ∷ c ∷ []) = refl
args_none (a ∷ b ∷ c ∷ d ∷ []) = refl
args_none (a ∷ b ∷ c ∷ d ∷ f ∷ xs) = let e : min (suc (suc (suc (suc (suc (length xs)))))) 5 ≡ 5 = omega arith in rw e

node_args : (c : Scope) (k : NodeKind) (w : Vals (fields c k)) → args_empty (node_of c k w) ≡ true
unfolding node_of parts
node_args c = by_word (search args_none)

-- ---- a procedure's node lines

-- the text does not begin with a node line
abbrev pub NoNode : List ℕ → Type 0
NoNode s = (x : List ℕ) → after (bytes "node=") s ≡ at x → ⊥

-- or only with one whose number is at least i
abbrev pub NotBefore : Scope → ℕ → List ℕ → Type 0
NotBefore c i s = (lo n l : ℕ) (v : Vals (node_line c lo n)) (l' : ℕ) (r : List ℕ) → line (node_line c lo n) l s ≡ took v l' r → i ≤ v.0

-- no node line is read from such a text, and none is written at its beginning
pub no_line_lem : (c : Scope) (lo n l : ℕ) (s : List ℕ) → NoNode s → (v : Vals (node_line c lo n)) (l' : ℕ) (r : List ℕ) → line (node_line c lo n) l s ≡ took v l' r → ⊥
unfolding write after
no_line_lem c lo n l s h v l' r e = h _ (ap (after (bytes "node=")) (line_read (node_line c lo n) l s v l' r e).0)

no_node : (c : Scope) (i : ℕ) (s : List ℕ) → NoNode s → (k : NodeKind) (w : Vals (fields c k)) (s' : List ℕ) → s ≡ node_text c i (described k w) ++ s' → ⊥
unfolding write after
no_node c i s h k w s' q = h _ (ap (after (bytes "node=")) q)

-- a text from which a node line was read begins with no line of another number
one_number : (c : Scope) (lo n l : ℕ) (s : List ℕ) (v : Vals (node_line c lo n)) (l' : ℕ) (r : List ℕ) → line (node_line c lo n) l s ≡ took v l' r
    → (i : ℕ) (k : NodeKind) (w : Vals (fields c k)) (s' : List ℕ) → s ≡ node_text c i (described k w) ++ s' → i ≡ v.0
unfolding write spell
one_number c lo n l s v l' r e i k w s' q = ap (λ (u : Vals (node_line c lo n)). u.0) (line_only (node_line c lo n) (node_sound c lo n) l s v l' r e (i, (k, w)) s' q).0

-- behind a node's line stand later numbers
pub next_node : (c : Scope) (i : ℕ) (d : Described c) (s : List ℕ) → NotBefore c (suc i) s → NotBefore c i (node_text c i d ++ s)
next_node c i no_line s x lo n l v l' r e = let h = x lo n l v l' r e in omega arith
next_node c i (described k w) s x lo n l v l' r e = let q = one_number c lo n l _ v l' r e i k w s refl in omega arith

-- the places of a procedure with scope c, in table t
abbrev pub node_rows : Table → Scope → Rows Slot
node_rows t c = record {
  text = λ j x. node_text c j (describe c x.node);
  empty = no_slot;
  Fine = λ j x. (args_empty x.node ≡ true) × FaultlessNode c j (describe c x.node);
  Fits = λ x. FitsIn t x.node;
  Clean = λ x. CleanNode x.node;
  Next = NotBefore c;
  next = λ i b s x. next_node c i (describe c b.node) s x;
}

own_number : (j : ℕ) (f : Fault) → check (number j (suc j) f) j ≡ none
unfolding check
own_number j f = rw (le-leb j j (omega arith), lt-ltb j (suc j) (omega arith))

-- every place of an empty list is empty
get_d_all : {A : Type 0} (n j : ℕ) (a : A) → get_or (replicate n a) j a ≡ a
get_d_all zero j a = refl
get_d_all (suc n) zero a = refl
get_d_all (suc n) (suc j) a = get_d_all n j a

module _ (t : Table) (c : Scope) (few-vars : c.vars ≤ removed) (few-nodes : c.nodes ≤ 32) where
  -- a clean node is known by its line
  known : (b : Slot) → CleanNode b.node → (d : Described c) → describe c b.node ≡ d → FitsIn t (node_from c d) → b.node ≡ node_from c d
  known b h d q f = sym (node_describe t c b.node h (rw q f)) ∙ ap (node_from c) q

  -- a node line was read
  node_row_lem : (lo n l : ℕ) (s : List ℕ) (v : Vals (node_line c lo n)) (l' : ℕ) (r : List ℕ) → line (node_line c lo n) l s ≡ took v l' r
      → Row (node_rows t c) v.0 s (record { node = node_of c v.1.0 v.1.1 }) r
  unfolding write spell
  node_row_lem lo n l s v l' r e =
      let k = v.1.0 in
      let w = v.1.1 in
      let b = line_read (node_line c lo n) l s v l' r e in
      let f = faultless (node_line c lo n) v b.2 in
      record {
        fine = (node_args c k w, describe_fine c v.0 k w few-vars few-nodes (own_number v.0 _, f.1));
        same = λ g. rw (describe_node t c k w few-vars few-nodes f.1.1 g) b.0;
        only = λ g b s' h x q. go g b s' h x (describe c b.node) refl q;
      }
    where
      go : FitsIn t (node_of c v.1.0 v.1.1) → (b : Slot) (s' : List ℕ) → CleanNode b.node → NotBefore c (suc v.0) s' → (d : Described c) → describe c b.node ≡ d
          → s ≡ node_text c v.0 d ++ s' → (b ≡ record { node = node_of c v.1.0 v.1.1 }) × (s' ≡ r)
      go g b s' h x no_line p q = let y = x lo n l v l' r (rw q at e) in absurd (omega arith)
      go g b s' h x (described k w) p q =
          let o = line_only (node_line c lo n) (node_sound c lo n) l s v l' r e (v.0, (k, w)) s' q in
          let m : node_of c k w ≡ node_of c v.1.0 v.1.1 = ap (λ (u : Vals (node_line c lo n)). node_of c u.1.0 u.1.1) o.0 in
          (ap (λ (y : Node). record { node = y }) (known b h (described k w) p (rw m g) ∙ m), o.1)

  -- no line of number j stands there
  absent_row : c.closed ≡ true → (j : ℕ) (s : List ℕ) → 0 < j → ((k : NodeKind) (w : Vals (fields c k)) (s' : List ℕ) → s ≡ node_text c j (described k w) ++ s' → ⊥) → Row (node_rows t c) j s no_slot s
  unfolding describe parts
  absent_row o j s m h = record { fine = (refl, (m, o)); same = λ g. refl; only = λ g b s' u x q. go g b s' u (describe c b.node) refl q }
    where
      go : FitsIn t Absent → (b : Slot) (s' : List ℕ) → CleanNode b.node → (d : Described c) → describe c b.node ≡ d → s ≡ node_text c j d ++ s' → (b ≡ no_slot) × (s' ≡ s)
      go g b s' u no_line p q = (ap (λ (y : Node). record { node = y }) (known b u no_line p g), sym q)
      go g b s' u (described k w) p q = absurd (h k w s' q)

  -- where a node line was read, the number, node and rest are those of its values
  row_read : {P : Type 0} (lo n l : ℕ) (s : List ℕ) (x : Numbered) (l' : ℕ) (r : List ℕ) → node_row c lo n l s ≡ took x l' r
      → ((v : Vals (node_line c lo n)) → line (node_line c lo n) l s ≡ took v l' r → record { at = v.0; node = node_of c v.1.0 v.1.1 } ≡ x → P) → P
  row_read lo n l s x l' r e then = onto_read (line (node_line c lo n) l s) _ x l' r e (λ v k q p h.
      let a : k ≡ l' = cc h in
      let b : q ≡ r = cc h in
      then v (p ∙ rw (a, b)) (cc h))

  number_of : (lo n l : ℕ) (s : List ℕ) (v : Vals (node_line c lo n)) (l' : ℕ) (r : List ℕ) → line (node_line c lo n) l s ≡ took v l' r → (lo ≤ v.0) × (v.0 < n)
  number_of lo n l s v l' r e = number_fact lo n _ v.0 (faultless (node_line c lo n) v (line_read (node_line c lo n) l s v l' r e).2).0

  -- the further lines of a closed procedure: none, for want of the word `node=` or of a count, or one and those behind it
  further_read : {P : Type 0} (f last : ℕ) (l : List Slot) (k : ℕ) (s : List ℕ) (L : List Slot) (k' : ℕ) (r : List ℕ) → further_nodes c f last l k s ≡ took L k' r
      → (l ≡ L → s ≡ r → (0 < f → NoNode s) → P)
      → ((g : ℕ) (v : Vals (node_line c (suc last) c.nodes)) (k₁ : ℕ) (s₁ : List ℕ) → f ≡ suc g → line (node_line c (suc last) c.nodes) k s ≡ took v k₁ s₁
      → further_nodes c g v.0 (set l v.0 (record { node = node_of c v.1.0 v.1.1 })) k₁ s₁ ≡ took L k' r → P) → P
  unfolding further_nodes
  further_read zero last l k s L k' r e stop more = stop (cc e) (cc e) (λ h. absurd (omega arith))
  further_read (suc f) last l k s L k' r e stop more = cases (stands (bytes "node=") s)
      (λ q. onto_read (node_row c (suc last) c.nodes k s) _ L k' r (rw q at e) (λ x k₁ s₁ a b. row_read (suc last) c.nodes k s x k₁ s₁ a (λ v u h. more f v k₁ s₁ refl u (rw (← h) at b))))
      (λ q. stop (cc (rw q at e)) (cc (rw q at e)) (λ h x p. no (cc (rw p at q))))

  -- places from i on, of which the first due is at least i, filled by further lines
  abbrev Further : ℕ → Type 0
  Further n = (f last i : ℕ) (l : List Slot) (k : ℕ) (s : List ℕ) (L : List Slot) (k' : ℕ) (r : List ℕ) → c.nodes ≡ i + n → last < i → c.nodes ≤ i + f → c.nodes ≤ length l
      → ((j : ℕ) → i ≤ j → get_or l j no_slot ≡ no_slot)
      → ((v : Vals (node_line c (suc last) c.nodes)) (l' : ℕ) (r' : List ℕ) → line (node_line c (suc last) c.nodes) k s ≡ took v l' r' → i ≤ v.0)
      → further_nodes c f last l k s ≡ took L k' r → Filled (node_rows t c) n i c.nodes l L s r

  -- no line for place i: it stays empty
  skip : c.closed ≡ true → (n : ℕ) → Further n → (f last i : ℕ) (l : List Slot) (k : ℕ) (s : List ℕ) (L : List Slot) (k' : ℕ) (r : List ℕ) → c.nodes ≡ i + suc n → last < i → c.nodes ≤ i + f → c.nodes ≤ length l
      → ((j : ℕ) → i ≤ j → get_or l j no_slot ≡ no_slot) → further_nodes c f last l k s ≡ took L k' r
      → ((k₁ : NodeKind) (w : Vals (fields c k₁)) (s₁ : List ℕ) → s ≡ node_text c i (described k₁ w) ++ s₁ → ⊥)
      → ((v : Vals (node_line c (suc last) c.nodes)) (l' : ℕ) (r' : List ℕ) → line (node_line c (suc last) c.nodes) k s ≡ took v l' r' → suc i ≤ v.0)
      → Filled (node_rows t c) (suc n) i c.nodes l L s r
  skip w n ih f last i l k s L k' r a b d h z e free due =
      let m : set l i no_slot ≡ l = ap (set l i) (sym (z i (omega arith))) ∙ set-get_or l i no_slot in
      fill_step (node_rows t c) n i c.nodes l s no_slot s L r a (omega arith) (absent_row w i s (omega arith) free)
      (rw m (ih f last (suc i) l k s L k' r (omega arith) (omega arith) (omega arith) h (λ j u. z j (omega arith)) due e))

  further : c.closed ≡ true → (n : ℕ) → Further n
  further w zero f last i l k s L k' r a b d h z due e = further_read f last l k s L k' r e
      (λ p q u. let j : c.nodes ≡ i = omega arith in rw (← j, ← p, ← q) (fill_done (node_rows t c) c.nodes l s))
      (λ g v k₁ s₁ p q u. let x = due v k₁ s₁ q in let y = number_of (suc last) c.nodes k s v k₁ s₁ q in absurd (omega arith))
  further w (suc n) f last i l k s L k' r a b d h z due e = further_read f last l k s L k' r e
      (λ p q u.
      let x = u (omega arith) in
      skip w n (further w n) f last i l k s L k' r a b d h z e (no_node c i s x) (λ v l' r' y. absurd (no_line_lem c (suc last) c.nodes k s x v l' r' y)))
      (λ g v k₁ s₁ p q u. by_order i v.0
      (λ x.
      skip w n (further w n) f last i l k s L k' r a b d h z e (λ k₂ x₂ s₂ y. let m = one_number c (suc last) c.nodes k s v k₁ s₁ q i k₂ x₂ s₂ y in omega arith)
      (λ v' l' r' y. let m : v ≡ v' = cc (q, y) in rw (← m) x))
      (λ x.
      let m = due v k₁ s₁ q in
      let y = number_of (suc last) c.nodes k s v k₁ s₁ q in
      let j : i ≡ v.0 = omega arith in
      rw j (fill_step (node_rows t c) n v.0 c.nodes l s _ s₁ L r (omega arith) (omega arith) (node_row_lem (suc last) c.nodes k s v k₁ s₁ q)
      (further w n g v.0 (suc v.0) (set l v.0 _) k₁ s₁ L k' r (omega arith) (omega arith) (omega arith) (rw (length-set l v.0 _) h)
      (λ j' o. get_or-set_other l v.0 j' _ no_slot (λ p. omega arith) ∙ z j' (omega arith)) (λ v' l' r' o. (number_of (suc v.0) c.nodes k₁ s₁ v' l' r' o).0) u))))

  -- a procedure's node lines fill its places, in either form
  pub nodes_fill : (closed : Bool) → c.closed ≡ closed → (k : ℕ) (s : List ℕ) (L : List Slot) (k' : ℕ) (r : List ℕ) → 1 ≤ c.nodes → nodes_of c closed k s ≡ took L k' r
      → Filled (node_rows t c) c.nodes 0 c.nodes no_slots L s r
  nodes_fill false o k s L k' r h e = rows_fill (node_rows t c) _ row c.nodes 0 c.nodes no_slots k s L k' r (omega arith) few-nodes e
    where
      row : (i l : ℕ) (s : List ℕ) (a : Slot) (l' : ℕ) (r : List ℕ) → onto (node_row c i (suc i) l s) (λ x. give (slot_of x)) ≡ took a l' r → Row (node_rows t c) i s a r
      row i l s a l' r e = onto_read (node_row c i (suc i) l s) _ a l' r e (λ x l₁ s₁ p q. row_read i (suc i) l s x l₁ s₁ p (λ v u h.
          let y = number_of i (suc i) l s v l₁ s₁ u in
          let m : v.0 ≡ i = omega arith in
          let n : record { node = node_of c v.1.0 v.1.1 } ≡ a = ap slot_of h ∙ cc q in
          let o : s₁ ≡ r = cc q in
          rw (← m, ← n, ← o) (node_row_lem i (suc i) l s v l₁ s₁ u)))
  nodes_fill true o k s L k' r h e = onto_read (node_row c 0 1 k s) _ L k' r e (λ x k₁ s₁ p q. row_read 0 1 k s x k₁ s₁ p (λ v u w.
      let y = number_of 0 1 k s v k₁ s₁ u in
      let z : v.0 ≡ 0 = omega arith in
      let n : suc (c.nodes - 1) ≡ c.nodes = omega arith in
      subst (λ (m : ℕ). Filled (node_rows t c) m 0 c.nodes no_slots L s r) n
      (fill_step (node_rows t c) (c.nodes - 1) 0 c.nodes no_slots s _ s₁ L r (omega arith) (omega arith) (rw z at (node_row_lem 0 1 k s v k₁ s₁ u))
      (further o (c.nodes - 1) c.nodes 0 1 (set no_slots 0 _) k₁ s₁ L k' r (omega arith) (omega arith) (omega arith) few-nodes
      (λ j m. get_or-set_other no_slots 0 j _ no_slot (λ p. omega arith) ∙ get_d_all 32 j no_slot) (λ v' l' r' m. (number_of 1 c.nodes k₁ s₁ v' l' r' m).0) (rw (← w) at q)))))
