-- What the flow of one node has, at a node that fits: its targets are those of the node's arcs, its masks fit, and what it adds is what is passed and sent.
use Rattle.std.specs.Prelude.{ℕ, zero, suc, ◌%◌, ◌^◌, ◌<◌, ◌≤◌, ◌≡◌, Bool, true, false, ◌||◌, ◌&&◌, ◌⊎◌, ◌≢◌, get_or, take, ltb}
use Rattle.std.proofs.Common.{arith, mod-eq_of_lt, sym, ◌∙◌, ap, subst, inl, inr, pow_pos, ltb-true, lt-ltb}
use Rattle.std.proofs.Math.Path.{refl}
use Rattle.std.proofs.lemmas.Bool.{false≢true}
use Rattle.std.proofs.Math.Option.{Option, none, some}
use mathlib.Core.List.Memᴰ
use mathlib.Core.List.{List, [], ◌∷◌, ◌++◌, Memᴰ}
use Rattle.std.proofs.Math.ListN.{get_elem?}
use Rattle.std.specs.Int.Bits.{bit_or, and_lt}
use Rattle.std.proofs.lemmas.Nat.{or_lt, xor_lt}
use Rattle.std.proofs.Math.Pow.{pow-lt}
use Rattle.table.specs.Cases.{cases}
use Rattle.table.specs.Mask.{pick, bit, members}
use Rattle.table.specs.MaskLaws.{members_is}
use Rattle.table.specs.Table.{variable_set, arcs, first_arc, second_arc, arg_places, arg_at, arg_list, Keeping, always, if_clean, never, absent, Exit, ends, by, either, Act, alone, waits, signals, sends, receives, calls, returns, parts, uses, keeping, act}
use Rattle.table.specs.declared.Args.{Args}
use Rattle.table.specs.declared.Node.{Node}
use Rattle.table.specs.declared.Table.{Table}
use Rattle.masks.specs.Bits.{bit_zero, bit_one, bit_one_out, bit_or_out, bit_or_l, bit_or_r, bit_minus, low_is}
use Rattle.flow.specs.declared.Flow.{Flow}
use Rattle.flow.specs.Flow.{low, any_of, after_set, arg_bit, passed_bits, sent_bit, is_never, from_blank, set_dirty, first_to, second_to, after_any, out_by, add_by, flow_of}
use Rattle.flow.specs.FlowLaws.{first_low, second_low}
use Rattle.analysis.specs.Ready.{One, FitsExit, FitsNode}

-- ---- targets

is_at : {to m : ℕ} (o : One to) → Memᴰ m (members to) → m ≡ o.at
is_at {to} {m} o d = go (subst (Memᴰ m) o.is d)
  where
    go : Memᴰ m (o.at ∷ []) → m ≡ o.at
    go (Memᴰ.head e) = e
    go (Memᴰ.tail e) = absurd (Memᴰ.not-nil e)

at_in : {to : ℕ} (o : One to) → Memᴰ o.at (members to)
at_in {to} o = subst (Memᴰ o.at) (sym o.is) (Memᴰ.head refl)

low_at : {to : ℕ} (o : One to) → low to ≡ o.at
low_at {to} o = ap (λ (x : ℕ). x % 32) (low_is 32 to o.at held.1 held.0 none_below) ∙ mod-eq_of_lt held.1
  where
    held : (bit o.at to ≡ true) × (o.at < 32)
    held = (members_is o.at to).0 (at_in o)

    none_below : (j : ℕ) → j < o.at → bit j to ≡ false
    none_below j l = cases (bit j to) (λ e. absurd (omega (arith, is_at o ((members_is j to).1 (e, omega (arith, held.1)))))) (λ e. e)

pub low_in : {to : ℕ} → One to → Memᴰ (low to) (members to)
low_in {to} o = rw (low_at o) (at_in o)

pub low_only : {to m : ℕ} → One to → Memᴰ m (members to) → m ≡ low to
low_only o d = is_at o d ∙ sym (low_at o)

none_in : {m : ℕ} {P : Type 0} → Memᴰ m (members 0) → P
none_in {m} d = absurd (false≢true (sym (bit_zero m) ∙ ((members_is m 0).0 d).0))

pub no_arc : {m : ℕ} {P : Type 0} → Memᴰ m (members 0 ++ members 0) → P
no_arc {m} {P} d = go (Memᴰ.append_cases (members 0) d)
  where
    go : Memᴰ m (members 0) ⊎ Memᴰ m (members 0) → P
    go (inl e) = none_in e
    go (inr e) = none_in e

-- the targets of an exit
to_of : (e : Exit) (n m : ℕ) → FitsExit e → Memᴰ m (members (first_arc e) ++ members (second_arc e)) → (m ≡ first_to n e) ⊎ (m ≡ second_to n e)
to_of e n m f d = go e f (Memᴰ.append_cases (members (first_arc e)) d)
  where
    go : (e : Exit) → FitsExit e → Memᴰ m (members (first_arc e)) ⊎ Memᴰ m (members (second_arc e)) → (m ≡ first_to n e) ⊎ (m ≡ second_to n e)
    go ends f (inl h) = none_in h
    go ends f (inr h) = none_in h
    go (by k) f (inl h) = inl (low_only f h)
    go (by k) f (inr h) = none_in h
    go (either y z) f (inl h) = inl (low_only f.0 h)
    go (either y z) f (inr h) = inr (low_only f.1 h)

pub targets : (t : Table) (vars : ℕ) (x : Node) (n i b m : ℕ) → FitsNode t vars x → Memᴰ m (arcs x) → (m ≡ (flow_of x n i b).first) ⊎ (m ≡ (flow_of x n i b).second)
unfolding flow_of
targets t vars x n i b m f d = to_of (parts x).exit n m f.exit d

-- each is an arc's, or there is none and the node stays where it is
pub first_in : (e : Exit) (n : ℕ) → FitsExit e → (Memᴰ (first_to n e) (members (first_arc e) ++ members (second_arc e))) ⊎ ((e ≡ ends) × (first_to n e ≡ n))
first_in ends n f = inr (refl, refl)
first_in (by m) n f = inl (Memᴰ.append_left (members 0) (low_in f))
first_in (either y z) n f = inl (Memᴰ.append_left (members z) (low_in f.0))

pub second_in : (e : Exit) (n : ℕ) → FitsExit e → (Memᴰ (second_to n e) (members (first_arc e) ++ members (second_arc e))) ⊎ ((e ≡ ends) × (second_to n e ≡ n))
second_in ends n f = inr (refl, refl)
second_in (by m) n f = inl (Memᴰ.append_left (members 0) (low_in f))
second_in (either y z) n f = inl (Memᴰ.append_right (members y) (low_in f.1))

-- ---- places and masks

-- the places that a node's flow goes to
pub record Places (f : Flow) : Type 0 where
  pub first_low : f.first < 32
  pub second_low : f.second < 32
  pub extra_low : f.extra < 265
  pub extra_high : 256 ≤ f.extra

pub flow_places : (x : Node) (n i b : ℕ) → n < 32 → Places (flow_of x n i b)
unfolding flow_of
flow_places x n i b h = record { first_low = first_low (parts x).exit n h; second_low = second_low (parts x).exit n h; extra_low = (extra_in (act x)).0; extra_high = (extra_in (act x)).1 }
  where
    extra_in : (a : Act) → ((add_by a i).0 < 265) × (256 ≤ (add_by a i).0)
    extra_in alone = omega arith
    extra_in (waits s) = omega arith
    extra_in (signals s) = omega arith
    extra_in (sends q v) = omega arith
    extra_in (receives q v) = omega arith
    extra_in (calls q xs) = omega arith
    extra_in returns = omega arith

small : (k : ℕ) → 2 ^ (k % 32) < 2 ^ 32
small k = pow-lt {i = k % 32} {j = 32} (omega arith)

after_small : (i v : ℕ) (d : Bool) → i < 2 ^ 32 → after_set i d (2 ^ (v % 32)) < 2 ^ 32
after_small i v true h = or_lt 32 i _ h (small v)
after_small i v false h = xor_lt 32 i _ h (and_lt 32 i _ h (small v))

pick_small : (b : Bool) (k : ℕ) → pick b (2 ^ (k % 32)) 0 < 2 ^ 32
pick_small true k = small k
pick_small false k = pow_pos 32

arg_small : (i len k a : ℕ) → arg_bit i len k a < 2 ^ 32
unfolding arg_bit
arg_small i len k a = pick_small (ltb k len && bit (a % 32) i) k

passed_small : (i : ℕ) (xs : Args) → passed_bits i xs < 2 ^ 32
unfolding passed_bits
passed_small i xs = or_lt 32 _ _ (or_lt 32 _ _ (arg_small i xs.len 0 xs.a0) (arg_small i xs.len 1 xs.a1)) (or_lt 32 _ _ (arg_small i xs.len 2 xs.a2) (arg_small i xs.len 3 xs.a3))

sent_small : (i q v : ℕ) → sent_bit i q v < 2 ^ 32
unfolding sent_bit
sent_small i q v = pick_small (bit (v % 32) i) q

pub record Small (f : Flow) : Type 0 where
  pub out_small : f.out < 2 ^ 32
  pub add_small : f.add < 2 ^ 32

pub flow_small : (x : Node) (n i b : ℕ) → i < 2 ^ 32 → Small (flow_of x n i b)
unfolding flow_of
flow_small x n i b h = record { out_small = out_by_lem (parts x).exit (variable_set x); add_small = add_by_lem (act x) }
  where
    after_any_lem : (s : Option ℕ) → after_any s i (set_dirty x i b) < 2 ^ 32
    after_any_lem none = h
    after_any_lem (some v) = after_small i v (set_dirty x i b) h

    out_by_lem : (e : Exit) (s : Option ℕ) → out_by e i (after_any s i (set_dirty x i b)) < 2 ^ 32
    out_by_lem ends s = h
    out_by_lem (by m) s = after_any_lem s
    out_by_lem (either y z) s = after_any_lem s

    add_by_lem : (a : Act) → (add_by a i).1 < 2 ^ 32
    add_by_lem alone = pow_pos 32
    add_by_lem (waits s) = pow_pos 32
    add_by_lem (signals s) = pow_pos 32
    add_by_lem (sends q v) = sent_small i q v
    add_by_lem (receives q v) = pow_pos 32
    add_by_lem (calls q xs) = passed_small i xs
    add_by_lem returns = pow_pos 32

-- ---- after a setting

pub after_out : (i w v : ℕ) (d : Bool) → bit v (after_set i d (2 ^ w)) ≡ true → ((d ≡ true) × (v ≡ w)) ⊎ ((bit v i ≡ true) × (w ≢ v))
after_out i w v d h = cases (bit v (2 ^ w)) (λ e. own d e h) (λ e. other d e h)
  where
    and_l : (x y : Bool) → x && y ≡ true → (x ≡ true) × (y ≡ true)
    and_l true y e = (refl, e)
    and_l false y e = absurd (false≢true e)

    own : (d : Bool) → bit v (2 ^ w) ≡ true → bit v (after_set i d (2 ^ w)) ≡ true → ((d ≡ true) × (v ≡ w)) ⊎ ((bit v i ≡ true) × (w ≢ v))
    own true e h = inl (refl, bit_one_out v w e)
    own false e h = absurd (false≢true (and_l (bit v i) false (rw (bit_minus, e) at h)).1)

    side : bit v (2 ^ w) ≡ false → (bit v i ≡ true) ⊎ (bit v (2 ^ w) ≡ true) → bit v i ≡ true
    side e (inl x) = x
    side e (inr x) = absurd (false≢true (sym e ∙ x))

    differ : bit v (2 ^ w) ≡ false → w ≢ v
    differ e z = false≢true (sym e ∙ (rw z (bit_one v)))

    other : (d : Bool) → bit v (2 ^ w) ≡ false → bit v (after_set i d (2 ^ w)) ≡ true → ((d ≡ true) × (v ≡ w)) ⊎ ((bit v i ≡ true) × (w ≢ v))
    other true e h = inr (side e (bit_or_out v i (2 ^ w) h), differ e)
    other false e h = inr ((and_l (bit v i) true (rw (bit_minus, e) at h)).0, differ e)

pub after_own : (i w : ℕ) (d : Bool) → d ≡ true → bit w (after_set i d (2 ^ w)) ≡ true
after_own i w true e = bit_or_r w i (2 ^ w) (bit_one w)
after_own i w false e = absurd (false≢true e)

pub after_other : (i w v : ℕ) (d : Bool) → bit v i ≡ true → w ≢ v → bit v (after_set i d (2 ^ w)) ≡ true
after_other i w v true h e = bit_or_l v i (2 ^ w) h
after_other i w v false h e = rw (bit_minus, h, clear)
  where
    clear : bit v (2 ^ w) ≡ false
    clear = cases (bit v (2 ^ w)) (λ z. absurd (e (sym (bit_one_out v w z)))) (λ z. z)

-- ---- whether what a node sets is dirty

pub var_mod : {v vars : ℕ} → vars ≤ 16 → v < vars → v % 32 ≡ v
var_mod l h = mod-eq_of_lt (omega arith)

-- one of some uses is dirty: which
pub any_out : (i : ℕ) (us : List ℕ) → any_of us i ≡ true → (u : ℕ) × Memᴰ u us × (bit (u % 32) i ≡ true)
any_out i [] h = absurd (false≢true h)
any_out i (u ∷ us) h = cases (bit (u % 32) i)
    (λ e. (u, Memᴰ.head refl, e))
    (λ e. let r = any_out i us (rw e at h) in (r.0, Memᴰ.tail r.1, r.2))

or_true : (a : Bool) → a || true ≡ true
or_true true = refl
or_true false = refl

-- and back
pub any_in : (i u : ℕ) (us : List ℕ) → Memᴰ u us → bit (u % 32) i ≡ true → any_of us i ≡ true
any_in i u us (Memᴰ.head e) h = rw (← e, h)
any_in i u us (Memᴰ.tail {xs = r} m) h = rw (any_in i u r m h, or_true)

-- what makes a setting dirty: the three rules
pub data ByRule (x : Node) (i b : ℕ) : Type 0 where
  by_never : keeping x ≡ never → ByRule x i b
  by_use : (u : ℕ) → Memᴰ u (uses x) → bit (u % 32) i ≡ true → ByRule x i b
  by_blank : (q v : ℕ) → act x ≡ receives q v → bit (q % 32) b ≡ true → ByRule x i b

pub rule_of : (x : Node) (i b : ℕ) → set_dirty x i b ≡ true → ByRule x i b
rule_of x i b h = by_keeping (keeping x) refl h
  where
    by_act : (a : Act) → act x ≡ a → from_blank a b ≡ true → ByRule x i b
    by_act alone e h = absurd (false≢true h)
    by_act (waits s) e h = absurd (false≢true h)
    by_act (signals s) e h = absurd (false≢true h)
    by_act (sends q v) e h = absurd (false≢true h)
    by_act (receives q v) e h = by_blank q v e h
    by_act (calls q xs) e h = absurd (false≢true h)
    by_act returns e h = absurd (false≢true h)

    by_uses : any_of (uses x) i || from_blank (act x) b ≡ true → ByRule x i b
    by_uses h = cases (any_of (uses x) i)
        (λ e. let r = any_out i (uses x) e in by_use r.0 r.1 r.2)
        (λ e. by_act (act x) refl (rw e at h))

    by_keeping : (k : Keeping) → keeping x ≡ k → is_never k || (any_of (uses x) i || from_blank (act x) b) ≡ true → ByRule x i b
    by_keeping always e h = by_uses h
    by_keeping if_clean e h = by_uses h
    by_keeping never e h = by_never e
    by_keeping absent e h = by_uses h

pub of_rule : (x : Node) (i b : ℕ) → ByRule x i b → set_dirty x i b ≡ true
of_rule x i b (by_never e) = rw e
of_rule x i b (by_use u m h) = rw (any_in i u (uses x) m h, or_true)
of_rule x i b (by_blank q v e h) = rw (e, h, or_true, or_true)

-- ---- the rules that go along the arcs

module _ (t : Table) (vars n i b : ℕ) (few : vars ≤ 16) (x : Node) (f : FitsNode t vars x) where
  -- out of a node with an arc goes what is dirty after it
  out_is : {m : ℕ} → Memᴰ m (arcs x) → (flow_of x n i b).out ≡ after_any (variable_set x) i (set_dirty x i b)
  unfolding flow_of
  out_is {m} a = go (parts x).exit refl
    where
      go : (e : Exit) → (parts x).exit ≡ e → out_by e i (after_any (variable_set x) i (set_dirty x i b)) ≡ after_any (variable_set x) i (set_dirty x i b)
      go ends e = no_arc (subst (λ (z : Exit). Memᴰ m (members (first_arc z) ++ members (second_arc z))) e a)
      go (by k) e = refl
      go (either y z) e = refl

  -- a dirty setting goes out of the node
  pub out_after : (v : ℕ) {m : ℕ} → Memᴰ m (arcs x) → variable_set x ≡ some v → set_dirty x i b ≡ true → bit v (flow_of x n i b).out ≡ true
  out_after v a h d = rw (out_is a, h, var_mod few (f.sets v h)) (after_own i v (set_dirty x i b) d)

  -- what the node does not set goes through it
  pub out_along : (v : ℕ) {m : ℕ} → Memᴰ m (arcs x) → variable_set x ≢ some v → bit v i ≡ true → bit v (flow_of x n i b).out ≡ true
  out_along v a h d = rw (out_is a) (go (variable_set x) refl)
    where
      go : (s : Option ℕ) → variable_set x ≡ s → bit v (after_any s i (set_dirty x i b)) ≡ true
      go none e = d
      go (some w) e = rw (var_mod few (f.sets w e)) (after_other i w v (set_dirty x i b) d (λ z. h (e ∙ ap some z)))

-- ---- arguments

arg_of : (i len k a : ℕ) → k < len → k < 32 → bit (a % 32) i ≡ true → bit k (arg_bit i len k a) ≡ true
unfolding arg_bit
arg_of i len k a l s h = rw (lt-ltb k len l, h, mod-eq_of_lt s) (bit_one k)

arg_out : (i len k a j : ℕ) → k < 32 → bit j (arg_bit i len k a) ≡ true → (j ≡ k) × (k < len) × (bit (a % 32) i ≡ true)
unfolding arg_bit
arg_out i len k a j s h = go (ltb k len) (bit (a % 32) i) refl refl h
  where
    go : (x y : Bool) → ltb k len ≡ x → bit (a % 32) i ≡ y → bit j (pick (x && y) (2 ^ (k % 32)) 0) ≡ true → (j ≡ k) × (k < len) × (bit (a % 32) i ≡ true)
    go true true e f h = (bit_one_out j (k % 32) h ∙ mod-eq_of_lt s, ltb-true k len e, f)
    go true false e f h = absurd (false≢true (sym (bit_zero j) ∙ h))
    go false y e f h = absurd (false≢true (sym (bit_zero j) ∙ h))

pub passed_of : (i k : ℕ) (xs : Args) → k < xs.len → k < 4 → bit (arg_at xs k % 32) i ≡ true → bit k (passed_bits i xs) ≡ true
unfolding passed_bits
passed_of i zero xs l f h = bit_or_l 0 _ _ (bit_or_l 0 _ _ (arg_of i xs.len 0 xs.a0 l (omega arith) h))
passed_of i (suc zero) xs l f h = bit_or_l 1 _ _ (bit_or_r 1 (arg_bit i xs.len 0 xs.a0) _ (arg_of i xs.len 1 xs.a1 l (omega arith) h))
passed_of i (suc (suc zero)) xs l f h = bit_or_r 2 (bit_or (arg_bit i xs.len 0 xs.a0) (arg_bit i xs.len 1 xs.a1)) _ (bit_or_l 2 _ _ (arg_of i xs.len 2 xs.a2 l (omega arith) h))
passed_of i (suc (suc (suc zero))) xs l f h = bit_or_r 3 (bit_or (arg_bit i xs.len 0 xs.a0) (arg_bit i xs.len 1 xs.a1)) _ (bit_or_r 3 (arg_bit i xs.len 2 xs.a2) _ (arg_of i xs.len 3 xs.a3 l (omega arith) h))
passed_of i (suc (suc (suc (suc k)))) xs l f h = absurd (omega arith)

pub passed_out : (i k : ℕ) (xs : Args) → bit k (passed_bits i xs) ≡ true → (k < xs.len) × (k < 4) × (bit (arg_at xs k % 32) i ≡ true)
unfolding passed_bits
passed_out i k xs h = half (bit_or_out k _ _ h)
  where
    argument : (j a : ℕ) → j < 4 → arg_at xs j ≡ a → bit k (arg_bit i xs.len j a) ≡ true → (k < xs.len) × (k < 4) × (bit (arg_at xs k % 32) i ≡ true)
    argument j a s e q = let r = arg_out i xs.len j a k (omega arith) q in (rw r.0 r.1, rw r.0 s, rw (r.0, e) r.2)

    low2 : (bit k (arg_bit i xs.len 0 xs.a0) ≡ true) ⊎ (bit k (arg_bit i xs.len 1 xs.a1) ≡ true) → (k < xs.len) × (k < 4) × (bit (arg_at xs k % 32) i ≡ true)
    low2 (inl q) = argument 0 xs.a0 (omega arith) refl q
    low2 (inr q) = argument 1 xs.a1 (omega arith) refl q

    high2 : (bit k (arg_bit i xs.len 2 xs.a2) ≡ true) ⊎ (bit k (arg_bit i xs.len 3 xs.a3) ≡ true) → (k < xs.len) × (k < 4) × (bit (arg_at xs k % 32) i ≡ true)
    high2 (inl q) = argument 2 xs.a2 (omega arith) refl q
    high2 (inr q) = argument 3 xs.a3 (omega arith) refl q

    half : (bit k (bit_or (arg_bit i xs.len 0 xs.a0) (arg_bit i xs.len 1 xs.a1)) ≡ true) ⊎ (bit k (bit_or (arg_bit i xs.len 2 xs.a2) (arg_bit i xs.len 3 xs.a3)) ≡ true) → (k < xs.len) × (k < 4) × (bit (arg_at xs k % 32) i ≡ true)
    half (inl q) = low2 (bit_or_out k _ _ q)
    half (inr q) = high2 (bit_or_out k _ _ q)

-- the argument for a parameter, in the list of arguments
pub arg_in : (xs : Args) (i : ℕ) → i < xs.len → i < 4 → get_elem? (arg_list xs) i ≡ some (arg_at xs i)
arg_in xs i l f = go i xs.len l f
  where
    go : (i n : ℕ) → i < n → i < 4 → get_elem? (take n (xs.a0 ∷ xs.a1 ∷ xs.a2 ∷ xs.a3 ∷ [])) i ≡ some (get_or (xs.a0 ∷ xs.a1 ∷ xs.a2 ∷ xs.a3 ∷ []) i 0)
    go i zero l f = absurd (omega arith)
    go zero (suc n) l f = refl
    go (suc zero) (suc zero) l f = absurd (omega arith)
    go (suc zero) (suc (suc n)) l f = refl
    go (suc (suc zero)) (suc zero) l f = absurd (omega arith)
    go (suc (suc zero)) (suc (suc zero)) l f = absurd (omega arith)
    go (suc (suc zero)) (suc (suc (suc n))) l f = refl
    go (suc (suc (suc zero))) (suc zero) l f = absurd (omega arith)
    go (suc (suc (suc zero))) (suc (suc zero)) l f = absurd (omega arith)
    go (suc (suc (suc zero))) (suc (suc (suc zero))) l f = absurd (omega arith)
    go (suc (suc (suc zero))) (suc (suc (suc (suc n)))) l f = refl
    go (suc (suc (suc (suc i)))) (suc n) l f = absurd (omega arith)

pub arg_at_lem : (xs : Args) (i u : ℕ) → get_elem? (arg_list xs) i ≡ some u → (i < xs.len) × (u ≡ arg_at xs i)
arg_at_lem xs i u e = go i xs.len (arg_places xs) e
  where
    go : (i n : ℕ) (l : List ℕ) → get_elem? (take n l) i ≡ some u → (i < n) × (u ≡ get_or l i 0)
    go i zero l e = let z : ◌≡◌ {A = ℕ} 0 1 = cc in absurd (omega arith)
    go i (suc n) [] e = let z : ◌≡◌ {A = ℕ} 0 1 = cc in absurd (omega arith)
    go zero (suc n) (x ∷ l) e = (omega arith, cc)
    go (suc i) (suc n) (x ∷ l) e = let r = go i n l e in (omega (arith, r.0), r.1)

-- ---- sends

pub sent_of : (i q v : ℕ) → bit (v % 32) i ≡ true → bit (q % 32) (sent_bit i q v) ≡ true
unfolding sent_bit
sent_of i q v h = rw h (bit_one (q % 32))

pub sent_out : (i q v k : ℕ) → bit k (sent_bit i q v) ≡ true → (k ≡ q % 32) × (bit (v % 32) i ≡ true)
unfolding sent_bit
sent_out i q v k h = go (bit (v % 32) i) refl h
  where
    go : (y : Bool) → bit (v % 32) i ≡ y → bit k (pick y (2 ^ (q % 32)) 0) ≡ true → (k ≡ q % 32) × (bit (v % 32) i ≡ true)
    go true f h = (bit_one_out k (q % 32) h, f)
    go false f h = absurd (false≢true (sym (bit_zero k) ∙ h))
