-- Tests on masks that say what the late faults ask of arguments, parameters and targets.
use Rattle.std.specs.Prelude.{ℕ, zero, suc, ◌+◌, ◌-◌, ◌%◌, ◌^◌, ◌≤◌, ◌<◌, ◌≡◌, refl, Bool, true, false, not, ◌&&◌, eqb}
use Rattle.std.proofs.Common.{sym, ◌∙◌, ap, arith, add-zero, mod-eq_of_lt, lt_of_lt_of_le, lt_of_le_of_lt, pow_pos, pow_mono, eqb-true, eq-eqb, ne_eqb, lt-ltb, le-ltb}
use Rattle.std.specs.Int.Bits.{bit_and}
use Rattle.std.proofs.lemmas.Nat.{and_le_l}
use Rattle.std.proofs.lemmas.Bool.{eqb-false}
use Rattle.table.specs.Cases.{cases}
use Rattle.table.specs.Mask.{pick, bit, also, members_from, members, mask_of}
use Rattle.table.specs.MaskLaws.{bit_above, bit_mask_of, mask_of_lt, members_is, bit_ext}
use Rattle.table.specs.Table.{arg_at, node_in, is_absent}
use Rattle.table.specs.declared.Args.{Args}
use Rattle.table.specs.declared.Proc.{Proc}
use Rattle.text.specs.Number.{every}
use Rattle.text.proofs.NumberLaws.{by_order, every_all, all_every}
use Rattle.text.proofs.ValueLaws.{no}
use Rattle.text.proofs.MaskLists.{mask_bits, mask_same}
use Rattle.text.specs.Reader.{all_below, all_present, is_removed, iff}
use Rattle.text.proofs.ValidLaws.{below_all}
use Rattle.masks.specs.Bits.{bit_and_lem, bit_and_out}
use Rattle.targets.specs.MaskTests.{same_truth}
use Rattle.checks.specs.ArgumentChecks.{removed_at}
use Rattle.late_nodes.specs.Terms.{present_in, all_in}

-- ---- two sets are the same

equal : (a b x y : ℕ) → (a ≡ b → x ≡ y) → (x ≡ y → a ≡ b) → eqb a b ≡ eqb x y
equal a b x y p q = cases (eqb a b) (λ e. e ∙ sym (eq-eqb x y (p (eqb-true a b e)))) (λ e. e ∙ sym (ne_eqb x y (λ z. eqb-false a b e (q z))))

added : (p a b : ℕ) (x y : Bool) → a < p → b < p → iff x y && eqb a b ≡ eqb (a + pick x p 0) (b + pick y p 0)
added p a b true true l u = equal a b (a + p) (b + p) (λ e. omega arith) (λ e. omega arith)
added p a b true false l u = sym (ne_eqb (a + p) (b + 0) (λ e. omega arith))
added p a b false true l u = sym (ne_eqb (a + 0) (b + p) (λ e. omega arith))
added p a b false false l u = equal a b (a + 0) (b + 0) (λ e. omega arith) (λ e. omega arith)

agrees : (n : ℕ) (f g : ℕ → Bool) → all_below n (λ i. iff (f i) (g i)) ≡ eqb (mask_of n f) (mask_of n g)
unfolding all_below mask_of
agrees zero f g = refl
agrees (suc n) f g = rw (agrees n f g) (added (2 ^ n) (mask_of n f) (mask_of n g) (f n) (g n) (mask_of_lt n f) (mask_of_lt n g))

-- the bits of d below n are what passes f
pub agrees_low : (n d : ℕ) (f : ℕ → Bool) → all_below n (λ i. iff (f i) (bit i d)) ≡ eqb (mask_of n f) (d % 2 ^ n)
agrees_low n d f = agrees n f (λ i. bit i d) ∙ ap (λ (x : ℕ). eqb (mask_of n f) x) (mask_bits n d)

-- ---- a call's removed arguments

mask_cut : (n k : ℕ) (f : ℕ → Bool) → ((i : ℕ) → n ≤ i → f i ≡ false) → mask_of (k + n) f ≡ mask_of n f
unfolding mask_of
mask_cut n zero f h = let e : 0 + n ≡ n = omega arith in ap (λ (x : ℕ). mask_of x f) e
mask_cut n (suc k) f h =
    let e : suc k + n ≡ suc (k + n) = omega arith in
    rw (e, h (k + n) (omega arith), add-zero) (mask_cut n k f h)

removed_far : (xs : Args) (i : ℕ) → 4 ≤ i → is_removed (arg_at xs i) ≡ false
removed_far xs zero l = absurd (omega arith)
removed_far xs (suc zero) l = absurd (omega arith)
removed_far xs (suc (suc zero)) l = absurd (omega arith)
removed_far xs (suc (suc (suc zero))) l = absurd (omega arith)
removed_far xs (suc (suc (suc (suc i)))) l = refl

pub removed_mask : (xs : Args) → mask_of 4 (λ i. removed_at xs.len i (arg_at xs i)) ≡ mask_of xs.len (λ i. is_removed (arg_at xs i))
removed_mask xs =
    let n = xs.len in
    let f : ℕ → Bool = λ i. is_removed (arg_at xs i) in
    let g : ℕ → Bool = λ i. removed_at n i (arg_at xs i) in
    let used : (i : ℕ) → i < n → g i ≡ f i = λ i l. rw (lt-ltb i n l) in
    by_order 4 n
    (λ l.
    let e : (n - 4) + 4 ≡ n = omega arith in
    mask_same 4 g f (λ i u. used i (omega arith)) ∙ sym (mask_cut 4 (n - 4) f (removed_far xs)) ∙ ap (λ (k : ℕ). mask_of k f) e)
    (λ l.
    let e : (4 - n) + n ≡ 4 = omega arith in
    ap (λ (k : ℕ). mask_of k g) (sym e) ∙ mask_cut n (4 - n) g (λ i u. rw (le-ltb i n u)) ∙ mask_same n g f used)

pub removed_right : (xs : Args) (d : ℕ) {m k : ℕ} → m ≡ mask_of 4 (λ i. removed_at xs.len i (arg_at xs i)) → k ≡ d % 2 ^ xs.len
    → all_below xs.len (λ i. iff (is_removed (arg_at xs i)) (bit i d)) ≡ eqb m k
removed_right xs d p q = agrees_low xs.len d (λ i. is_removed (arg_at xs i)) ∙ rw (p, q, removed_mask xs)

-- ---- dropped parameters

mask_all : (n : ℕ) → mask_of n (λ i. true) ≡ 2 ^ n - 1
unfolding mask_of
mask_all zero = refl
mask_all (suc n) = rw (mask_all n) (omega (arith, pow_pos n))

pub all_dropped : (n d : ℕ) {k : ℕ} → k ≡ d % 2 ^ n → all_below n (λ j. bit j d) ≡ eqb k (2 ^ n - 1)
all_dropped n d {k} e = agrees_low n d (λ i. true) ∙ rw (mask_all n, ← e) (turn (2 ^ n - 1) k)
  where
    turn : (a b : ℕ) → eqb a b ≡ eqb b a
    turn a b = cases (eqb a b) (λ e. e ∙ sym (eq-eqb b a (sym (eqb-true a b e)))) (λ e. e ∙ sym (ne_eqb b a (λ z. eqb-false a b e (sym z))))

pub none_dropped : (n d : ℕ) → d < 256 → 8 < n → false ≡ all_below n (λ j. bit j d)
none_dropped n d l u = cases (all_below n (λ j. bit j d))
    (λ e. let a = below_all n (λ j. bit j d) e 8 u in let b = bit_above 8 d l in no (cc))
    (λ e. sym e)

pub low_all : (d n : ℕ) → d < 256 → 8 ≤ n → d ≡ d % 2 ^ n
low_all d n l u = sym (mod-eq_of_lt (lt_of_lt_of_le l (pow_mono u)))

-- ---- targets

pub in_is : (m to : ℕ) → to < 4294967296 → all_in m (members to) ≡ eqb (bit_and to m) to
in_is m to l = same_truth (all_in m (members to)) (eqb (bit_and to m) to) there back
  where
    there : all_in m (members to) ≡ true → eqb (bit_and to m) to ≡ true
    there e = eq-eqb _ _ (bit_ext 32 _ _ (lt_of_le_of_lt (and_le_l to m) l) l (λ k u. bit_and_lem k to m ∙ cases (bit k to)
        (λ b. rw (b, every_all (λ i. bit i m) (members to) e k ((members_is k to).1 (b, u))))
        (λ b. rw b)))

    back : eqb (bit_and to m) to ≡ true → all_in m (members to) ≡ true
    back e = all_every (λ i. bit i m) (members to) (λ k d.
        let b = (members_is k to).0 d in
        let i : bit k (bit_and to m) ≡ true = rw (eqb-true (bit_and to m) to e) b.0 in
        (bit_and_out k to m i).1)

-- those in the set of a procedure's nodes are its nodes
pub present_in_lem : (q : Proc) (n k m : ℕ) → k + n ≤ 32 → all_in (present_in q) (members_from n k m) ≡ all_present q (members_from n k m)
unfolding members_from every
present_in_lem q zero k m l = refl
present_in_lem q (suc n) k m l = go (bit k m) (present_in_lem q n (suc k) m (omega arith))
  where
    go : (b : Bool) → all_in (present_in q) (members_from n (suc k) m) ≡ all_present q (members_from n (suc k) m)
        → all_in (present_in q) (also b k (members_from n (suc k) m)) ≡ all_present q (also b k (members_from n (suc k) m))
    go true e = rw (bit_mask_of 32 k (λ i. not (is_absent (node_in q i))) (omega arith), e)
    go false e = e
