-- The flow of a node from the values that the code computes on the way.
use Rattle.std.specs.Prelude.{ℕ, ◌%◌, ◌^◌, ◌<◌, ◌≤◌, ◌≡◌, refl, Bool, not, ◌||◌, ◌⊎◌, ◌≢◌, List, [], ◌∷◌, ◌++◌, eqb}
use Rattle.std.proofs.Common.{arith, lt_of_le_of_lt, mod-eq_of_lt, sym, ◌∙◌, ap, subst, inl, inr, pow_pos, eq-eqb, ne_eqb}
use Rattle.std.proofs.Math.Bool.{true, false}
use Rattle.std.proofs.lemmas.Bool.{false≢true}
use Rattle.std.proofs.Math.Option.{Option, none, some}
use Rattle.std.specs.Int.Bits.{bit_and, bit_or, bit_xor, and_zero_r, or_zero_l, or_zero_r, xor_zero_r}
use Rattle.std.proofs.lemmas.Nat.{and_le_r, or_lt}
use Rattle.std.proofs.Math.Pow.{pow-lt}
use Rattle.table.specs.Cases.{cases}
use Rattle.table.specs.Mask.{bit}
use Rattle.table.specs.Table.{operand_uses, Exit, ends, by, either, Act, alone, waits, signals, sends, receives, calls, returns, parts, uses, variable_set, keeping, act}
use Rattle.table.specs.declared.Operand.{Operand}
use Rattle.table.specs.declared.Operand.TheVariants.{Var, Const}
use Rattle.table.specs.declared.Node.{Node}
use Rattle.table.specs.MaskLaws.{bit_ext}
use Rattle.masks.specs.Bits.{bit_zero, bit_one, bit_one_out, bit_or_out, bit_or_l, bit_or_r, bit_and_out, bit_and_in, least}
use Rattle.flow.specs.declared.Flow.{Flow}
use Rattle.flow.specs.declared.Pass.{Pass}
use Rattle.flow.specs.Flow.{low, any_of, after_set, is_never, from_blank, first_to, second_to, after_any, out_by, add_by, flow_of, uses_of, plain_pass, mask_in, goes_on, passes, pass_by, pass_of, after_pass}

pub low_bit : (m : ℕ) → m < 2 ^ 32 → m ≢ 0 → bit (low m) m ≡ true
low_bit m h z = let i = least 32 m h z in rw (mod-eq_of_lt i.0) i.1

-- ---- uses

pub or_false : (a : Bool) → a || false ≡ a
or_false true = refl
or_false false = refl

-- ---- a node with one target

-- masks with a common element, and with none
meets : (i u k : ℕ) → bit k i ≡ true → bit k u ≡ true → eqb (bit_and i u) 0 ≡ false
meets i u k h e = ne_eqb (bit_and i u) 0 (λ z. false≢true (sym (bit_zero k) ∙ sym (ap (bit k) z) ∙ bit_and_in k i u h e))

apart : (i u : ℕ) → u < 2 ^ 32 → ((k : ℕ) → bit k i ≡ true → bit k u ≡ true → ⊥) → eqb (bit_and i u) 0 ≡ true
apart i u h f = eq-eqb (bit_and i u) 0 (bit_ext 32 (bit_and i u) 0 (lt_of_le_of_lt (and_le_r i u) h) (pow_pos 32) (λ k l. go k (bit k (bit_and i u)) refl))
  where
    go : (k : ℕ) (x : Bool) → bit k (bit_and i u) ≡ x → x ≡ bit k 0
    go k true e = let w = bit_and_out k i u e in absurd (f k w.0 w.1)
    go k false e = sym (bit_zero k)

mask_small : (us : List ℕ) → mask_in us < 2 ^ 32
mask_small [] = pow_pos 32
mask_small (u ∷ us) = or_lt 32 _ _ (pow-lt {i = u % 32} {j = 32} (omega arith)) (mask_small us)

-- one of some variables is dirty: which
used_out : (us : List ℕ) (i : ℕ) → any_of us i ≡ true → (k : ℕ) × (bit k i ≡ true) × (bit k (mask_in us) ≡ true)
used_out [] i h = absurd (false≢true h)
used_out (u ∷ us) i h = cases (bit (u % 32) i)
    (λ e. (u % 32, e, bit_or_l (u % 32) (2 ^ (u % 32)) (mask_in us) (bit_one (u % 32))))
    (λ e. let w = used_out us i (rw e at h) in (w.0, w.1, bit_or_r w.0 (2 ^ (u % 32)) (mask_in us) w.2))

-- and back
used_in : (us : List ℕ) (i k : ℕ) → bit k i ≡ true → bit k (mask_in us) ≡ true → any_of us i ≡ true
used_in [] i k h e = absurd (false≢true (sym (bit_zero k) ∙ e))
used_in (u ∷ us) i k h e = go (bit_or_out k (2 ^ (u % 32)) (mask_in us) e) (used_in us i k h)
  where
    or_true : (a : Bool) → a || true ≡ true
    or_true true = refl
    or_true false = refl

    go : (bit k (2 ^ (u % 32)) ≡ true) ⊎ (bit k (mask_in us) ≡ true) → (bit k (mask_in us) ≡ true → any_of us i ≡ true) → any_of (u ∷ us) i ≡ true
    go (inl z) f = rw (subst (λ (j : ℕ). bit j i ≡ true) (bit_one_out k (u % 32) z) h)
    go (inr z) f = rw (f z, or_true)

used : (us : List ℕ) (i : ℕ) → any_of us i ≡ not (eqb (bit_and i (mask_in us)) 0)
used us i = cases (any_of us i)
    (λ e. let w = used_out us i e in rw (e, meets i (mask_in us) w.0 w.1 w.2))
    (λ e. rw (e, apart i (mask_in us) (mask_small us) (λ k h z. false≢true (sym e ∙ used_in us i k h z))))

pub mask_both : (x y : Operand) → bit_or (uses_of x) (uses_of y) ≡ mask_in (operand_uses x ++ operand_uses y)
mask_both (Var v) (Var w) = rw or_zero_r
mask_both (Var v) (Const c) = refl
mask_both (Const c) (Var w) = rw (or_zero_l, or_zero_r)
mask_both (Const c) (Const d) = rw or_zero_l

plain_after : (k i : ℕ) → after_pass (plain_pass k) i ≡ i
plain_after k i = ap (λ (x : ℕ). after_set i (not (eqb x 0)) 0) (and_zero_r i) ∙ ap (bit_xor i) (and_zero_r i) ∙ xor_zero_r i

-- the flow of a node that goes on to k, and does no more
abbrev pub pass_flow : Pass → ℕ → Flow
pass_flow s i = record { first = s.to; second = s.to; out = after_pass s i; extra = 264; add = 0 }

module _ (i b : ℕ) where
  -- a node that only goes on adds nothing elsewhere, and receives nothing
  on_adds : (a : Act) → goes_on a ≡ true → (add_by a i ≡ (264, 0)) × (from_blank a b ≡ false)
  on_adds alone e = (refl, refl)
  on_adds (waits s) e = (refl, refl)
  on_adds (signals s) e = (refl, refl)
  on_adds (sends q v) e = absurd (false≢true e)
  on_adds (receives q v) e = absurd (false≢true e)
  on_adds (calls q xs) e = absurd (false≢true e)
  on_adds returns e = (refl, refl)

  pass_by_lem : (e : Exit) (n : ℕ) (s : Option ℕ) (us : List ℕ) → (pass_by e n s us).to < 32 → record { first = first_to n e; second = second_to n e; out = out_by e i (after_any s i (any_of us i)); extra = 264; add = 0 } ≡ pass_flow (pass_by e n s us) i
  pass_by_lem ends n s us h = rw (plain_after n i)
  pass_by_lem (by m) n none us h = rw (plain_after (low m) i)
  pass_by_lem (by m) n (some v) us h = rw (used us i)
  pass_by_lem (either y z) n s us h = absurd (omega arith)

  pass_when : (x : Node) (n : ℕ) (y z : Bool) → goes_on (act x) ≡ y → is_never (keeping x) ≡ z → (pass_of x n).to < 32 → flow_of x n i b ≡ pass_flow (pass_of x n) i
  unfolding pass_of flow_of
  pass_when x n true false e k h = let w = on_adds (act x) e in rw (e, k, w.0, w.1, or_false) (pass_by_lem (parts x).exit n (variable_set x) (uses x) (rw (e, k) at h))
  pass_when x n true true e k h = absurd (omega (arith, rw (e, k) at h))
  pass_when x n false z e k h = absurd (omega (arith, rw e at h))

pub pass_flow_lem : (x : Node) (n i b : ℕ) → (pass_of x n).to < 32 → flow_of x n i b ≡ pass_flow (pass_of x n) i
pass_flow_lem x n i b h = pass_when i b x n (goes_on (act x)) (is_never (keeping x)) refl refl h

-- a node without an arc, at a place below 32, or a target
pub first_low : (e : Exit) (n : ℕ) → n < 32 → first_to n e < 32
first_low ends n h = h
first_low (by m) n h = omega arith
first_low (either y z) n h = omega arith

pub second_low : (e : Exit) (n : ℕ) → n < 32 → second_to n e < 32
second_low ends n h = h
second_low (by m) n h = omega arith
second_low (either y z) n h = omega arith

-- a target, or 32
pub pass_low : (x : Node) (n : ℕ) → n ≤ 32 → (pass_of x n).to ≤ 32
unfolding pass_of
pass_low x n h = cases (passes x) (λ e. rw e (by_exit (parts x).exit (variable_set x))) (λ e. rw e (omega arith))
  where
    by_exit : (e : Exit) (s : Option ℕ) → (pass_by e n s (uses x)).to ≤ 32
    by_exit ends s = h
    by_exit (by m) none = omega arith
    by_exit (by m) (some v) = omega arith
    by_exit (either y z) s = omega arith
