-- Masks of what is still to be done: a step takes one number out of a mask, and adds again what has to be seen once more.
use Rattle.std.specs.Prelude.{ℕ, ◌^◌, ◌<◌, ◌≡◌, refl, Bool, true, false, ◌⊎◌, ◌≢◌, Option, Some, None, MatchOption, List, length, set, eqb}
use Rattle.std.specs.Bool.{then_some}
use Rattle.std.proofs.Common.{arith, ◌∙◌, inl, inr, length-set, get_or-set_same, get_or-set_other, eqb-true}
use Rattle.std.proofs.lemmas.Bool.{eqb-false}
use Rattle.table.specs.Mask.{bit}
use Rattle.masks.specs.Bits.{without, without_less, without_out}
use Rattle.masks.specs.Cells.{cell, sum, sum_set, Masks}
use Rattle.flow.specs.Flow.{low}
use Rattle.flow.specs.FlowLaws.{low_bit}

-- ---- a number is taken out of a mask

-- node n of procedure p is to be seen, if so
pub record Leads (p n : ℕ) (on : Bool) (w : List ℕ) : Type 0 where
  pub low : n < 32
  pub marked : on ≡ true → bit n (cell w p) ≡ true

pub leads_low : {n : ℕ} {on : Bool} (p : ℕ) (w : List ℕ) → Masks 8 32 w → cell w p ≢ 0 → n ≡ low (cell w p) → Leads p n on w
leads_low {n} p w g z e = record { low = omega arith; marked = λ y. rw e (low_bit (cell w p) (g.below p) z) }

-- the next node is to be seen, if there is one
abbrev pub LeadsTo : ℕ → Option ℕ → List ℕ → Type 0
LeadsTo p next w = (n : ℕ) → next ≡ Some n → Leads p n true w

pub leads_to : {p n : ℕ} {w : List ℕ} (on : Bool) → Leads p n on w → LeadsTo p (then_some on n) w
leads_to {p} {n} {w} true d k e = let z : n ≡ k = cc in rw (← z) d
leads_to false d k e = cc

pub leads_below : {p : ℕ} {next : Option ℕ} {w : List ℕ} → LeadsTo p next w → MatchOption next (Unit {0}) (λ n. n < 32)
leads_below {p} {next} {w} d = go next d
  where
    go : (o : Option ℕ) → LeadsTo p o w → MatchOption o (Unit {0}) (λ n. n < 32)
    go (Some n) d = (d n refl).low
    go None d = tt

-- w1 is w, with n taken out of its mask p
pub record Took (w : List ℕ) (p n : ℕ) (w1 : List ℕ) : Type 0 where
  pub low : n < 32
  pub fewer : sum w1 < sum w
  pub small : Masks 8 32 w1
  pub other : (a b : ℕ) → bit b (cell w1 a) ≡ false → (bit b (cell w a) ≡ false) ⊎ ((a ≡ p) × (b ≡ n))

pub took : {w w1 : List ℕ} (p n : ℕ) → p < 8 → Masks 8 32 w → Leads p n true w → w1 ≡ set w p (without (cell w p) n) → Took w p n w1
took {w} {w1} p n hp g z f = rw f (record {
  low = hn;
  fewer = omega (arith, sum_set w p (without (cell w p) n) hs, less);
  small = record { size = length-set w p _ ∙ g.size; below = below };
  other = other;
})
  where
    hn : n < 32
    hn = z.low

    hs : p < length w
    hs = omega (arith, g.size)

    has : bit n (cell w p) ≡ true
    has = z.marked refl

    less : without (cell w p) n < cell w p
    less = without_less (cell w p) n (g.below p) hn has

    at : (P : ℕ → Type 0) (a : ℕ) → (a ≡ p → P (without (cell w p) n)) → (a ≢ p → P (cell w a)) → P (cell (set w p (without (cell w p) n)) a)
    at P a x y = go (eqb a p) refl
      where
        go : (b : Bool) → eqb a p ≡ b → P (cell (set w p (without (cell w p) n)) a)
        go true q = let u : a ≡ p = eqb-true a p q in rw (u, get_or-set_same w p (without (cell w p) n) 0 hs) (x u)
        go false q = rw (get_or-set_other w p a (without (cell w p) n) 0 (eqb-false a p q)) (y (eqb-false a p q))

    below : (a : ℕ) → cell (set w p (without (cell w p) n)) a < 2 ^ 32
    below a = at (λ x. x < 2 ^ 32) a (λ u. omega (arith, less, g.below p)) (λ u. g.below a)

    other : (a b : ℕ) → bit b (cell (set w p (without (cell w p) n)) a) ≡ false → (bit b (cell w a) ≡ false) ⊎ ((a ≡ p) × (b ≡ n))
    other a b = at (λ x. bit b x ≡ false → (bit b (cell w a) ≡ false) ⊎ ((a ≡ p) × (b ≡ n))) a (λ u h. mine u (without_out (cell w p) n b h)) (λ u h. inl h)
      where
        mine : a ≡ p → (bit b (cell w p) ≡ false) ⊎ (b ≡ n) → (bit b (cell w a) ≡ false) ⊎ ((a ≡ p) × (b ≡ n))
        mine u (inl h) = inl (rw u h)
        mine u (inr h) = inr (u, h)
