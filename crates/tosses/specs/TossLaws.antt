-- An arc taken, read as a choice of document 01's step.
use Rattle.std.specs.Prelude.{◌≡◌, ℕ, zero, suc, ◌+◌, ◌<◌, ◌≤◌, Bool, true, false, List, [], ◌∷◌, length, drop, ℤ, pos, negsuc, slice_get, Option, Some, None, Result, Ok, Err}
use Rattle.std.proofs.Common.{refl, sym, ap, ◌∙◌, arith}
use Rattle.std.proofs.Math.ListN.{get_elem?}
use Rattle.std.proofs.lemmas.Option.{none-some, slice_get_within}
use Rattle.std.specs.Option.{unwrap_or}
use mathlib.Core.List.Memᴰ
use Rattle.table.specs.Mask.{pick, bit, also, members_from, members}
use Rattle.table.specs.MaskLaws.{members_is}
use Rattle.machine.specs.Step.{Choice, nowhere, node, bad, tossed as tossed_to, toss, choose_from, choose}
use Rattle.tosses.specs.declared.Stop.{Stop}
use Rattle.tosses.specs.declared.Target.{Target}
use Rattle.tosses.specs.declared.Target.TheVariants.{Nowhere, Kept, Dropped}
use Rattle.tosses.specs.Stops.{meant}
use Rattle.tosses.specs.Tosses.{meeting, target_at, chosen, tossed, arrived_among, arrived_of}

abbrev pub leads : List ℤ → Target → Choice
leads ws Nowhere = nowhere ws
leads ws (Kept n) = node n ws
leads ws (Dropped n) = node n ws

abbrev pub choice_of : List ℤ → Result (Target × ℕ) Stop → Choice
choice_of vs (Ok p) = leads (drop p.1 vs) p.0
choice_of vs (Err c) = bad (meant c)

-- the node has a place, and is kept as it is said to be
abbrev pub Placed : ℕ → Target → Type 0
Placed keep Nowhere = Unit {0}
Placed keep (Kept n) = (n < 32) × (bit n keep ≡ true)
Placed keep (Dropped n) = (n < 32) × (bit n keep ≡ false)

-- what holds of every answer
abbrev pub Sound : ℕ → List ℤ → Result (Target × ℕ) Stop → Type 0
Sound keep vs (Ok p) = Placed keep p.0 × (p.1 ≤ length vs)
Sound keep vs (Err c) = Unit {0}

pub record Arrived (arc keep : ℕ) (vs : List ℤ) (used : ℕ) (r : Result (Target × ℕ) Stop) : Type 0 where
  pub choice : choose arc (drop used vs) ≡ choice_of vs r
  pub sound : Sound keep vs r

-- ---- the i-th target

abbrev Below : Option ℕ → Type 0
Below None = Unit {0}
Below (Some j) = j < 32

get_below : (n k m i : ℕ) → k + n ≤ 32 → Below (slice_get (members_from n k m) i)
unfolding members_from
get_below zero k m i h = tt
get_below (suc n) k m i h = go (bit k m) i (λ i. get_below n (suc k) m i (omega arith))
  where
    go : (b : Bool) (i : ℕ) → ((i : ℕ) → Below (slice_get (members_from n (suc k) m) i)) → Below (slice_get (also b k (members_from n (suc k) m)) i)
    go true zero f = omega arith
    go true (suc i) f = f i
    go false i f = f i

pub nth_lt : (m i j : ℕ) → slice_get (members m) i ≡ Some j → j < 32
nth_lt m i j e = rw e at (get_below 32 0 m i (omega arith))

met_is : (ws : List ℤ) (keep j : ℕ) (b : Bool) → bit j keep ≡ b → leads ws (pick b (Kept j) (Dropped j)) ≡ node j ws
met_is ws keep j true e = refl
met_is ws keep j false e = refl

met_placed : (keep j : ℕ) → j < 32 → (b : Bool) → bit j keep ≡ b → Placed keep (pick b (Kept j) (Dropped j))
met_placed keep j h true e = (h, e)
met_placed keep j h false e = (h, e)

chosen_is : (ms : List ℕ) (i keep used : ℕ) (vs : List ℤ) → tossed_to (get_elem? ms i) (drop used vs) ≡ choice_of vs (chosen keep used (slice_get ms i))
chosen_is [] i keep used vs = refl
chosen_is (x ∷ l) zero keep used vs = sym (met_is (drop used vs) keep x (bit x keep) refl)
chosen_is (x ∷ l) (suc i) keep used vs = chosen_is l i keep used vs

-- ---- the next value

spent : (vs : List ℤ) (used : ℕ) → slice_get vs used ≡ None → drop used vs ≡ []
spent [] zero e = refl
spent [] (suc n) e = refl
spent (x ∷ l) zero e = absurd (none-some x (sym e))
spent (x ∷ l) (suc n) e = spent l n e

next : (vs : List ℤ) (used : ℕ) (x : ℤ) → slice_get vs used ≡ Some x → drop used vs ≡ x ∷ drop (suc used) vs
next [] n x e = absurd (none-some x e)
next (y ∷ l) zero x e = ap (λ (o : Option ℤ). unwrap_or o y ∷ l) e
next (y ∷ l) (suc n) x e = next l n x e

-- ---- an arc taken is what `choose` says

module _ (arc keep : ℕ) (vs : List ℤ) (used : ℕ) (w : used ≤ length vs) where
  sound_met : (j u : ℕ) → j < 32 → u ≤ length vs → Sound keep vs (Ok (meeting keep j, u))
  sound_met j u h k = (met_placed keep j h (bit j keep) refl, k)

  -- a toss among targets, which are the arc's
  module _ (a b : ℕ) (l : List ℕ) (e : members arc ≡ a ∷ b ∷ l) where
    abbrev targets : List ℕ
    targets = a ∷ b ∷ l

    toss_is : (x : ℤ) (u : ℕ) → toss targets x (drop u vs) ≡ choice_of vs (chosen keep u (target_at targets x))
    toss_is (pos i) u = chosen_is targets i keep u vs
    toss_is (negsuc i) u = refl

    target_lt : (x : ℤ) (j : ℕ) → target_at targets x ≡ Some j → j < 32
    target_lt (pos i) j g = nth_lt arc i j (rw e g)
    target_lt (negsuc i) j g = absurd (none-some j g)

    sound_toss : (x : ℤ) (u : ℕ) → u ≤ length vs → (o : Option ℕ) → target_at targets x ≡ o → Sound keep vs (chosen keep u o)
    sound_toss x u h None g = tt
    sound_toss x u h (Some j) g = sound_met j u (target_lt x j g) h

    by_value : (o : Option ℤ) → slice_get vs used ≡ o → Arrived arc keep vs used (tossed targets keep used o)
    unfolding choose
    by_value None g = record { choice = rw (e, spent vs used g) refl; sound = tt }
    by_value (Some x) g =
        let u : suc used ≡ used + 1 = omega arith in
        record {
          choice = rw (e, next vs used x g, u) (toss_is x (used + 1));
          sound = sound_toss x (used + 1) (omega (arith, slice_get_within vs used x g)) (target_at targets x) refl;
        }

  among : (ms : List ℕ) → members arc ≡ ms → Arrived arc keep vs used (arrived_among ms keep vs used)
  unfolding choose
  among [] e = record { choice = ap (λ (ms : List ℕ). choose_from ms (drop used vs)) e; sound = (tt, w) }
  among (j ∷ []) e = record {
    choice = ap (λ (ms : List ℕ). choose_from ms (drop used vs)) e ∙ sym (met_is (drop used vs) keep j (bit j keep) refl);
    sound = sound_met j used ((members_is j arc).0 (rw e (Memᴰ.head refl))).1 w;
  }
  among (a ∷ b ∷ l) e = by_value a b l e (slice_get vs used) refl

  pub arrived : {r : Result (Target × ℕ) Stop} → r ≡ arrived_of arc keep vs used → Arrived arc keep vs used r
  arrived e = rw e (among (members arc) refl)
