-- A list of masks that only grows.
use Rattle.std.specs.Prelude.{ℕ, zero, suc, ◌+◌, ◌*◌, ◌<◌, ◌≤◌, ◌^◌, ◌≡◌, refl, Bool, true, false, not, ◌⊎◌, List, [], ◌∷◌, length, get_or, set, replicate, eqb, ltb}
use Rattle.std.proofs.Common.{arith, suc-mul, ◌∙◌, ap, subst, inl, inr, length-set, get_or-set_same, get_or-set_other, set-set, pow_pos, eqb-true, ltb-true, ltb-false}
use Rattle.std.proofs.Math.ListN.{get_or-eq_default}
use Rattle.std.proofs.Math.Seq.{set_out}
use Rattle.std.proofs.lemmas.List.{set-get_or}
use Rattle.std.specs.Int.Bits.{bit_or, or_zero_r}
use Rattle.std.proofs.lemmas.Nat.{or_lt}
use Rattle.std.proofs.lemmas.Bool.{eqb-false, not-true, not-false}
use Rattle.table.specs.Mask.{bit}
use Rattle.masks.specs.Bits.{le_or, bit_or_out, bit_or_l, bit_or_r, or_twice}

abbrev pub cell : List ℕ → ℕ → ℕ
cell l a = get_or l a 0

unfoldable pub sum : List ℕ → ℕ
sum [] = 0
sum (x ∷ l) = x + sum l

-- the cell a with the mask m added
unfoldable pub grown : List ℕ → ℕ → ℕ → List ℕ
grown l a m = set l a (bit_or (cell l a) m)

-- whether m has something that the cell a has not
abbrev pub is_new : List ℕ → ℕ → ℕ → Bool
is_new l a m = not (eqb (bit_or (cell l a) m) (cell l a))

pub sum_set : (l : List ℕ) (a v : ℕ) → a < length l → sum (set l a v) + cell l a ≡ sum l + v
unfolding sum
sum_set [] a v h = absurd (omega arith)
sum_set (x ∷ l) zero v h = omega arith
sum_set (x ∷ l) (suc a) v h = omega (arith, sum_set l a v (omega arith))

pub sum_bound : (n : ℕ) (l : List ℕ) → ((a : ℕ) → cell l a < n) → sum l ≤ length l * n
unfolding sum
sum_bound n [] h = omega arith
sum_bound n (x ∷ l) h = rw suc-mul (omega (arith, h 0, sum_bound n l (λ a. h (suc a))))

-- l' has at least l's masks; the sum of the numbers tells whether it has more
pub record Grows (l l' : List ℕ) : Type 0 where
  pub same_size : length l' ≡ length l
  pub up : sum l ≤ sum l'
  pub stays : sum l' ≡ sum l → l' ≡ l

pub grows_refl : (l : List ℕ) → Grows l l
grows_refl l = record { same_size = refl; up = omega arith; stays = λ e. refl }

pub grown_grows : (l : List ℕ) (a m : ℕ) → Grows l (grown l a m)
unfolding grown
grown_grows l a m = go (ltb a (length l)) refl
  where
    go : (b : Bool) → ltb a (length l) ≡ b → Grows l (set l a (bit_or (cell l a) m))
    go true e =
        let h = sum_set l a (bit_or (cell l a) m) (ltb-true _ _ e) in
        record {
          same_size = length-set l a _;
          up = omega (arith, h, le_or (cell l a) m);
          stays = λ s. let z : bit_or (cell l a) m ≡ cell l a = omega (arith, h) in ap (set l a) z ∙ set-get_or l a 0;
        }
    go false e = rw (set_out l a (bit_or (cell l a) m) (ltb-false _ _ e)) (grows_refl l)

-- a flag that says whether something was new
pub record Flag (l l' : List ℕ) (new : Bool) : Type 0 where
  pub grows : Grows l l'
  pub more : new ≡ true → sum l < sum l'
  pub same : new ≡ false → l' ≡ l

-- the flag as code computes it
pub grown_flag : (l : List ℕ) (a m : ℕ) → a < length l → Flag l (grown l a m) (is_new l a m)
unfolding grown
grown_flag l a m i = record { grows = grown_grows l a m; more = more; same = same }
  where
    old : ℕ
    old = cell l a

    new : ℕ
    new = bit_or (cell l a) m

    more : not (eqb new old) ≡ true → sum l < sum (set l a new)
    more e = omega (arith, sum_set l a new i, le_or old m, eqb-false new old (not-true _ e))

    same : not (eqb new old) ≡ false → set l a new ≡ l
    same e = ap (set l a) (eqb-true new old (not-false _ e)) ∙ set-get_or l a 0

-- what every mask of the list has
unfoldable pub Sound : (ℕ → ℕ → Type 0) → List ℕ → Type 0
Sound D l = (a k : ℕ) → bit k (cell l a) ≡ true → D a k

pub grown_sound : (D : ℕ → ℕ → Type 0) (l : List ℕ) (a m : ℕ) → Sound D l → ((k : ℕ) → bit k m ≡ true → D a k) → Sound D (grown l a m)
unfolding Sound grown
grown_sound D l a m s f b k h = go (eqb b a) refl (ltb a (length l)) refl
  where
    pick_or : (bit k (cell l a) ≡ true) ⊎ (bit k m ≡ true) → D a k
    pick_or (inl x) = s a k x
    pick_or (inr x) = f k x

    go : (e : Bool) → eqb b a ≡ e → (i : Bool) → ltb a (length l) ≡ i → D b k
    go true e true i =
        let z : b ≡ a = eqb-true b a e in
        rw z (pick_or (bit_or_out k (cell l a) m (rw (z, get_or-set_same l a (bit_or (cell l a) m) 0 (ltb-true _ _ i)) at h)))
    go true e false i = s b k (rw (set_out l a (bit_or (cell l a) m) (ltb-false _ _ i)) at h)
    go false e i j = s b k (rw (get_or-set_other l a b (bit_or (cell l a) m) 0 (eqb-false b a e)) at h)

pub grown_has : (l : List ℕ) (a m b k : ℕ) → bit k (cell l b) ≡ true → bit k (cell (grown l a m) b) ≡ true
unfolding grown
grown_has l a m b k h = go (eqb b a) refl (ltb a (length l)) refl
  where
    go : (e : Bool) → eqb b a ≡ e → (i : Bool) → ltb a (length l) ≡ i → bit k (cell (set l a (bit_or (cell l a) m)) b) ≡ true
    go true e true i =
        let z : b ≡ a = eqb-true b a e in
        rw (z, get_or-set_same l a (bit_or (cell l a) m) 0 (ltb-true _ _ i)) (bit_or_l k (cell l a) m (rw z at h))
    go true e false i = rw (set_out l a (bit_or (cell l a) m) (ltb-false _ _ i)) h
    go false e i j = rw (get_or-set_other l a b (bit_or (cell l a) m) 0 (eqb-false b a e)) h

pub grown_adds : (l : List ℕ) (a m k : ℕ) → a < length l → bit k m ≡ true → bit k (cell (grown l a m) a) ≡ true
unfolding grown
grown_adds l a m k i h = rw (get_or-set_same l a (bit_or (cell l a) m) 0 i) (bit_or_r k (cell l a) m h)

-- a mask that is added twice, and an empty one
pub grown_twice : (l : List ℕ) (a m : ℕ) → grown (grown l a m) a m ≡ grown l a m
unfolding grown
grown_twice l a m = go (ltb a (length l)) refl
  where
    v : ℕ
    v = bit_or (cell l a) m

    go : (b : Bool) → ltb a (length l) ≡ b → set (set l a v) a (bit_or (cell (set l a v) a) m) ≡ set l a v
    go true e = set-set l a v _ ∙ ap (λ (x : ℕ). set l a (bit_or x m)) (get_or-set_same l a v 0 (ltb-true _ _ e)) ∙ ap (set l a) (or_twice (cell l a) m)
    go false e = set_out (set l a v) a _ (omega (arith, ltb-false a (length l) e, length-set l a v))

pub grown_none : (l : List ℕ) (a : ℕ) → grown l a 0 ≡ l
unfolding grown
grown_none l a = ap (set l a) (or_zero_r (cell l a)) ∙ set-get_or l a 0

-- n masks below 2 ^ w
pub record Masks (n w : ℕ) (l : List ℕ) : Type 0 where
  pub size : length l ≡ n
  pub below : (a : ℕ) → cell l a < 2 ^ w

-- the first n elements are f's
abbrev pub Filled : (ℕ → ℕ) → ℕ → List ℕ → Type 0
Filled f n l = (a : ℕ) → a < n → get_or l a 0 ≡ f a

pub filled_masks : (f : ℕ → ℕ) (n w : ℕ) (l : List ℕ) → length l ≡ n → Filled f n l → ((a : ℕ) → a < n → f a < 2 ^ w) → Masks n w l
filled_masks f n w l e h b = record { size = e; below = λ a. go a (ltb a n) refl }
  where
    go : (a : ℕ) (x : Bool) → ltb a n ≡ x → get_or l a 0 < 2 ^ w
    go a true q = rw (h a (ltb-true a n q)) (b a (ltb-true a n q))
    go a false q = rw (get_or-eq_default l 0 {n = a} (omega (arith, e, ltb-false a n q))) (pow_pos w)

pub grown_masks : {n w : ℕ} {l : List ℕ} (a m : ℕ) → Masks n w l → m < 2 ^ w → Masks n w (grown l a m)
unfolding grown
grown_masks {n} {w} {l} a m h i = record { size = length-set l a _ ∙ h.size; below = low }
  where
    go : (b : ℕ) (e : Bool) → eqb b a ≡ e → (f : Bool) → ltb a (length l) ≡ f → cell (set l a (bit_or (cell l a) m)) b < 2 ^ w
    go b true e true f = let z : b ≡ a = eqb-true b a e in rw (z, get_or-set_same l a (bit_or (cell l a) m) 0 (ltb-true _ _ f)) (or_lt w (cell l a) m (h.below a) i)
    go b true e false f = rw (set_out l a (bit_or (cell l a) m) (ltb-false _ _ f)) (h.below b)
    go b false e f g = rw (get_or-set_other l a b (bit_or (cell l a) m) 0 (eqb-false b a e)) (h.below b)

    low : (b : ℕ) → cell (set l a (bit_or (cell l a) m)) b < 2 ^ w
    low b = go b (eqb b a) refl (ltb a (length l)) refl

pub masks_sum : {n w : ℕ} {l : List ℕ} → Masks n w l → sum l ≤ n * 2 ^ w
masks_sum {n} {w} {l} h = subst (λ (x : ℕ). sum l ≤ x * 2 ^ w) h.size (sum_bound (2 ^ w) l h.below)

pub cell_zeros : (n a : ℕ) → cell (replicate n 0) a ≡ 0
cell_zeros zero a = refl
cell_zeros (suc n) zero = refl
cell_zeros (suc n) (suc a) = cell_zeros n a

-- a list that is filled place by place: P holds at the places so far, and at one more
module _ {A : Type 0} where
  pub set_each : (d : A) (P : ℕ → A → Type 0) (n : ℕ) (v : A) (l : List A) → n < length l → P n v → ((a : ℕ) → a < n → P a (get_or l a d)) → (a : ℕ) → a < n + 1 → P a (get_or (set l n v) a d)
  set_each d P n v l i e h a b = go (eqb a n) refl
    where
      go : (x : Bool) → eqb a n ≡ x → P a (get_or (set l n v) a d)
      go true q = let z : a ≡ n = eqb-true a n q in rw (z, get_or-set_same l n v d i) e
      go false q = rw (get_or-set_other l n a v d (eqb-false a n q)) (h a (omega (arith, eqb-false a n q)))

  pub set_more : (d : A) (f : ℕ → A) (n : ℕ) (v : A) (l : List A) → n < length l → v ≡ f n → ((a : ℕ) → a < n → get_or l a d ≡ f a) → (a : ℕ) → a < n + 1 → get_or (set l n v) a d ≡ f a
  set_more d f = set_each d (λ a x. x ≡ f a)
