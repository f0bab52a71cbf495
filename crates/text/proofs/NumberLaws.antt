-- Numbers as digits: a number's digits are spelt as a number and say it, and what is spelt as a number is the digits of what it says.
use Rattle.std.specs.Prelude.{ℕ, zero, suc, ◌+◌, ◌-◌, ◌*◌, ◌/◌, ◌%◌, ◌≤◌, ◌<◌, ◌≡◌, refl, Bool, true, false, ◌&&◌, not, ltb, leb, eqb}
use Rattle.std.proofs.Common.{sym, ◌∙◌, arith, ltb-true, ltb-false, le-ltb, lt-ltb, leb-true, le-leb, ne_eqb}
use mathlib.Core.List.Memᴰ
use mathlib.Core.List.{List, [], ◌∷◌, ◌++◌, append_assoc, append-nil, Memᴰ}
use Rattle.std.proofs.lemmas.Bool.{false≢true, eqb-false, not-true}
use Rattle.text.specs.Number.{digits_in, digits, every, is_digit, all_digits, spelt, value_from, value}
use Rattle.table.specs.Cases.{cases}

-- ---- tests

pub by_order {ℓ} : {P : Type ℓ} (a b : ℕ) → (a < b → P) → (b ≤ a → P) → P
by_order a b f g = cases (ltb a b) (λ e. f (ltb-true a b e)) (λ e. g (ltb-false a b e))

pub and_left : (a b : Bool) → a && b ≡ true → a ≡ true
and_left true b e = refl
and_left false b e = e

pub and_right : (a b : Bool) → a && b ≡ true → b ≡ true
and_right true b e = e
and_right false b e = absurd (false≢true e)

-- all pass a test if and only if each does
pub every_all : {A : Type 0} (f : A → Bool) (xs : List A) → every f xs ≡ true → (x : A) → Memᴰ x xs → f x ≡ true
unfolding every
every_all f [] e x d = absurd (Memᴰ.not-nil d)
every_all f (y ∷ ys) e x (Memᴰ.head p) = rw p (and_left (f y) (every f ys) e)
every_all f (y ∷ ys) e x (Memᴰ.tail d) = every_all f ys (and_right (f y) (every f ys) e) x d

pub all_every : {A : Type 0} (f : A → Bool) (xs : List A) → ((x : A) → Memᴰ x xs → f x ≡ true) → every f xs ≡ true
unfolding every
all_every f [] h = refl
all_every f (y ∷ ys) h = rw (h y (Memᴰ.head refl)) (all_every f ys (λ x d. h x (Memᴰ.tail d)))

-- ---- the digits of a number, by its tens

in_small : (f n : ℕ) → n < 10 → digits_in f n ≡ (48 + n) ∷ []
unfolding digits_in
in_small zero n h = refl
in_small (suc f) n h = rw (lt-ltb n 10 h, digits_in)

in_large : (f n : ℕ) → 10 ≤ n → digits_in (suc f) n ≡ digits_in f (n / 10) ++ ((48 + n % 10) ∷ [])
unfolding digits_in
in_large f n h = rw (le-ltb n 10 h, digits_in)

-- the bound on the count of digits does not matter
in_any : (f g n : ℕ) → n ≤ f → n ≤ g → digits_in f n ≡ digits_in g n
in_any zero g n h k = in_small zero n (omega arith) ∙ sym (in_small g n (omega arith))
in_any (suc f) zero n h k = in_small (suc f) n (omega arith) ∙ sym (in_small zero n (omega arith))
in_any (suc f) (suc g) n h k = by_order n 10
    (λ s. in_small (suc f) n s ∙ sym (in_small (suc g) n s))
    (λ l. rw (in_large f n l, in_large g n l, in_any f g (n / 10) (omega arith) (omega arith)))

pub digits_small : (n : ℕ) → n < 10 → digits n ≡ (48 + n) ∷ []
unfolding digits
digits_small n h = in_small n n h

pub digits_large : (n : ℕ) → 10 ≤ n → digits n ≡ digits (n / 10) ++ ((48 + n % 10) ∷ [])
unfolding digits
digits_large zero h = absurd (omega arith)
digits_large (suc n) h = in_large n (suc n) h ∙ rw (in_any n (suc n / 10) (suc n / 10) (omega arith) (omega arith))

-- what holds below ten, and of a number if of its tens, holds of all
tens : (P : ℕ → Type 0) → ((n : ℕ) → n < 10 → P n) → ((n : ℕ) → 10 ≤ n → P (n / 10) → P n) → (f n : ℕ) → n ≤ f → P n
tens P small large zero n h = small n (omega arith)
tens P small large (suc f) n h = by_order n 10 (small n) (λ l. large n l (tens P small large f (n / 10) (omega arith)))

-- ---- a number's digits say it

value_append : (v : ℕ) (s t : List ℕ) → value_from v (s ++ t) ≡ value_from (value_from v s) t
unfolding value_from
value_append v [] t = refl
value_append v (b ∷ s) t = value_append (v * 10 + (b - 48)) s t

-- the digits of n say n
pub value_digits : (n : ℕ) → value (digits n) ≡ n
unfolding value value_from
value_digits n = tens (λ m. value (digits m) ≡ m)
    (λ m s. rw (digits_small m s) (omega arith))
    (λ m l ih. rw (digits_large m l, value_append 0 (digits (m / 10)) ((48 + m % 10) ∷ []), ih) (omega arith))
    n n (omega arith)

-- ---- a number's digits are spelt as a number

pub digit_fact : (b : ℕ) → is_digit b ≡ true → (48 ≤ b) × (b ≤ 57)
digit_fact b e = (leb-true 48 b (and_left (leb 48 b) (leb b 57) e), leb-true b 57 (and_right (leb 48 b) (leb b 57) e))

digit_is : (b : ℕ) → 48 ≤ b → b ≤ 57 → is_digit b ≡ true
digit_is b l h = rw (le-leb 48 b l, le-leb b 57 h)

pub all_head : (b : ℕ) (s : List ℕ) → all_digits (b ∷ s) ≡ true → (48 ≤ b) × (b ≤ 57)
unfolding all_digits
all_head b s e = digit_fact b (and_left (is_digit b) (all_digits s) e)

pub all_tail : (b : ℕ) (s : List ℕ) → all_digits (b ∷ s) ≡ true → all_digits s ≡ true
unfolding all_digits
all_tail b s e = and_right (is_digit b) (all_digits s) e

-- what is spelt as a number is digits
pub spelt_all : (s : List ℕ) → spelt s ≡ true → all_digits s ≡ true
unfolding spelt all_digits
spelt_all [] e = refl
spelt_all (b ∷ []) e = rw e
spelt_all (b ∷ c ∷ s) e = and_right (not (eqb b 48)) (all_digits (b ∷ c ∷ s)) e

all_snoc : (s : List ℕ) (d : ℕ) → all_digits s ≡ true → is_digit d ≡ true → all_digits (s ++ (d ∷ [])) ≡ true
unfolding all_digits
all_snoc [] d a e = rw e
all_snoc (b ∷ s) d a e = rw (and_left (is_digit b) (all_digits s) a, all_snoc s d (all_tail b s a) e)

spelt_snoc : (s : List ℕ) (d : ℕ) → spelt s ≡ true → 0 < value s → is_digit d ≡ true → spelt (s ++ (d ∷ [])) ≡ true
unfolding spelt all_digits value value_from
spelt_snoc [] d s v e = e
spelt_snoc (b ∷ []) d s v e = rw (ne_eqb b 48 (λ q. omega arith), s, e)
spelt_snoc (b ∷ c ∷ t) d s v e =
    rw (and_left (not (eqb b 48)) (all_digits (b ∷ c ∷ t)) s) (all_snoc (b ∷ c ∷ t) d (spelt_all (b ∷ c ∷ t) s) e)

-- the digits of n have no needless zero
pub spelt_digits : (n : ℕ) → spelt (digits n) ≡ true
unfolding spelt
spelt_digits n = tens (λ m. spelt (digits m) ≡ true)
    (λ m s. rw (digits_small m s) (digit_is (48 + m) (omega arith) (omega arith)))
    (λ m l ih. rw (digits_large m l)
    (spelt_snoc (digits (m / 10)) (48 + m % 10) ih (rw (value_digits (m / 10)) (omega arith)) (digit_is (48 + m % 10) (omega arith) (omega arith))))
    n n (omega arith)

-- all of them are digits, and there is a first
pub digits_all : (n : ℕ) → all_digits (digits n) ≡ true
digits_all n = spelt_all (digits n) (spelt_digits n)

pub digits_first : (n : ℕ) → (b : ℕ) × (s : List ℕ) × (digits n ≡ b ∷ s) × (48 ≤ b) × (b ≤ 57)
unfolding spelt
digits_first n = go (digits n) refl (spelt_digits n) (digits_all n)
  where
    go : (t : List ℕ) → digits n ≡ t → spelt t ≡ true → all_digits t ≡ true → (b : ℕ) × (s : List ℕ) × (digits n ≡ b ∷ s) × (48 ≤ b) × (b ≤ 57)
    go [] q e a = absurd (false≢true e)
    go (b ∷ s) q e a = let d = all_head b s a in (b, s, q, d.0, d.1)

-- ---- what is spelt as a number is the digits of what it says

digits_step : (v e : ℕ) → 0 < v → e < 10 → digits (v * 10 + e) ≡ digits v ++ ((48 + e) ∷ [])
digits_step v e p q =
    let a : (v * 10 + e) / 10 ≡ v = omega arith in
    let b : (v * 10 + e) % 10 ≡ e = omega arith in
    rw (digits_large (v * 10 + e) (omega arith), a, b)

digits_from : (v : ℕ) (s : List ℕ) → 0 < v → all_digits s ≡ true → digits (value_from v s) ≡ digits v ++ s
unfolding value_from
digits_from v [] p e = simp append-nil
digits_from v (b ∷ s) p e =
    let d = all_head b s e in
    let b' : 48 + (b - 48) ≡ b = omega arith in
    digits_from (v * 10 + (b - 48)) s (omega arith) (all_tail b s e) ∙ rw (digits_step v (b - 48) p (omega arith), b', append_assoc (digits v) (b ∷ []) s)

first_digit : (b : ℕ) → 48 ≤ b → b ≤ 57 → digits (0 * 10 + (b - 48)) ≡ b ∷ []
first_digit b l h = let e : 48 + (0 * 10 + (b - 48)) ≡ b = omega arith in rw (digits_small (0 * 10 + (b - 48)) (omega arith), e)

-- so a number has one spelling
pub digits_value : (s : List ℕ) → spelt s ≡ true → digits (value s) ≡ s
unfolding spelt value value_from
digits_value [] e = absurd (false≢true e)
digits_value (b ∷ []) e = let d = digit_fact b e in first_digit b d.0 d.1
digits_value (b ∷ c ∷ s) e =
    let n = eqb-false b 48 (not-true (eqb b 48) (and_left (not (eqb b 48)) (all_digits (b ∷ c ∷ s)) e)) in
    let a = spelt_all (b ∷ c ∷ s) e in
    let d = all_head b (c ∷ s) a in
    digits_from (0 * 10 + (b - 48)) (c ∷ s) (omega arith) (all_tail b (c ∷ s) a) ∙ rw (first_digit b d.0 d.1)
