-- Laws of numbers, written two and four digits at a time.
use Rattle.std.specs.Prelude.{ℕ, zero, suc, ◌+◌, ◌/◌, ◌%◌, ◌^◌, ◌≤◌, ◌<◌, ◌≡◌, List, [], ◌∷◌, ◌++◌, length}
use Rattle.std.proofs.Common.{◌∙◌, ap, append_assoc, arith, pow-suc, length-append}
use Rattle.text.specs.Number.{digits}
use Rattle.text.proofs.NumberLaws.{digits_small, digits_large, by_order}
use Rattle.put.specs.Put.{Put}
use Rattle.put.specs.PutLaws.{put_after, put_more, put_tight}

-- two digits, and four, at once
abbrev pub last_two : ℕ → List ℕ
last_two n = (48 + n / 10) ∷ (48 + n % 10) ∷ []

abbrev pub last_four : ℕ → List ℕ
last_four n = (48 + n / 1000) ∷ (48 + n / 100 % 10) ∷ (48 + n / 10 % 10) ∷ (48 + n % 10) ∷ []

four_digits : (n : ℕ) → 10000 ≤ n → digits n ≡ digits (n / 10000) ++ last_four (n % 10000)
four_digits n h =
    let p : n / 10 / 10 / 10 / 10 ≡ n / 10000 = omega arith in
    let a : n / 10 / 10 / 10 % 10 ≡ n % 10000 / 1000 = omega arith in
    let b : n / 10 / 10 % 10 ≡ n % 10000 / 100 % 10 = omega arith in
    let c : n / 10 % 10 ≡ n % 10000 / 10 % 10 = omega arith in
    let d : n % 10 ≡ n % 10000 % 10 = omega arith in
    digits_large n (omega arith)
    ∙ rw (digits_large (n / 10) (omega arith), digits_large (n / 10 / 10) (omega arith), digits_large (n / 10 / 10 / 10) (omega arith), p, a, b, c, d) (simp append_assoc)

four_length : (n : ℕ) → 10000 ≤ n → length (digits n) ≡ length (digits (n / 10000)) + 4
four_length n h = ap length (four_digits n h) ∙ length-append (digits (n / 10000)) _

pub number_four : {l k m : List ℕ} {at p r : ℕ} (n : ℕ) → 10000 ≤ n → Put (length (digits (n / 10000))) l at (digits (n / 10000)) k p → Put 4 k p (last_four (n % 10000)) m r
    → Put (length (digits n)) l at (digits n) m r
number_four n h a b = put_more {k = length (digits (n / 10000)) + 4} (omega (arith, four_length n h)) (rw (four_digits n h) (put_after a b))

-- a number below 10,000
pub few_one : {l m : List ℕ} {at r : ℕ} (n : ℕ) → n < 10 → Put 1 l at ((48 + n) ∷ []) m r → Put 4 l at (digits n) m r
few_one n h a = rw (digits_small n h) (put_more (omega arith) a)

pub few_two : {l m : List ℕ} {at r : ℕ} (n : ℕ) → 10 ≤ n → n < 100 → Put 2 l at (last_two n) m r → Put 4 l at (digits n) m r
few_two n g h a = rw (digits_large n g, digits_small (n / 10) (omega arith)) (put_more (omega arith) a)

pub few_three : {l m k : List ℕ} {at p r : ℕ} (n : ℕ) → 100 ≤ n → n < 1000 → Put 1 l at ((48 + n / 100) ∷ []) m p → Put 2 m p (last_two (n % 100)) k r → Put 4 l at (digits n) k r
few_three n g h a b =
    let e : n / 10 / 10 ≡ n / 100 = omega arith in
    let q : n / 10 % 10 ≡ n % 100 / 10 = omega arith in
    let s : n % 10 ≡ n % 100 % 10 = omega arith in
    rw (digits_large n (omega arith), digits_large (n / 10) (omega arith), digits_small (n / 10 / 10) (omega arith), e, q, s) (put_more (omega arith) (put_after a b))

pub few_four : {l m : List ℕ} {at r : ℕ} (n : ℕ) → 1000 ≤ n → n < 10000 → Put 4 l at (last_four n) m r → Put 4 l at (digits n) m r
few_four n g h a =
    let p : n / 10 / 10 / 10 ≡ n / 1000 = omega arith in
    let b : n / 10 / 10 % 10 ≡ n / 100 % 10 = omega arith in
    let e : digits n ≡ last_four n =
    digits_large n (omega arith)
    ∙ rw (digits_large (n / 10) (omega arith), digits_large (n / 10 / 10) (omega arith), digits_small (n / 10 / 10 / 10) (omega arith), p, b) in
    rw e a

pub large_room : (at n : ℕ) → 10000 ≤ n → at + length (digits n) ≤ 1999999990 → at + length (digits (n / 10000)) ≤ 1999999990
large_room at n g h = omega (arith, four_length n g)

pub last_room : {l k : List ℕ} {at p : ℕ} (n : ℕ) → 10000 ≤ n → at + length (digits n) ≤ 1999999990 → Put (length (digits (n / 10000))) l at (digits (n / 10000)) k p → p ≤ 1999999990
last_room n g h a = omega (arith, four_length n g, a.next)

-- the count of a number's digits
small_length : (n : ℕ) → n < 10 → length (digits n) ≡ 1
small_length n h = rw (digits_small n h)

large_length : (n : ℕ) → 10 ≤ n → length (digits n) ≡ length (digits (n / 10)) + 1
large_length n h = ap length (digits_large n h) ∙ length-append (digits (n / 10)) _

pub digits_few : (k n : ℕ) → n < 10 ^ suc k → length (digits n) ≤ suc k
digits_few zero n h = omega (arith, small_length n h)
digits_few (suc k) n h = by_order n 10 (λ s. omega (arith, small_length n s)) (λ g. omega (arith, large_length n g, digits_few k (n / 10) (let e = pow-suc 10 (suc k) in omega arith)))

pub digits_ten : (n : ℕ) → n < 10000000000 → length (digits n) ≤ 10
digits_ten n h = digits_few 9 n h

pub digits_twenty : (n : ℕ) → n < 100000000000000000000 → length (digits n) ≤ 20
digits_twenty n h = digits_few 19 n h

-- a number of 32 bits, four digits at a time
pub ten_four : {l m k : List ℕ} {at p r : ℕ} (n : ℕ) → 10000 ≤ n → n < 10000000000 → Put 4 l at (digits (n / 10000)) m p → Put 4 m p (last_four (n % 10000)) k r → Put 10 l at (digits n) k r
ten_four n g h a b = put_more (digits_ten n h) (number_four n g (put_tight a) b)

pub ten_eight : {l m k o : List ℕ} {at p q r : ℕ} (n : ℕ) → 10000 ≤ n / 10000 → n < 10000000000
    → Put 4 l at (digits (n / 10000 / 10000)) m p → Put 4 m p (last_four (n / 10000 % 10000)) k q → Put 4 k q (last_four (n % 10000)) o r → Put 10 l at (digits n) o r
ten_eight n g h a b c = put_more (digits_ten n h) (number_four n (omega arith) (number_four (n / 10000) g (put_tight a) b) c)

-- a number of 64 bits stands below 1999999990, begun low
pub number_room : (at n : ℕ) → at ≤ 1000000700 → n < 100000000000000000000 → at + length (digits n) ≤ 1999999990
number_room at n h k = omega (arith, digits_twenty n k)

pub put_twenty : {l m : List ℕ} {at r : ℕ} (n : ℕ) → n < 100000000000000000000 → Put (length (digits n)) l at (digits n) m r → Put 20 l at (digits n) m r
put_twenty n h a = put_more (digits_twenty n h) a
