-- A part of standard input, read into a buffer.
use Rattle.std.specs.Prelude.{ℕ, ◌+◌, ◌*◌, ◌%◌, ◌≤◌, ◌≡◌, cond, List, eqb, leb, length, drop, get_or, Ok, Err}
use Rattle.std.specs.declared.result.Result.{Result}
use Rattle.std.proofs.Math.Option.{Option, none, some}
use Rattle.parts.specs.declared.Missing.{Missing}
use Rattle.parts.specs.declared.Missing.TheVariants.{Ended, Long, Cut}

-- ---- five digits

-- a digit's value: the byte of 0 is 48
abbrev pub digit_of : ℕ → ℕ
digit_of b = (b + 2) % 10

abbrev pub size_of : List ℕ → ℕ
size_of h = digit_of (get_or h 0 0) * 10000 + digit_of (get_or h 1 0) * 1000 + digit_of (get_or h 2 0) * 100 + digit_of (get_or h 3 0) * 10 + digit_of (get_or h 4 0)

-- ---- a part and a buffer of n bytes

-- how many of the buffer's bytes a part of k bytes takes: none where the buffer is too short
abbrev pub taken : ℕ → ℕ → ℕ
taken n k = cond (leb k n) k 0

-- what is answered of a part of k bytes when j of them were read
abbrev pub answer_of : ℕ → ℕ → ℕ → Result ℕ Missing
answer_of n k j = cond (leb k n) (cond (eqb j k) (Ok k) (Err (Cut k j))) (Err (Long k))

-- how many bytes were read of a part
abbrev pub read_of : Result ℕ Missing → ℕ
read_of (Ok n) = n
read_of (Err Ended) = 0
read_of (Err (Long k)) = 0
read_of (Err (Cut k n)) = n

-- No contract can say what standard input gives, so this is free: `read`, the count of the bytes read, up to what the part takes; and those bytes of the
-- buffer that the part takes. All else is fixed
pub record PartOf (k : ℕ) (before after : List ℕ) (r : Result ℕ Missing) : Type 0 where
  pub read : ℕ
  pub most : read ≤ taken (length before) k
  pub answer : r ≡ answer_of (length before) k read
  pub behind : drop (taken (length before) k) after ≡ drop (taken (length before) k) before

-- what is answered and left in the buffer where a part of k bytes is read
pub record Bytes (k : ℕ) (before after : List ℕ) (r : Result ℕ Missing) : Type 0 where
  pub part : PartOf k before after r
  pub lengths : length after ≡ length before
  -- so what was read lies in the buffer
  pub within : read_of r ≤ length after

-- standard input ends before the five bytes, or they say the part's length
abbrev pub PartBehind : Option (List ℕ) → List ℕ → List ℕ → Result ℕ Missing → Type 0
PartBehind none before after r = (r ≡ Err Ended) × (after ≡ before)
PartBehind (some h) before after r = PartOf (size_of h) before after r

-- free as well: the five bytes before the part, or that standard input ends before them
pub record Next (before after : List ℕ) (r : Result ℕ Missing) : Type 0 where
  pub header : Option (List ℕ)
  pub part : PartBehind header before after r
  pub lengths : length after ≡ length before
  -- so what was read lies in the buffer
  pub within : read_of r ≤ length after

-- n bytes were read of the next part
pub record Word (before after : List ℕ) (n : ℕ) : Type 0 where
  pub part : Result ℕ Missing
  pub next : Next before after part
  pub read : n ≡ read_of part
  pub within : n ≤ length after
