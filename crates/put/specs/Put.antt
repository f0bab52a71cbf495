-- What writing bytes into a buffer at a place does.
use Rattle.std.specs.Prelude.{ℕ, ◌+◌, ◌≤◌, ◌≡◌, List, ◌++◌, length}
use Rattle.std.proofs.lemmas.List.Edits.{sets}

-- The bytes t, at most k of them, stand at the place as far as the buffer reaches, and every other byte is as before; r is the place after them.
pub record Put (k : ℕ) (before : List ℕ) (at : ℕ) (t after : List ℕ) (r : ℕ) : Type 0 where
  pub few : length t ≤ k
  pub bytes : after ≡ sets before at t
  pub same : length after ≡ length before
  pub next : r ≡ at + length t

-- The key stands there and then the value.
pub record PutField (k : ℕ) (before : List ℕ) (at : ℕ) (key value after : List ℕ) (r : ℕ) : Type 0 where
  pub put : Put k before at (key ++ value) after r

-- Bounds of a place, so that the place after what is written there stays a small number: for a byte, a number, a value, a field, a line, some
-- lines and a table.
abbrev pub ByteAt : ℕ → Type 0
ByteAt at = at ≤ 2000000000

abbrev pub DigitsAt : ℕ → Type 0
DigitsAt at = at ≤ 1000000800

abbrev pub ValueAt : ℕ → Type 0
ValueAt at = at ≤ 1000000600

abbrev pub FieldAt : ℕ → Type 0
FieldAt at = at ≤ 1000000400

abbrev pub LineAt : ℕ → Type 0
LineAt at = at ≤ 1000000000

abbrev pub LinesAt : ℕ → Type 0
LinesAt at = at ≤ 900000000

abbrev pub TableAt : ℕ → Type 0
TableAt at = at ≤ 500000000
