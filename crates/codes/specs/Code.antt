-- Two numbers in one.
use Rattle.std.specs.Prelude.{ℕ, ◌+◌, ◌*◌, ◌%◌}

-- n times 2^32 plus the low 32 bits of another number
abbrev pub packed : ℕ → ℕ → ℕ
packed n low = n * 4294967296 + low % 4294967296
