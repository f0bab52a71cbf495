use Rattle.std.proofs.Common.{◌≡◌, ℕ, ◌≤◌, ◌<◌, length, get_or, replicate}
use Rattle.run_code.specs.Code.{takes_of}
use Rattle.run_code.proofs.Rows.{bytes_at, words_at, Rowed}
use Rattle.run_code.proofs.decode.Given as goal

abbrev pub invariant-loop-p : goal.invariant-loop-p
invariant-loop-p l = Rowed (bytes_at l.t l.caps l.keep) (replicate 8 0) l.p l.code × Rowed (words_at l.t) (replicate 4 0) l.p l.words × (length l.r ≡ 8) × ((k : ℕ) → k < l.p → get_or l.r k 0 ≡ takes_of l.t k) × ((k : ℕ) → l.p ≤ k → get_or l.r k 0 ≡ 0)
