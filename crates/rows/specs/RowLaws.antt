-- Row after row: what is left to do from here gives the whole.
use Prim.Native.Nat.{ℕ, suc, ◌+◌, ◌-◌, ◌≤◌, ◌<◌}
use Rattle.std.specs.Prelude.{◌≡◌, List, length, drop, set, Ok, Err}
use Rattle.std.proofs.Math.Path.{refl}
use Rattle.std.proofs.Common.{add-one}
use native.Mathlib.Omega.{arith}
use Rattle.text.specs.declared.Fault.{Fault}
use Rattle.text.specs.Line.{Parser}
use Rattle.text.specs.Reader.{rows}
use Rattle.fields.specs.Answer.{Answer}
use Rattle.rows.specs.Rows.{RowAt, Lines, LinesAt}

-- the rows below i are in acc
pub record Rowing {A : Type 0} (f : ℕ → Parser A) (n : ℕ) (acc₀ : List A) (s : List ℕ) (at line : ℕ) (acc : List A) (p l i : ℕ) : Type 0 where
  pub same : rows f (n - i) i acc l (drop p s) ≡ rows f n 0 acc₀ line (drop at s)

pub rows_start : {A : Type 0} {f : ℕ → Parser A} {n : ℕ} {acc : List A} {s : List ℕ} {at line : ℕ} → Rowing f n acc s at line acc at line 0
rows_start {n = n} = let e : n - 0 ≡ n = omega arith in record { same = rw e refl }

module _ {A : Type 0} {f : ℕ → Parser A} {n : ℕ} {acc₀ : List A} {s : List ℕ} {at line : ℕ} {acc : List A} {p l i : ℕ} (m : Rowing f n acc₀ s at line acc p l i) where
  pub rows_turn : i < n → {a : A} {e : ℕ} → RowAt (f i) s p (Ok (a, e)) → Rowing f n acc₀ s at line (set acc i a) e (l + 1) (i + 1)
  unfolding rows
  rows_turn h u = let q : n - i ≡ suc (n - suc i) = omega arith in record { same = rw (add-one i, add-one l) (rw (q, ← u.same l) at m.same) }

  rows_stop : i < n → {x : Fault} → RowAt (f i) s p (Err x) → {most : ℕ} → l ≤ line + most → LinesAt (rows f n 0 acc₀) most s at line (Err (record { fault = x; line = l }))
  unfolding rows
  rows_stop h u k = let q : n - i ≡ suc (n - suc i) = omega arith in record { same = rw (q, ← u.same l) at m.same; within = tt; lines = k }

  pub rows_end : n ≤ i → p ≤ length s → {most : ℕ} → l ≤ line + most → LinesAt (rows f n 0 acc₀) most s at line (Ok (acc, record { at = p; line = l }))
  unfolding rows
  rows_end h u k = let q : n - i ≡ 0 = omega arith in record { same = rw q at m.same; within = u; lines = k }

  -- row i is refused, and what is answered is its fault with the line reached
  pub rows_refused : i < n → {r : Answer A} → RowAt (f i) s p r → {most : ℕ} → l ≤ line + most
      → {a : Lines (List A)} → (x : Fault) × (r ≡ Err x) × (a ≡ Err (record { fault = x; line = l })) → LinesAt (rows f n 0 acc₀) most s at line a
  rows_refused h u k q = rw q.2 (rows_stop h (rw q.1 at u) k)
