-- The first fault of n things, as a loop finds it.
use Rattle.std.specs.Prelude.{ℕ, suc, ◌+◌, ◌-◌, ◌≤◌, ◌<◌, ◌≡◌, Result, Ok, Err}
use Rattle.std.proofs.Common.{sym, ◌∙◌, ap, arith}
use Rattle.std.proofs.Math.Option.{Option, none}
use Rattle.text.specs.declared.Fault.{Fault}
use Rattle.text.specs.Value.{or_else}
use Rattle.text.specs.Structure.{first_of}
use Rattle.targets.specs.Judged.{judged}
use Rattle.checks.specs.Judging.{Fails, judged_first, judged_none}

-- a loop that has passed i of them, without a fault
pub record Passed (f : ℕ → Option Fault) (n i : ℕ) : Type 0 where
  pub left : first_of f n 0 ≡ first_of f (n - i) i

pub passed_none : (f : ℕ → Option Fault) (n : ℕ) → Passed f n 0
passed_none f n = record { left = ap (λ (k : ℕ). first_of f k 0) (omega arith) }

one_more : (f : ℕ → Option Fault) (n i : ℕ) → i < n → first_of f (n - i) i ≡ or_else (f i) (first_of f (n - (i + 1)) (i + 1))
unfolding first_of
one_more f n i l =
    let e : n - i ≡ suc (n - (i + 1)) = omega arith in
    let s : i + 1 ≡ suc i = omega arith in
    rw (e, s)

pub passed_more : (f : ℕ → Option Fault) (n i : ℕ) → Passed f n i → i < n → Ok tt ≡ judged (f i) → Passed f n (i + 1)
passed_more f n i p l e = let q : f i ≡ none = judged_none (f i) e in record { left = p.left ∙ one_more f n i l ∙ rw q }

pub passed_found : (f : ℕ → Option Fault) (n i : ℕ) {x : Fault} {r : Result (Unit {0}) Fault} → Passed f n i → i < n → Err x ≡ judged (f i) → Fails r x → r ≡ judged (first_of f n 0)
passed_found f n i p l e h = judged_first (f i) (first_of f (n - (i + 1)) (i + 1)) e h ∙ sym (ap judged (p.left ∙ one_more f n i l))

pub passed_all : (f : ℕ → Option Fault) (n i : ℕ) → Passed f n i → n ≤ i → Ok tt ≡ judged (first_of f n 0)
unfolding first_of
passed_all f n i p l = let e : n - i ≡ 0 = omega arith in let z : first_of f n 0 ≡ none = p.left ∙ rw e in rw z
