-- The fault of one value: a law for each way through the code that finds it.
use Rattle.std.specs.Prelude.{ℕ, ◌+◌, ◌≤◌, ◌<◌, ◌≡◌, List, Result, Ok, Err, Bool, true, false, not, ◌||◌, ◌⊎◌, ℤ, pos, negsuc}
use Rattle.std.proofs.Common.{sym, ◌∙◌, inl, inr, arith, lt-ltb, le-ltb, le-leb, eq-eqb, ne_eqb, SFits}
use Rattle.std.proofs.Math.Option.{Option}
use Rattle.std.proofs.lemmas.Bool.{lt-leb, not-true, not-false}
use Rattle.std.specs.Int.{w32}
use Rattle.table.specs.Table.{removed}
use Rattle.table.specs.declared.Operand.TheVariants.{Var, Const}
use Rattle.text.specs.declared.Fault.{Fault}
use Rattle.text.specs.declared.Fault.TheVariants.{Misspelt, Range, Reference}
use Rattle.text.proofs.NumberLaws.{by_order}
use Rattle.text.specs.Value.{check, from, one_of, operand, variable, arguments, none_removed, all_declared}
use Rattle.text.specs.Format.{name_of}
use Rattle.targets.specs.Judged.{judged}

-- ---- a number from lo to hi

range_below : (lo v hi : ℕ) → v < lo → Err Range ≡ judged (check (from lo hi) v)
unfolding check
range_below lo v hi l = rw (lt-leb lo v l)

pub range_in : (lo v hi : ℕ) → lo ≤ v → v ≤ hi → Ok tt ≡ judged (check (from lo hi) v)
unfolding check
range_in lo v hi l u = rw (le-leb lo v l, lt-ltb v (hi + 1) (omega arith))

range_above : (lo v hi : ℕ) → lo ≤ v → hi < v → Err Range ≡ judged (check (from lo hi) v)
unfolding check
range_above lo v hi l u = rw (le-leb lo v l, le-ltb v (hi + 1) (omega arith))

pub range_off : (lo v hi : ℕ) → (v < lo) ⊎ (lo ≤ v) × (hi < v) → Err Range ≡ judged (check (from lo hi) v)
range_off lo v hi (inl l) = range_below lo v hi l
range_off lo v hi (inr h) = range_above lo v hi h.0 h.1

pub range_out : (lo v hi : ℕ) → Ok tt ≡ judged (check (from lo hi) v) → (lo ≤ v) × (v ≤ hi)
range_out lo v hi e = (
  by_order v lo (λ l. absurd (cc (e, range_below lo v hi l))) (λ l. l),
  by_order hi v (λ u. by_order v lo (λ l. absurd (cc (e, range_below lo v hi l))) (λ l. absurd (cc (e, range_above lo v hi l u)))) (λ u. u),
)

-- ---- a reference to one of n

pub reference_in : (v n : ℕ) → v < n → Ok tt ≡ judged (check (one_of n) v)
unfolding check
reference_in v n l = rw (le-leb 0 v (omega arith), lt-ltb v n l)

pub reference_out : (v n : ℕ) → n ≤ v → Err Reference ≡ judged (check (one_of n) v)
unfolding check
reference_out v n l = rw (le-leb 0 v (omega arith), le-ltb v n l)

-- ---- a variable, or `-`

pub removed_closed : (n v : ℕ) (c : Bool) → c ≡ true → v ≡ 255 → Ok tt ≡ judged (check (variable c n) (name_of v))
unfolding check
removed_closed n v c e q = rw (e, eq-eqb v removed q)

pub removed_open : (n v : ℕ) (c : Bool) → c ≡ false → v ≡ 255 → Err Misspelt ≡ judged (check (variable c n) (name_of v))
unfolding check
removed_open n v c e q = rw (e, eq-eqb v removed q)

pub variable_is : (c : Bool) (n v : ℕ) {r : Result (Unit {0}) Fault} → (v ≡ 255 → ⊥) → r ≡ judged (check (one_of n) v) → r ≡ judged (check (variable c n) (name_of v))
unfolding check
variable_is c n v q e = rw (ne_eqb v removed q) (rw (le-leb 0 v (omega arith)) at e)

-- ---- an operand

pub operand_var : (n v : ℕ) {r : Result (Unit {0}) Fault} → r ≡ judged (check (one_of n) v) → r ≡ judged (check (operand n) (Var v))
unfolding check
operand_var n v e = rw (le-leb 0 v (omega arith)) at e

pub constant_in : (z : ℤ) → SFits w32 z → (n : ℕ) → Ok tt ≡ judged (check (operand n) (Const z))
unfolding check
constant_in (pos x) h n = rw (le-leb x 2147483647 (omega (arith, h.sfits)))
constant_in (negsuc x) h n = rw (le-leb x 2147483647 (omega (arith, h.sfits)))

-- ---- arguments

-- a says whether they are misspelt, b whether all are declared
pub arguments_misspelt : (c : Bool) (n : ℕ) (v : List (Option ℕ)) (a : Bool) → a ≡ not (c || none_removed v) → a ≡ true → Err Misspelt ≡ judged (check (arguments c n) v)
unfolding check
arguments_misspelt c n v a p e = rw (not-true (c || none_removed v) (sym p ∙ e))

pub arguments_in : (c : Bool) (n : ℕ) (v : List (Option ℕ)) (a b : Bool) → a ≡ not (c || none_removed v) → a ≡ false → b ≡ all_declared n v → b ≡ true → Ok tt ≡ judged (check (arguments c n) v)
unfolding check
arguments_in c n v a b p e q d = rw (not-false (c || none_removed v) (sym p ∙ e), ← q, d)

pub arguments_out : (c : Bool) (n : ℕ) (v : List (Option ℕ)) (a b : Bool) → a ≡ not (c || none_removed v) → a ≡ false → b ≡ all_declared n v → b ≡ false → Err Reference ≡ judged (check (arguments c n) v)
unfolding check
arguments_out c n v a b p e q d = rw (not-false (c || none_removed v) (sym p ∙ e), ← q, d)
