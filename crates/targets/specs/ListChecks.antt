-- The fault of a list of targets, or of dropped parameters: a law for each way through the code that finds it. The list ascends.
use Rattle.std.specs.Prelude.{ℕ, ◌%◌, ◌^◌, ◌≤◌, ◌<◌, ◌≡◌, refl, Ok, Err, Bool, true, false, not, ◌||◌, eqb, ltb}
use Rattle.std.proofs.Common.{sym, ◌∙◌, arith, lt_of_lt_of_le, pow_mono, lt-ltb, le-ltb, eq-eqb, ne_eqb}
use Rattle.std.specs.Int.Count.{ones}
use Rattle.table.specs.Mask.{members}
use Rattle.text.specs.declared.Fault.TheVariants.{Misspelt, Reference}
use Rattle.text.specs.Value.{check, ascending, within, is_one}
use Rattle.text.proofs.MaskLists.{members_ascends}
use Rattle.targets.specs.Judged.{judged}
use Rattle.targets.specs.MaskTests.{within_is, one_is}

-- a says whether there are as many as must be, b whether all are in range
pub list_misspelt : (one : Bool) (lo n m : ℕ) (a : Bool) → a ≡ not one || is_one (members m) → a ≡ false → Err Misspelt ≡ judged (check (ascending one lo n) (members m))
unfolding check
list_misspelt one lo n m a p e = rw (members_ascends m, ← p, e)

pub list_in : (one : Bool) (lo n m : ℕ) (a b : Bool) → a ≡ not one || is_one (members m) → a ≡ true → b ≡ within lo n (members m) → b ≡ true → Ok tt ≡ judged (check (ascending one lo n) (members m))
unfolding check
list_in one lo n m a b p e q w = rw (members_ascends m, ← p, e, ← q, w)

pub list_out : (one : Bool) (lo n m : ℕ) (a b : Bool) → a ≡ not one || is_one (members m) → a ≡ true → b ≡ within lo n (members m) → b ≡ false → Err Reference ≡ judged (check (ascending one lo n) (members m))
unfolding check
list_out one lo n m a b p e q w = rw (members_ascends m, ← p, e, ← q, w)

-- the tests on the mask
pub listed_open : (c : Bool) (m : ℕ) → c ≡ false → m < 4294967296 → eqb (ones m) 1 ≡ not (not c) || is_one (members m)
listed_open c m e h = rw e (sym (one_is m h))

pub inside_odd : (m n : ℕ) → m < 4294967296 → (m % 2 ≡ 0 → ⊥) → false ≡ within 1 n (members m)
inside_odd m n h e = rw (within_is 1 n m (omega arith) h, ne_eqb (m % 2 ^ 1) 0 e)

pub inside_even : (m n : ℕ) → m < 4294967296 → m % 2 ≡ 0 → ltb m (2 ^ n) ≡ within 1 n (members m)
inside_even m n h e = rw (within_is 1 n m (omega arith) h, eq-eqb (m % 2 ^ 1) 0 e)

pub dropped_in : (n m : ℕ) → m < 256 → m < 2 ^ n → Ok tt ≡ judged (check (ascending false 0 n) (members m))
dropped_in n m h l = list_in false 0 n m true true refl refl (sym (within_is 0 n m (omega arith) (omega arith) ∙ rw (eq-eqb (m % 2 ^ 0) 0 (omega arith)) (lt-ltb m (2 ^ n) l))) refl

pub dropped_out : (n m : ℕ) → m < 256 → 2 ^ n ≤ m → Err Reference ≡ judged (check (ascending false 0 n) (members m))
dropped_out n m h l = list_out false 0 n m true false refl refl (sym (within_is 0 n m (omega arith) (omega arith) ∙ rw (eq-eqb (m % 2 ^ 0) 0 (omega arith)) (le-ltb m (2 ^ n) l))) refl

pub dropped_all : (n m : ℕ) → m < 256 → 8 ≤ n → Ok tt ≡ judged (check (ascending false 0 n) (members m))
dropped_all n m h l = dropped_in n m h (lt_of_lt_of_le h (pow_mono l))
