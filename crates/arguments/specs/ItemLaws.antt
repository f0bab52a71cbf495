-- Laws of one item: a number up to a bound, a value.
use Rattle.std.specs.Prelude.{ℕ, ◌≤◌, ◌≡◌, refl, List, [], leb, drop, None, Some, ℤ}
use Rattle.std.proofs.Common.{arith, leb-true}
use Rattle.std.specs.Prelude.{Option as Heard}
use Rattle.std.proofs.Math.Option.{Option, none, some}
use Rattle.table.specs.Cases.{cases}
use Rattle.table.specs.declared.Operand.{Operand}
use Rattle.table.specs.declared.Operand.TheVariants.{Var, Const}
use Rattle.text.specs.declared.Fault.{Fault}
use Rattle.text.specs.Value.{operand, numeral, said_operand, operand_fault, check}
use Rattle.text.specs.Line.{took, refused, verdict, judged}
use Rattle.operands.specs.Answer.{OperandJudged}
use Rattle.scan.specs.Place.{Answer as Answered}
use Rattle.std.specs.Prelude.{Ok, Err}
use Rattle.machine.specs.Words.{filtered, said_up_to}
use Rattle.machine.specs.Program.{fitting, as_value, said_value}
use Rattle.arguments.specs.Answers.{answer_of}

-- ---- what a word says, from the code's option
pub heard_some : {A : Type 0} (o : Option A) {k : A} → Some k ≡ answer_of o → o ≡ some k
heard_some none e = absurd (let z : ◌≡◌ {A = ℕ} 0 1 = cc in omega arith)
heard_some (some n) e = cc

pub heard_none : {A : Type 0} (o : Option A) → None ≡ answer_of o → o ≡ none
heard_none none e = refl
heard_none (some n) e = absurd (let z : ◌≡◌ {A = ℕ} 0 1 = cc in omega arith)

-- ---- a number
filtered_small : (m : ℕ) (o : Option ℕ) {k : ℕ} → filtered (λ n. leb n m) o ≡ some k → k ≤ m
filtered_small m none e = absurd (let z : ◌≡◌ {A = ℕ} 0 1 = cc in omega arith)
filtered_small m (some n) {k} e =
    cases (leb n m)
    (λ h. let q : some n ≡ some k = rw h at e in let p : n ≡ k = cc in rw (← p) (leb-true n m h))
    (λ h. absurd (let q : none ≡ some k = rw h at e in let z : ◌≡◌ {A = ℕ} 0 1 = cc in omega arith))

pub number_small : {m k : ℕ} (t : List ℕ) → said_up_to m t ≡ some k → k ≤ m
unfolding said_up_to
number_small {m} t e = filtered_small m (numeral t) e

-- ---- a value
refuses : (o : Option Operand) {f : Fault} {l : ℕ} (s : List ℕ) → refused f l ≡ judged (operand 0) o l s → None ≡ answer_of (as_value o)
unfolding check
refuses none s e = refl
refuses (some (Var v)) s e = refl
refuses (some (Const z)) {f} {l} s e = go (operand_fault 0 (Const z)) e
  where
    go : (u : Option Fault) → refused f l ≡ verdict (Const z) u l s → None ≡ answer_of (fitting z u)
    go none q = absurd (let z : ◌≡◌ {A = ℕ} 0 1 = cc in omega arith)
    go (some g) q = refl

takes : (o : Option Operand) {y : ℤ} {l : ℕ} {r : List ℕ} (s : List ℕ) → took (Const y) l r ≡ judged (operand 0) o l s → Some y ≡ answer_of (as_value o)
unfolding check
takes none s e = absurd (let z : ◌≡◌ {A = ℕ} 0 1 = cc in omega arith)
takes (some (Var v)) {y} {l} {r} s e = go (operand_fault 0 (Var v)) e
  where
    go : (u : Option Fault) → took (Const y) l r ≡ verdict (Var v) u l s → ◌≡◌ {A = Heard ℤ} (Some y) None
    go none q = absurd (let z : ◌≡◌ {A = ℕ} 0 1 = cc in omega arith)
    go (some g) q = absurd (let z : ◌≡◌ {A = ℕ} 0 1 = cc in omega arith)
takes (some (Const z)) {y} {l} {r} s e = go (operand_fault 0 (Const z)) e
  where
    go : (u : Option Fault) → took (Const y) l r ≡ verdict (Const z) u l s → Some y ≡ answer_of (fitting z u)
    go none q = cc
    go (some g) q = absurd (let z : ◌≡◌ {A = ℕ} 0 1 = cc in omega arith)

module _ (t : List ℕ) {e : ℕ} {r : Answered Operand} (d : OperandJudged 0 (said_operand t) e r) where
  pub signed_not : {f : Fault} → r ≡ Err f → None ≡ answer_of (said_value t)
  unfolding said_value
  signed_not q = refuses (said_operand t) (drop e []) (rw q at (d.same 0 []))

  pub signed_variable : {o : Operand} {v p : ℕ} → r ≡ Ok (o, p) → o ≡ Var v → None ≡ answer_of (said_value t)
  signed_variable q g = absurd (let u = rw (q, g) at d.ends in omega arith)

  pub signed_is : {o : Operand} {z : ℤ} {p : ℕ} → r ≡ Ok (o, p) → o ≡ Const z → Some z ≡ answer_of (said_value t)
  unfolding said_value
  signed_is q g = takes (said_operand t) (drop e []) (rw (q, g) at (d.same 0 []))
