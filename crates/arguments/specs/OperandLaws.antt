-- What bytes say as an operand, from what their digits say.
use Rattle.std.specs.Prelude.{ℕ, suc, ◌-◌, ◌≤◌, ◌<◌, ◌≡◌, refl, List, [], ◌∷◌, length, take, drop, get_or}
use Rattle.std.proofs.Common.{arith, take_all, ne_eqb}
use Rattle.table.specs.declared.Operand.{Operand}
use Rattle.text.specs.declared.Fault.TheVariants.{Misspelt}
use Rattle.text.specs.Value.{numeral, as_var, as_const, as_negative, said_operand, unsaid}
use Rattle.digits.specs.Read.{number_of}
use Rattle.digits.specs.NumeralLaws.{numeral_bad}
use Rattle.operands.specs.Answer.{OperandJudged}
use Rattle.scan.specs.Place.{Answer as Answered}
use Rattle.std.specs.Prelude.{Option as Maybe, None, Err}

module _ (t : List ℕ) (n e : ℕ) {w : Maybe ℕ} (d : w ≡ number_of t) (h : w ≡ None) where
  pub var_bad : OperandJudged n (as_var (numeral t)) e (Err Misspelt)
  unfolding unsaid
  var_bad = record { same = λ l s. rw (numeral_bad t d h); ends = tt }

  pub const_bad : OperandJudged n (as_const (numeral t)) e (Err Misspelt)
  unfolding unsaid
  const_bad = record { same = λ l s. rw (numeral_bad t d h); ends = tt }

  pub neg_bad : OperandJudged n (as_negative (numeral t)) e (Err Misspelt)
  unfolding unsaid
  neg_bad = record { same = λ l s. rw (numeral_bad t d h); ends = tt }

pub operand_none : (t : List ℕ) (n e : ℕ) → length t < 1 → OperandJudged n (said_operand t) e (Err Misspelt)
unfolding said_operand unsaid
operand_none [] n e h = record { same = λ l s. refl; ends = tt }
operand_none (b ∷ t) n e h = absurd (omega arith)

whole : (t : List ℕ) → take (suc (length t) - 1) t ≡ t
whole t = take_all (suc (length t) - 1) t (omega arith)

pub operand_var : (t : List ℕ) {n e : ℕ} {r : Answered Operand} → 1 ≤ length t → get_or t 0 0 ≡ 118
    → OperandJudged n (as_var (numeral (take (length t - 1) (drop 1 t)))) e r → OperandJudged n (said_operand t) e r
unfolding said_operand
operand_var [] h p j = absurd (omega arith)
operand_var (b ∷ t) h p j = rw p (rw (whole t) at j)

pub operand_negative : (t : List ℕ) {n e : ℕ} {r : Answered Operand} → 1 ≤ length t → (get_or t 0 0 ≡ 118 → ⊥) → get_or t 0 0 ≡ 45
    → OperandJudged n (as_negative (numeral (take (length t - 1) (drop 1 t)))) e r → OperandJudged n (said_operand t) e r
unfolding said_operand
operand_negative [] h k p j = absurd (omega arith)
operand_negative (b ∷ t) h k p j = rw p (rw (whole t) at j)

pub operand_const : (t : List ℕ) {n e : ℕ} {r : Answered Operand} → 1 ≤ length t → (get_or t 0 0 ≡ 118 → ⊥) → (get_or t 0 0 ≡ 45 → ⊥)
    → OperandJudged n (as_const (numeral t)) e r → OperandJudged n (said_operand t) e r
unfolding said_operand
operand_const [] h k p j = absurd (omega arith)
operand_const (b ∷ t) h k p j = rw (ne_eqb b 118 k, ne_eqb b 45 p) j
