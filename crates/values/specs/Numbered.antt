-- The operations of nodes by numbers, as a decoded row has them.
use Rattle.std.specs.Prelude.{◌≡◌, ℕ, zero, suc, List, [], ◌∷◌, ◌≤◌, slice_index_or, refl}
use Rattle.std.proofs.Common.{arith}
use Rattle.table.specs.declared.Op.{Op}
use Rattle.table.specs.declared.Op.TheVariants.{Add, Sub, And, Or, Xor, Shr, Lt, Eq}

abbrev operations : List Op
operations = Add ∷ Sub ∷ And ∷ Or ∷ Xor ∷ Shr ∷ Lt ∷ Eq ∷ []

-- the operation that a number stands for
unfoldable pub operation : ℕ → Op
operation n = slice_index_or operations n Eq

unfoldable pub op_number : Op → ℕ
op_number Add = 0
op_number Sub = 1
op_number And = 2
op_number Or = 3
op_number Xor = 4
op_number Shr = 5
op_number Lt = 6
op_number Eq = 7

pub operation_of : (o : Op) → operation (op_number o) ≡ o
unfolding operation op_number
operation_of Add = refl
operation_of Sub = refl
operation_of And = refl
operation_of Or = refl
operation_of Xor = refl
operation_of Shr = refl
operation_of Lt = refl
operation_of Eq = refl

pub operation_last : (n : ℕ) → 7 ≤ n → operation n ≡ Eq
unfolding operation
operation_last zero h = absurd (omega arith)
operation_last (suc zero) h = absurd (omega arith)
operation_last (suc (suc zero)) h = absurd (omega arith)
operation_last (suc (suc (suc zero))) h = absurd (omega arith)
operation_last (suc (suc (suc (suc zero)))) h = absurd (omega arith)
operation_last (suc (suc (suc (suc (suc zero))))) h = absurd (omega arith)
operation_last (suc (suc (suc (suc (suc (suc zero)))))) h = absurd (omega arith)
operation_last (suc (suc (suc (suc (suc (suc (suc zero))))))) h = refl
operation_last (suc (suc (suc (suc (suc (suc (suc (suc n)))))))) h = refl
