-- What each call goes by: the number of what a check answers.
use Rattle.std.specs.Prelude.{ℕ, ◌≡◌, Result, Ok, Err}
use Rattle.std.proofs.Common.{◌∙◌, arith}
use Rattle.table.specs.declared.Table.{Table}
use Rattle.text.specs.declared.Fault.{Fault}
use Rattle.text.specs.Fault.{number}
use Rattle.text.specs.Structure.{table_fault}
use Rattle.text.specs.Writer.{fault}
use Rattle.text.proofs.FaultLaws.{number_range}
use Rattle.faults.specs.FaultLaws.{judged}
use Rattle.faults.specs.Checked.{number_of, check_number}

pub fault_number : (t : Table) {r : Result (Unit {0}) Fault} {f : Fault} {n : ℕ} → r ≡ judged (table_fault t) → r ≡ Err f → n ≡ number f → n ≡ fault t
fault_number t e x h = h ∙ (rw x at (check_number t e))

pub no_fault : (t : Table) {r : Result (Unit {0}) Fault} {u : Unit {0}} → r ≡ judged (table_fault t) → r ≡ Ok u → 0 ≡ fault t
no_fault t e x = rw x at (check_number t e)

pub not_zero : (f : Fault) {n : ℕ} → n ≡ number f → n ≡ 0 → ⊥
not_zero f h z = omega (arith, number_range f, h, z)
