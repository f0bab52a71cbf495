-- The number of what a check answers: 0 where there is no fault.
use Rattle.std.specs.Prelude.{ℕ, ◌≡◌, refl, Result, Ok, Err}
use Rattle.std.proofs.Common.{sym, ◌∙◌}
use Rattle.std.proofs.Math.Option.{Option, none, some}
use Rattle.table.specs.declared.Table.{Table}
use Rattle.text.specs.declared.Fault.{Fault}
use Rattle.text.specs.Fault.{number}
use Rattle.text.specs.Structure.{table_fault, numbered}
use Rattle.text.specs.Writer.{fault}
use Rattle.text.proofs.StructureLaws.{fault_is}
use Rattle.checks.specs.Judging.{judged}

abbrev pub number_of : Result (Unit {0}) Fault → ℕ
number_of (Ok u) = 0
number_of (Err f) = number f

number_judged : (o : Option Fault) → number_of (judged o) ≡ numbered o
number_judged none = refl
number_judged (some f) = refl

-- r is what `faults::fault` answers of a table
pub check_number : (t : Table) {r : Result (Unit {0}) Fault} → r ≡ judged (table_fault t) → number_of r ≡ fault t
check_number t e = rw e (number_judged (table_fault t)) ∙ sym (fault_is t)
