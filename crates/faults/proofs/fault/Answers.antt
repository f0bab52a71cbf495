use Rattle.faults.specs.Checked.{check_number}
use Rattle.faults.specs.FaultLaws.{lines_found, counted_of, ranged_of, late_fault, unused_fault}
use Rattle.faults.proofs.fault.Goals as goal

pub returns-in_err-lines : goal.returns-in_err-lines
returns-in_err-lines c = let e = lines_found _ c.in_err-lines.ensures c.from_residual.ensures.1 in record { found = e; number = check_number _ e }

pub find-requires : goal.find-requires
find-requires c = counted_of _ c.in_ok-lines.ensures

pub unused-requires : goal.unused-requires
unused-requires c = ranged_of _ c.in_ok-lines.ensures

pub returns-in-Err : goal.returns-in-Err
returns-in-Err c = let e = late_fault _ c.in_ok-lines.ensures c.in-Err.ensures in record { found = e; number = check_number _ e }

pub returns : goal.returns
returns c = let e = unused_fault _ c.in_ok-lines.ensures c.in_default.ensures c.unused.ensures in record { found = e; number = check_number _ e }
