-- `bufshani::run_checked` answers with a table's fault, or runs a table that has none.
use Rattle.std.proofs.Common.{sym}
use Rattle.bufshani.specs.RunLaws.{faulty_answer, faulty_log}
use Rattle.bufshani.specs.Check.{fault_number, no_fault, not_zero}
use Rattle.bufshani.proofs.run_checked.Goals as goal

pub returns-in-Err : goal.returns-in-Err
returns-in-Err c = record { answer = faulty_answer c.args.t _ _ _ _ c.number.result c.no_state-state.result (fault_number c.args.t c.requires c.in-Err.is c.number.ensures) (not_zero c.in-Err.f c.number.ensures) c.no_state-state.ensures; log = faulty_log c.args.t _ _ _ _ c.number.result (fault_number c.args.t c.requires c.in-Err.is c.number.ensures) (not_zero c.in-Err.f c.number.ensures) }

pub run_valid-requires : goal.run_valid-requires
run_valid-requires c = sym (no_fault c.args.t c.requires c.in_default.is)

pub returns : goal.returns
returns c = record { answer = c.run_valid.ensures.answer; log = c.run_valid.ensures.log }
