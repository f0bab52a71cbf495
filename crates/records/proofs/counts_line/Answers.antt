use Rattle.std.proofs.lemmas.Result.{IfOk-from_err}
use Rattle.fields.specs.FieldLaws.{number_next, number_stop}
use Rattle.records.proofs.counts_line.Goals as goal

pub returns-in_err-tasks : goal.returns-in_err-tasks
returns-in_err-tasks c = record { is = number_stop c.in_err-tasks.ensures c.from_residual.ensures.1; fit = IfOk-from_err _ _ c.from_residual.ensures.0 }

pub returns-in_err-procs : goal.returns-in_err-procs
returns-in_err-procs c = record { is = number_next c.in_ok-tasks.ensures (number_stop c.in_err-procs.ensures c.from_residual-in_err-procs.ensures.1); fit = IfOk-from_err _ _ c.from_residual-in_err-procs.ensures.0 }

pub returns : goal.returns
returns c = record { is = number_next c.in_ok-tasks.ensures (number_next c.in_ok-procs.ensures (c.last_counts.ensures.is)); fit = c.last_counts.ensures.fit }
