use Rattle.std.proofs.lemmas.Result.{IfOk-from_err}
use Rattle.fields.specs.FieldLaws.{number_next, number_stop}
use Rattle.records.specs.LineLaws.{proc_sizes}
use Rattle.records.proofs.proc_line.Goals as goal

pub returns-in_err-a : goal.returns-in_err-a
returns-in_err-a c = record { is = number_stop c.in_err-a.ensures c.from_residual.ensures.1; fits = IfOk-from_err _ _ c.from_residual.ensures.0 }

pub returns-in_err-params : goal.returns-in_err-params
returns-in_err-params c = record { is = number_next c.in_ok-a.ensures (number_stop c.in_err-params.ensures c.from_residual-in_err-params.ensures.1); fits = IfOk-from_err _ _ c.from_residual-in_err-params.ensures.0 }

pub returns : goal.returns
returns c = proc_sizes c.in_ok-a.ensures c.in_ok-params.ensures c.proc_sizes.ensures
