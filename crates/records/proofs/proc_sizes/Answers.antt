use Rattle.std.proofs.lemmas.Result.{IfOk-from_err}
use Rattle.fields.specs.FieldLaws.{number_next, number_stop}
use Rattle.records.specs.LineLaws.{sizes_form}
use Rattle.records.proofs.proc_sizes.Goals as goal

pub returns-in_err-vars : goal.returns-in_err-vars
returns-in_err-vars c = record { is = number_stop c.in_err-vars.ensures c.from_residual.ensures.1; fits = IfOk-from_err _ _ c.from_residual.ensures.0 }

pub returns-in_err-nodes : goal.returns-in_err-nodes
returns-in_err-nodes c = record { is = number_next c.in_ok-vars.ensures (number_stop c.in_err-nodes.ensures c.from_residual-in_err-nodes.ensures.1); fits = IfOk-from_err _ _ c.from_residual-in_err-nodes.ensures.0 }

pub returns-then-closed : goal.returns-then-closed
returns-then-closed c = sizes_form c.if-closed.true (record { is = number_next c.in_ok-vars.ensures (number_next c.in_ok-nodes.ensures (c.closed_proc.ensures.is)); fits = c.closed_proc.ensures.fits })

pub returns : goal.returns
returns c = sizes_form c.if-closed.false (record { is = number_next c.in_ok-vars.ensures (number_next c.in_ok-nodes.ensures (c.open_proc.ensures.is)); fits = c.open_proc.ensures.fits })
