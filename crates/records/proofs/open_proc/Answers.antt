use Rattle.std.proofs.Common.{refl, rules}
use Rattle.std.proofs.lemmas.Result.{IfOk-from_err}
use Rattle.fields.specs.FieldLaws.{feed_last, feed_stop}
use Rattle.records.proofs.open_proc.Goals as goal

pub returns-in_err-e : goal.returns-in_err-e
returns-in_err-e c = record { is = feed_stop c.in_err-e.ensures c.from_residual.ensures.1; fits = IfOk-from_err _ _ c.from_residual.ensures.0 }

pub returns : goal.returns
returns c = record { is = feed_last c.in_ok-e.ensures refl; fits = search rules }
