use Rattle.std.proofs.Common.{◌<◌, rules, arith}
use Rattle.std.proofs.lemmas.Result.{IfOk-from_err}
use Rattle.fields.specs.FieldLaws.{list_next, list_stop, feed_last, feed_stop}
use Rattle.records.specs.LineLaws.{head_drop, set_small}
use Rattle.records.proofs.closed_proc.Goals as goal

pub returns-in_err-drop : goal.returns-in_err-drop
returns-in_err-drop c = record { is = list_stop c.in_err-drop.ensures c.from_residual.ensures.1; fits = IfOk-from_err _ _ c.from_residual.ensures.0 }

pub returns-in_err-e : goal.returns-in_err-e
returns-in_err-e c = record { is = list_next c.in_ok-drop.ensures (λ x0 h0. feed_stop c.in_err-e.ensures c.from_residual-in_err-e.ensures.1); fits = IfOk-from_err _ _ c.from_residual-in_err-e.ensures.0 }

pub overflow_cast-head : goal.overflow_cast-head
overflow_cast-head c = let h : c.in_ok-drop.drop < 256 = set_small c.in_ok-drop.ensures (search rules) in omega arith

pub returns : goal.returns
returns c = record { is = list_next c.in_ok-drop.ensures (λ x0 h0. feed_last c.in_ok-e.ensures (head_drop h0)); fits = search rules }
