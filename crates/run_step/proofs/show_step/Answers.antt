-- An assertion or an output: it goes on, and the log shows its variable.
use Rattle.std.proofs.Common.{w32, [], ◌∙◌, ap, List, get_or, ℤ, pos, to_z-of_z}
use Rattle.table.specs.Table.{removed}
use Rattle.machine.specs.State.{var_at}
use Rattle.run_code.specs.Code.{byte}
use Rattle.run_step.specs.Standing.{vars_here, rows_here, goings_to, goes_to_lem}
use Rattle.run_step.specs.Arms.{show_stop, hidden_did, shown_did}
use Rattle.std.proofs.lemmas.Result.{err_from_is_err_and}
use Rattle.run_step.proofs.show_step.Goals as goal

pub shown_at-x-requires : goal.shown_at-x-requires
shown_at-x-requires c = rows_here c.requires.0.stands

pub go_on-requires : goal.go_on-requires
go_on-requires c = goings_to c.requires.0 c.by_arc-o.result removed (pos 0) c.args.used c.requires.0.stands.within c.by_arc-o.ensures

pub returns-in_err-end : goal.returns-in_err-end
returns-in_err-end c =
    let p = err_from_is_err_and c.from_residual.result c.from_residual.ensures.1 in
    rw (p.1, p.2) (λ t s z.
    let g = goes_to_lem z c.args.most c.go_on.ensures removed (pos 0) c.args.used z.within c.by_arc-o.ensures in
    show_stop z c.args.most c.requires.1 g _ c.in_err-end.was)

pub returns-then-v : goal.returns-then-v
returns-then-v c = λ t s z.
    let g = goes_to_lem z c.args.most c.go_on.ensures removed (pos 0) c.args.used z.within c.by_arc-o.ensures in
    hidden_did z c.args.most c.requires.1 g c.in_ok-end.end c.in_ok-end.was c.if-v.true

pub returns : goal.returns
returns c = λ t s z.
    let g = goes_to_lem z c.args.most c.go_on.ensures removed (pos 0) c.args.used z.within c.by_arc-o.ensures in
    let x = c.shown_at-x.ensures ∙ ap (λ (l : List ℤ). var_at l (byte (get_or c.args.code.now c.args.a []) 2)) (vars_here z) in
    (shown_did z c.args.most c.requires.1 g c.in_ok-end.end c.in_ok-end.was _ (to_z-of_z {w = w32} (record { sfits = c.shown_at-x.type_inv }) ∙ x) c.if-v.false)
