-- A send, not blocked: it goes on, and its variable is appended to the queue.
use Rattle.std.proofs.Common.{w32, [], arith, ◌∙◌, ap, List, get_or, ℤ, pos, to_z-of_z}
use Rattle.table.specs.Table.{removed}
use Rattle.machine.specs.State.{var_at}
use Rattle.run_code.specs.Code.{byte}
use Rattle.run_step.specs.Standing.{vars_here, rows_here, name_here, goings_to, goes_to_lem}
use Rattle.run_step.specs.Arms.{send_wide, send_room, send_did, send_stop}
use Rattle.std.proofs.lemmas.Result.{err_from_is_err_and}
use Rattle.run_step.proofs.send_step.Goals as goal

pub go_on-requires : goal.go_on-requires
go_on-requires c = goings_to c.requires.0 c.by_arc-o.result removed (pos 0) c.args.used c.requires.0.stands.within c.by_arc-o.ensures

pub shown_at-x-requires : goal.shown_at-x-requires
shown_at-x-requires c = rows_here c.requires.0.stands

pub push-requires : goal.push-requires
push-requires c = let z = c.requires.0.stands in
    let g = goes_to_lem z c.args.most c.go_on.ensures removed (pos 0) c.args.used z.within c.by_arc-o.ensures in
    send_wide z c.args.most g

pub overflow_add-marks : goal.overflow_add-marks
overflow_add-marks c = let z = c.requires.0.stands in
    let g = goes_to_lem z c.args.most c.go_on.ensures removed (pos 0) c.args.used z.within c.by_arc-o.ensures in
    omega (arith, send_room z c.args.most c.requires.1 g)

pub bounds-marks-q : goal.bounds-marks-q
bounds-marks-q c = omega (arith, name_here c.requires.0.stands)

pub bounds-marks-q-2 : goal.bounds-marks-q-2
bounds-marks-q-2 c = omega (arith, name_here c.requires.0.stands)

pub bounds-cells-q : goal.bounds-cells-q
bounds-cells-q c = omega (arith, name_here c.requires.0.stands)

pub returns-in_err-end : goal.returns-in_err-end
returns-in_err-end c =
    let p = err_from_is_err_and c.from_residual.result c.from_residual.ensures.1 in
    rw (p.1, p.2) (λ t s z.
    let g = goes_to_lem z c.args.most c.go_on.ensures removed (pos 0) c.args.used z.within c.by_arc-o.ensures in
    send_stop z c.args.most c.requires.1 g _ c.in_err-end.was)

pub returns : goal.returns
returns c = λ t s z.
    let g = goes_to_lem z c.args.most c.go_on.ensures removed (pos 0) c.args.used z.within c.by_arc-o.ensures in
    let x = c.shown_at-x.ensures ∙ ap (λ (l : List ℤ). var_at l (byte (get_or c.args.code.now c.args.a []) 2)) (vars_here z) in
    rw c.push.ensures (send_did z c.args.most c.requires.1 g c.in_ok-end.end c.in_ok-end.was _ (to_z-of_z {w = w32} (record { sfits = c.shown_at-x.type_inv }) ∙ x))
