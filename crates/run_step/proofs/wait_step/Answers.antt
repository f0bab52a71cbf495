-- A wait, not blocked: it goes on, and its semaphore is one less.
use Rattle.std.proofs.Common.{arith, pos}
use Rattle.table.specs.Table.{removed}
use Rattle.run_step.specs.Standing.{name_here, goings_to, goes_to_lem}
use Rattle.run_step.specs.Arms.{wait_some, wait_did, wait_stop}
use Rattle.std.proofs.lemmas.Result.{err_from_is_err_and}
use Rattle.run_step.proofs.wait_step.Goals as goal

pub go_on-requires : goal.go_on-requires
go_on-requires c = goings_to c.requires.0 c.by_arc-o.result removed (pos 0) c.args.used c.requires.0.stands.within c.by_arc-o.ensures

pub overflow_sub-marks : goal.overflow_sub-marks
overflow_sub-marks c = let z = c.requires.0.stands in
    let g = goes_to_lem z c.args.most c.go_on.ensures removed (pos 0) c.args.used z.within c.by_arc-o.ensures in
    wait_some z c.args.most c.requires.1 g

pub bounds-marks-q : goal.bounds-marks-q
bounds-marks-q c = omega (arith, name_here c.requires.0.stands)

pub bounds-marks-q-2 : goal.bounds-marks-q-2
bounds-marks-q-2 c = omega (arith, name_here c.requires.0.stands)

pub returns-in_err-end : goal.returns-in_err-end
returns-in_err-end c =
    let p = err_from_is_err_and c.from_residual.result c.from_residual.ensures.1 in
    rw (p.1, p.2) (λ t s z.
    let g = goes_to_lem z c.args.most c.go_on.ensures removed (pos 0) c.args.used z.within c.by_arc-o.ensures in
    wait_stop z c.args.most c.requires.1 g _ c.in_err-end.was)

pub returns : goal.returns
returns c = λ t s z.
    let g = goes_to_lem z c.args.most c.go_on.ensures removed (pos 0) c.args.used z.within c.by_arc-o.ensures in
    (wait_did z c.args.most c.requires.1 g c.in_ok-end.end c.in_ok-end.was)
