-- A receive, not blocked: it goes on with the oldest entry, which is removed from the queue.
use Rattle.std.proofs.Common.{rules, arith, w32, SFits, ◌+◌, get_or, [], pos}
use Rattle.run_code.specs.Code.{byte}
use Rattle.run_step.specs.Standing.{name_here, goings_to}
use Rattle.run_step.specs.Arms.{recv_goes, recv_wide, recv_some, recv_did, recv_stop}
use Rattle.std.proofs.lemmas.Result.{err_from_is_err_and}
use Rattle.run_step.proofs.receive_step.Goals as goal

pub go_on-requires : goal.go_on-requires
go_on-requires c = goings_to c.requires.0 c.by_arc-o.result _ _ c.args.used c.requires.0.stands.within c.by_arc-o.ensures

pub pop-requires : goal.pop-requires
pop-requires c = let z = c.requires.0.stands in
    let g = recv_goes z c.args.most ((let i : SFits w32 (get_or (get_or c.args.cells.now (32 + byte (get_or c.args.code.now c.args.a []) 1) []) 0 (pos 0)) = search rules in i)) c.by_arc-o.ensures c.go_on.ensures in
    recv_wide z c.args.most g

pub overflow_sub-marks : goal.overflow_sub-marks
overflow_sub-marks c = let z = c.requires.0.stands in
    let g = recv_goes z c.args.most ((let i : SFits w32 (get_or (get_or c.args.cells.now (32 + byte (get_or c.args.code.now c.args.a []) 1) []) 0 (pos 0)) = search rules in i)) c.by_arc-o.ensures c.go_on.ensures in
    recv_some z c.args.most c.requires.1 g

pub bounds-marks-q : goal.bounds-marks-q
bounds-marks-q c = omega (arith, name_here c.requires.0.stands)

pub bounds-marks-q-2 : goal.bounds-marks-q-2
bounds-marks-q-2 c = omega (arith, name_here c.requires.0.stands)

pub bounds-cells-q : goal.bounds-cells-q
bounds-cells-q c = omega (arith, name_here c.requires.0.stands)

pub bounds-cells-q-2 : goal.bounds-cells-q-2
bounds-cells-q-2 c = omega (arith, name_here c.requires.0.stands)

pub returns-in_err-end : goal.returns-in_err-end
returns-in_err-end c =
    let p = err_from_is_err_and c.from_residual.result c.from_residual.ensures.1 in
    rw (p.1, p.2) (λ t s z.
    let g = recv_goes z c.args.most ((let i : SFits w32 (get_or (get_or c.args.cells.now (32 + byte (get_or c.args.code.now c.args.a []) 1) []) 0 (pos 0)) = search rules in i)) c.by_arc-o.ensures c.go_on.ensures in
    recv_stop z c.args.most c.requires.1 g _ c.in_err-end.was)

pub returns : goal.returns
returns c = λ t s z.
    let g = recv_goes z c.args.most ((let i : SFits w32 (get_or (get_or c.args.cells.now (32 + byte (get_or c.args.code.now c.args.a []) 1) []) 0 (pos 0)) = search rules in i)) c.by_arc-o.ensures c.go_on.ensures in
    rw c.pop.ensures (recv_did z c.args.most c.requires.1 g c.in_ok-end.end c.in_ok-end.was)
