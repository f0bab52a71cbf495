-- A return, not blocked: the frame below goes on, and the topmost is closed.
use Rattle.std.proofs.Common.{arith}
use Rattle.run_step.specs.FrameLaws.{return_deep, return_next, going_back, return_depth, return_did, return_stop}
use Rattle.std.proofs.lemmas.Result.{err_from_is_err_and}
use Rattle.run_step.proofs.return_step.Goals as goal

pub overflow_sub-f : goal.overflow_sub-f
overflow_sub-f c = return_next c.requires.0.stands c.args.most c.requires.1

pub go_back-requires : goal.go_back-requires
go_back-requires c = record { t = c.requires.0.t; s = c.requires.0.s; going = going_back c.requires.0.stands c.args.most c.requires.1 }

pub overflow_sub-marks : goal.overflow_sub-marks
overflow_sub-marks c = let z = c.requires.0.stands in let t = c.requires.0.t in let s = c.requires.0.s in
    let g = c.go_back.ensures t s (going_back z c.args.most c.requires.1) in
    omega (arith, return_depth z c.args.most c.requires.1 g, return_deep z c.args.most c.requires.1)

pub returns-in_err-end : goal.returns-in_err-end
returns-in_err-end c =
    let p = err_from_is_err_and c.from_residual.result c.from_residual.ensures.1 in
    rw (p.1, p.2) (λ t s z.
    let g = c.go_back.ensures t s (going_back z c.args.most c.requires.1) in
    return_stop z c.args.most c.requires.1 g _ c.in_err-end.was)

pub returns : goal.returns
returns c = λ t s z.
    let g = c.go_back.ensures t s (going_back z c.args.most c.requires.1) in
    return_did z c.args.most c.requires.1 g c.in_ok-end.end c.in_ok-end.was
