-- A call, not blocked: it opens a frame, with its arguments.
use Rattle.std.proofs.Common.{[], arith, ◌∙◌, ap, List, get_or, ℤ}
use Rattle.machine.specs.Step.{entering}
use Rattle.run_step.specs.Standing.{vars_here, rows_here, args_here}
use Rattle.run_step.specs.FrameLaws.{args_in, call_room, call_low, call_depth, call_did}
use Rattle.run_step.proofs.call_step.Goals as goal

pub entered-w-requires : goal.entered-w-requires
entered-w-requires c = let z = c.requires.0.standing.stands in (rows_here z, args_here z c.requires.1)

pub bounds-marks-f-2 : goal.bounds-marks-f-2
bounds-marks-f-2 c = let z = c.requires.0.standing.stands in omega (arith, call_low z 0 c.requires.1)

pub overflow_add-marks-3 : goal.overflow_add-marks-3
overflow_add-marks-3 c = let z = c.requires.0.standing.stands in omega (arith, call_depth z 0 c.requires.1, call_room z 0 c.requires.1)

pub returns : goal.returns
returns c = λ keep words vs most t s z.
    let row = get_or c.args.code.now c.args.a [] in
    call_did z most c.requires.1 c.entered-w.result (c.entered-w.ensures ∙ ap (λ (l : List ℤ). (entering l 0 (args_in row)).vars) (vars_here z))
