use Rattle.std.proofs.Common.{◌≡◌, ◌<◌, length, take, get_or-take, length-take-le, arith, rules}
use Rattle.late_lines.specs.Walks.{failed, walked_more, walked_found, walked_all}
use Rattle.late_lines.specs.Steps.{values_long}
use Rattle.late_lines.proofs.tasks.Goals as goal

pub returns-in_err-line-clause-found : goal.returns-in_err-line-clause-found
returns-in_err-line-clause-found c =
    let k : length c.args.task ≡ 4 = search (rules, values_long) in
    let e : length (take c.from.result c.args.task) ≡ c.from.result = length-take-le _ _ (omega arith) in
    let l : c.loop-x.x-index < c.from.result = omega arith in
    failed (walked_found _ _ _ _ _ c.loop-x.invariant.1 (omega arith) (rw get_or-take at c.in_err-line.ensures.found)) c.from_residual.ensures.1

pub loop-x-preserved : goal.loop-x-preserved
loop-x-preserved c =
    let k : length c.args.task ≡ 4 = search (rules, values_long) in
    let e : length (take c.from.result c.args.task) ≡ c.from.result = length-take-le _ _ (omega arith) in
    let l : c.loop-x.x-index < c.from.result = omega arith in
    (omega (arith, c.in_ok-line.ensures.near), walked_more _ _ _ _ _ c.loop-x.invariant.1 (omega arith) (rw get_or-take at c.in_ok-line.ensures.found))

pub returns-clause-found : goal.returns-clause-found
returns-clause-found c =
    let k : length c.args.task ≡ 4 = search (rules, values_long) in
    let e : length (take c.from.result c.args.task) ≡ c.from.result = length-take-le _ _ (omega arith) in
    walked_all _ _ _ _ _ c.loop-x.invariant.1 (omega arith)
