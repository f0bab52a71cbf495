use Rattle.std.proofs.Common.{◌<◌, get_or-take, arith}
use Rattle.late_lines.specs.Walks.{failed, walked_more, walked_found, walked_all}
use Rattle.late_lines.proofs.nodes.Goals as goal

pub returns-in_err-l-clause-found : goal.returns-in_err-l-clause-found
returns-in_err-l-clause-found c = let l : c.loop-s.s-index < c.from.result = omega arith in failed (walked_found _ _ _ _ _ c.loop-s.invariant.1 (omega arith) (rw get_or-take at c.in_err-l.ensures.found)) c.from_residual.ensures.1

pub loop-s-preserved : goal.loop-s-preserved
loop-s-preserved c = let l : c.loop-s.s-index < c.from.result = omega arith in (omega (arith, c.in_ok-l.ensures.near), walked_more _ _ _ _ _ c.loop-s.invariant.1 (omega arith) (rw get_or-take at c.in_ok-l.ensures.found))

pub returns-clause-found : goal.returns-clause-found
returns-clause-found c = walked_all _ _ _ _ _ c.loop-s.invariant.1 (omega arith)
