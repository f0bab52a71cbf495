use Rattle.std.proofs.Common.{rules}
use Rattle.scan.specs.PlaceLaws.{quad_same, quad_differs}
use Rattle.scan.proofs.after_quad.Goals as goal

pub returns-then-quad-quad_of : goal.returns-then-quad-quad_of
returns-then-quad-quad_of c = search (rules, quad_same)

pub returns-else-quad-quad_of : goal.returns-else-quad-quad_of
returns-else-quad-quad_of c = search (rules, quad_differs)
