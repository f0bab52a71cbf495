use Rattle.std.proofs.Common.{rules}
use Rattle.words.specs.WordLaws.{two_told}
use Rattle.words.proofs.quick_comparison.Goals as goal

pub returns-then-w-quad_of : goal.returns-then-w-quad_of
returns-then-w-quad_of c = search (rules, two_told)

pub returns-then-w-quad_of-2 : goal.returns-then-w-quad_of-2
returns-then-w-quad_of-2 c = search (rules, two_told)
