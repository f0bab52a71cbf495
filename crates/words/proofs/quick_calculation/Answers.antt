use Rattle.std.proofs.Common.{rules}
use Rattle.words.specs.WordLaws.{three_told}
use Rattle.words.proofs.quick_calculation.Goals as goal

pub returns-then-w-quad_of : goal.returns-then-w-quad_of
returns-then-w-quad_of c = search (rules, three_told)

pub returns-then-w-quad_of-2 : goal.returns-then-w-quad_of-2
returns-then-w-quad_of-2 c = search (rules, three_told)

pub returns-then-w-quad_of-3 : goal.returns-then-w-quad_of-3
returns-then-w-quad_of-3 c = search (rules, three_told)

pub returns-then-w-quad_of-4 : goal.returns-then-w-quad_of-4
returns-then-w-quad_of-4 c = search (rules, three_told)

pub returns-then-w-quad_of-5 : goal.returns-then-w-quad_of-5
returns-then-w-quad_of-5 c = search (rules, three_told)
