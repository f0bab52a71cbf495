use Rattle.std.proofs.Common.{rules}
use Rattle.arguments.specs.NumberLaws.{number_none, number_zero, number_one, number_more}
use Rattle.arguments.proofs.up_to.Goals as goal
use Rattle.arguments.proofs.up_to.Goals.{in_default-via-then-t-lt2, in_default-via-else-t-lt2+in_default-1}

pub returns-in-empty : goal.returns-in-empty
returns-in-empty c = search (rules, number_none)

pub returns-in-empty-2 : goal.returns-in-empty-2
returns-in-empty-2 c = search (rules, number_zero)

pub returns-in_default : goal.returns-in_default
returns-in_default c = elim c.in_default.branch [ in_default-via-then-t-lt2 w ↦ search (rules, number_one) | in_default-via-else-t-lt2+in_default-1 w ↦ search (rules, number_more) ]
