use Rattle.std.proofs.Common.{rules}
use Rattle.words.specs.WordLaws.{op_stands}
use Rattle.words.proofs.operation_at.Goals as goal

pub returns-in-Some : goal.returns-in-Some
returns-in-Some c = search (rules, op_stands)
