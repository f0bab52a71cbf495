use Rattle.std.proofs.Common.{rules}
use Rattle.words.specs.WordLaws.{kind_stands}
use Rattle.words.proofs.kind_at.Goals as goal

pub returns-in-Some : goal.returns-in-Some
returns-in-Some c = search (rules, kind_stands)
