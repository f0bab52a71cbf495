use Rattle.std.proofs.Common.{rules}
use Rattle.targets.specs.ListChecks.{list_in, list_out, list_misspelt}
use Rattle.targets.proofs.targets.Goals as goal

pub returns-then-not-listed : goal.returns-then-not-listed
returns-then-not-listed c = search (rules, list_misspelt)

pub returns-then-not-inside : goal.returns-then-not-inside
returns-then-not-inside c = search (rules, list_out)

pub returns : goal.returns
returns c = search (rules, list_in)
