use Rattle.std.proofs.Common.{rules}
use Rattle.checks.specs.ValueChecks.{arguments_misspelt, arguments_in, arguments_out}
use Rattle.checks.proofs.arguments.Goals as goal

pub returns-then-misspelt : goal.returns-then-misspelt
returns-then-misspelt c = search (rules, arguments_misspelt)

pub returns-then-not-all_declared : goal.returns-then-not-all_declared
returns-then-not-all_declared c = search (rules, arguments_out)

pub returns : goal.returns
returns c = search (rules, arguments_in)
