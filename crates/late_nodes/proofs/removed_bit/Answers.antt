use Rattle.std.proofs.Common.{rules}
use Rattle.late_nodes.specs.Steps.{small_power}
use Rattle.late_nodes.proofs.removed_bit.Goals as goal

pub returns-then-removed_at-clause-small : goal.returns-then-removed_at-clause-small
returns-then-removed_at-clause-small c = search (rules, small_power)
