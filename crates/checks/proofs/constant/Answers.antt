use Rattle.checks.specs.ValueChecks.{constant_in}
use Rattle.checks.proofs.constant.Goals as goal

pub returns : goal.returns
returns c = constant_in c.args.z c.ranges.z
