use Rattle.std.proofs.Common.{◌<◌, arith}
use Rattle.std.proofs.lemmas.Bool.{lt-leb}
use Rattle.late_nodes.specs.MaskLaws.{none_dropped}
use Rattle.late_nodes.specs.Steps.{dropped_is}
use Rattle.late_lines.proofs.all_dropped.Goals as goal

pub returns-then-params-le8 : goal.returns-then-params-le8
returns-then-params-le8 c = dropped_is c.args.params c.args.drop c.low.ensures c.power.ensures

pub returns-else-params-le8 : goal.returns-else-params-le8
returns-else-params-le8 c = let l : 8 < c.args.params = omega arith in rw (lt-leb c.args.params 8 l) (none_dropped c.args.params c.args.drop (omega arith) l)
