use Rattle.std.proofs.Common.{sym, arith}
use Rattle.late_nodes.specs.Steps.{unclosed_is}
use Rattle.late_nodes.specs.MaskLaws.{in_is}
use Rattle.late_nodes.proofs.arc.Goals as goal

pub returns : goal.returns
returns c = unclosed_is _ _ (sym (in_is c.args.present c.args.to (omega arith))) c.unclosed.ensures
