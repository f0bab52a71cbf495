use Rattle.std.proofs.Common.{refl, add-one}
use Rattle.checks.specs.Judging.{judged_then}
use Rattle.line_faults.specs.LineLaws.{proc_range}
use Rattle.line_faults.proofs.proc.Goals as goal

pub nodes-requires : goal.nodes-requires
nodes-requires c = (proc_range _ c.args.p _ (c.in_ok-proc_line.ensures c.args.p), refl)

pub returns : goal.returns
returns c = judged_then _ _ (c.in_ok-proc_line.ensures c.args.p) (rw (c.from.ensures, add-one) at c.nodes.ensures)
