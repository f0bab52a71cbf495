use Rattle.std.proofs.Common.{sym, below_more, arith}
use Rattle.table.specs.Table.{outside}
use Rattle.text.specs.Writer.{proc_tidy}
use Rattle.unused.specs.UnusedLaws.{every_not, every_one}
use Rattle.unused.proofs.procs_tidy.Goals as goal

pub returns-then-not-proc_tidy : goal.returns-then-not-proc_tidy
returns-then-not-proc_tidy c = every_not (proc_tidy c.args.closed) outside c.args.procs.now c.loop-q.q-index (omega arith) (sym c.if-not-proc_tidy.ensures)

pub loop-q-preserved : goal.loop-q-preserved
loop-q-preserved c = below_more _ _ c.loop-q.invariant (sym c.if-not-proc_tidy.ensures)

pub returns : goal.returns
returns c = every_one (proc_tidy c.args.closed) outside c.args.procs.now c.loop-q.q-index c.loop-q.invariant (omega arith)
