use Rattle.std.proofs.Common.{sym, below_more, arith}
use Rattle.table.specs.Table.{outside}
use Rattle.text.specs.Writer.{proc_empty}
use Rattle.unused.specs.UnusedLaws.{every_not, every_one}
use Rattle.unused.proofs.procs_empty.Goals as goal

pub returns-then-not-proc_empty : goal.returns-then-not-proc_empty
returns-then-not-proc_empty c = every_not proc_empty outside c.args.procs.now c.loop-q.q-index (omega arith) (sym c.if-not-proc_empty.ensures)

pub loop-q-preserved : goal.loop-q-preserved
loop-q-preserved c = below_more _ _ c.loop-q.invariant (sym c.if-not-proc_empty.ensures)

pub returns : goal.returns
returns c = every_one proc_empty outside c.args.procs.now c.loop-q.q-index c.loop-q.invariant (omega arith)
