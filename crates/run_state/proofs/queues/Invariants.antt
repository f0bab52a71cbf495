use Rattle.std.proofs.Common.{[]}
use Rattle.run_state.specs.Begins.{queue_of}
use Rattle.table.specs.Places.{Filled}
use Rattle.run_state.proofs.queues.Given as goal

abbrev pub invariant-loop-i : goal.invariant-loop-i
invariant-loop-i l = Filled (record { len = 0; items = [] }) 8 (queue_of l.marks l.cells) l.r l.i
