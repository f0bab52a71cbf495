use Rattle.std.proofs.Common.{[]}
use Rattle.run_state.specs.Begins.{frame_of}
use Rattle.table.specs.Places.{Filled}
use Rattle.run_state.proofs.frames.Given as goal

abbrev pub invariant-loop-i : goal.invariant-loop-i
invariant-loop-i l = Filled (record { proc = 0; node = 0; vars = [] }) 32 (frame_of l.marks l.cells) l.r l.i
