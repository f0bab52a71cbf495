use Rattle.std.proofs.Common.{take}
use Rattle.arguments.specs.FileLaws.{Turned}
use Rattle.arguments.proofs.file_word.Given as goal

abbrev pub invariant-loop-b : goal.invariant-loop-b
invariant-loop-b l = Turned (take l.last l.fn.file) l.b-items l.b-index
