-- `arguments::file_word` turns each LF but a last one into a comma.
use Rattle.std.proofs.Common.{arith}
use Rattle.arguments.specs.FileLaws.{file_empty, turned_next, file_fed, file_unfed}
use Rattle.arguments.proofs.file_word.Goals as goal

pub returns-then-n-eq0 : goal.returns-then-n-eq0
returns-then-n-eq0 c = file_empty _ c.if-n-eq0.true

pub loop-b-preserved : goal.loop-b-preserved
loop-b-preserved c = turned_next c.loop-b.invariant (omega (arith, c.loop-b.auto.b-items)) c.separator.ensures

pub returns-then-file-last-eq10 : goal.returns-then-file-last-eq10
returns-then-file-last-eq10 c = file_fed _ _ _ (omega arith) c.loop-b.invariant c.loop-b-test.false c.if-file-last-eq10.true

pub returns-else-file-last-eq10 : goal.returns-else-file-last-eq10
returns-else-file-last-eq10 c = file_unfed _ _ _ (omega arith) c.loop-b.invariant c.loop-b-test.false c.if-file-last-eq10.false
