-- One more read, behind the bytes so far.
use Rattle.std.proofs.Common.{rules, subst}
use Rattle.std.specs.Io.KnownBytes.{Consumes}
use Rattle.console.proofs.Filled.{consumes_more, read_behind}
use Rattle.console.proofs.fill.Goals as goal

pub loop-done-preserved : goal.loop-done-preserved
loop-done-preserved g c =
    let so_far = c.loop-done.invariant in
    let read = c.in-Ok.ensures in
    (search rules, search rules, subst (Consumes _ _) (read_behind c.loop-done.done c.in-Ok.n c.loop-done.buffer c.read.new.buf so_far.1 read.bound.0) (consumes_more _ _ _ _ _ so_far.2 read.bytes.0))
