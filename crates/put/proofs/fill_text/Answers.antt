-- The loop's invariant: the bytes passed stand at their place.
use Rattle.std.proofs.Common.{rules}
use Rattle.put.specs.PutLaws.{copying_turn}
use Rattle.put.proofs.fill_text.Goals as goal

pub loop-i-preserved : goal.loop-i-preserved
loop-i-preserved c = search (rules, copying_turn)
