-- The key, the number, then an LF.
use Rattle.put.specs.PutLaws.{field_then}
use Rattle.reasons.proofs.put_written.Goals as goal

pub returns : goal.returns
returns c = field_then c.put_size-a.ensures c.put_byte.ensures
