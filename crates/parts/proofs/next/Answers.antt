-- The part whose length the five digits say.
use Rattle.std.proofs.Common.{rules}
use Rattle.parts.specs.PartLaws.{next_is}
use Rattle.parts.proofs.next.Goals as goal

pub returns : goal.returns
returns c = search (rules, next_is)
