-- A part whose length is known.
use Rattle.std.proofs.Common.{rules}
use Rattle.parts.specs.PartLaws.{too_long, cut, whole}
use Rattle.parts.proofs.bytes.Goals as goal

pub returns-then-buffer-n : goal.returns-then-buffer-n
returns-then-buffer-n c = search (rules, too_long)

pub returns-then-len-n : goal.returns-then-len-n
returns-then-len-n c = search (rules, cut)

pub returns : goal.returns
returns c = search (rules, whole)
