use Rattle.std.proofs.Common.{◌∙◌, ap}
use Rattle.text.specs.declared.Reading.{Reading}
use Rattle.codes.specs.Code.{packed}
use Rattle.bufshani_c.proofs.bufshani_read.Goals as goal

pub returns : goal.returns
returns c = c.pack.ensures ∙ ap (λ (x : Reading). packed x.number x.line) c.read-r.ensures
