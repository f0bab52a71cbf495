use Rattle.text.proofs.ShapeLaws.{shaped}
use Rattle.analysis.specs.ReadyLaws.{ready}
use Rattle.keeps.specs.Keeps.{all_kept, open_kept}
use Rattle.keeps.proofs.kept.Goals as goal

pub returns-then-t : goal.returns-then-t
returns-then-t c = all_kept c.args.t c.if-t.true

pub kept_masks-requires : goal.kept_masks-requires
kept_masks-requires c = ready c.args.t (shaped c.args.t (_, c.well_formed.0)) c.requires c.if-t.false

pub returns-else-t : goal.returns-else-t
returns-else-t c = open_kept c.args.t _ c.if-t.false c.kept_masks.ensures
