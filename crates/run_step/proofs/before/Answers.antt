-- The task's node is asked by its row.
use Rattle.std.proofs.Common.{ap, refl, ◌∙◌}
use Rattle.run_step.specs.Steps.{row_in}
use Rattle.run_step.specs.BlockedLaws.{top_asks, row_asks}
use Rattle.run_step.proofs.before.Goals as goal

pub top-f-requires : goal.top-f-requires
top-f-requires c = top_asks c.requires

pub row_at-a-requires : goal.row_at-a-requires
row_at-a-requires c = row_asks c.requires c.top-f.result c.top-f.ensures

pub before_at-requires : goal.before_at-requires
before_at-requires c = (c.requires, (c.row_at-a.ensures ∙ ap (row_in c.args.marks.now) c.top-f.ensures, refl))
