-- The task's node is asked by its row.
use Rattle.std.proofs.Common.{ap, refl, ◌∙◌}
use Rattle.run_step.specs.Steps.{row_in}
use Rattle.run_step.specs.BlockedLaws.{top_asks, row_asks, row_here, stuck_is}
use Rattle.run_step.proofs.blocked.Goals as goal

pub top-f-requires : goal.top-f-requires
top-f-requires c = top_asks c.requires

pub row_at-a-requires : goal.row_at-a-requires
row_at-a-requires c = row_asks c.requires c.top-f.result c.top-f.ensures

pub blocked_at-requires : goal.blocked_at-requires
blocked_at-requires c = let a = c.args in
    let p = c.requires in
    row_here p.t p.s p.keep a.code.now a.marks.now p.marked a.i p.task c.row_at-a.result (c.row_at-a.ensures ∙ ap (row_in a.marks.now) c.top-f.ensures)

pub returns : goal.returns
returns c = let a = c.args in
    let r = c.row_at-a in
    λ t s keep marked task. c.blocked_at.ensures ∙ stuck_is t s keep a.code.now a.marks.now marked a.i task r.result (r.ensures ∙ ap (row_in a.marks.now) c.top-f.ensures) _ refl
