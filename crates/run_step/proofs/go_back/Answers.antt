-- The arc of a call leads straight to a kept node, or not.
use Rattle.std.proofs.Common.{arith, pos}
use Rattle.table.specs.Table.{removed}
use Rattle.run_step.specs.Effects.{goes_to}
use Rattle.run_step.specs.Steps.{arc_in}
use Rattle.run_step.specs.GoLaws.{frame_asks, row_low, far_going, far_goes, back_effect, back_lands}
use Rattle.run_step.proofs.go_back.Goals as goal

pub row_at-a-requires : goal.row_at-a-requires
row_at-a-requires c = let a = c.args in
    let p = c.requires in
    frame_asks p.t p.s a.keep.now a.code.now a.marks.now p.going.held.marked a.g p.going.frame

pub by_arc-o-requires : goal.by_arc-o-requires
by_arc-o-requires c = let a = c.args in
    let p = c.requires in
    omega (arith, c.row_at-a.ensures, row_low p.t p.s a.keep.now a.code.now a.marks.now p.going.held.marked a.g p.going.frame)

pub returns-then-o-ne0 : goal.returns-then-o-ne0
returns-then-o-ne0 c = let o = c.by_arc-o in
    let r = c.row_at-a in
    let a = c.args in
    λ t s going. back_lands a.keep.now a.code.now a.words.now a.marks.now a.cells.now a.values.now a.g a.used a.most r.result r.ensures o.result o.ensures c.if-o-ne0.true t s going

pub go_far-requires : goal.go_far-requires
go_far-requires c = let g = c.goes-far in
    let o = c.by_arc-o in
    let r = c.row_at-a in
    let a = c.args in
    let p = c.requires in
    let back = goes_to removed (pos 0) a.used (arc_in a.words.now a.marks.now a.g) 0 in
    let f = back_effect a.keep.now a.code.now a.words.now a.marks.now a.cells.now a.values.now a.g a.used a.most r.result r.ensures o.result o.ensures g.result g.ensures in
    record { t = p.t; s = p.s; going = far_going a.keep.now a.code.now a.words.now a.marks.now a.cells.now a.values.now a.g back a.most p.t p.s p.going g.result f }

pub returns : goal.returns
returns c = let g = c.goes-far in
    let o = c.by_arc-o in
    let r = c.row_at-a in
    let a = c.args in
    let back = goes_to removed (pos 0) a.used (arc_in a.words.now a.marks.now a.g) 0 in
    let f = back_effect a.keep.now a.code.now a.words.now a.marks.now a.cells.now a.values.now a.g a.used a.most r.result r.ensures o.result o.ensures g.result g.ensures in
    let e = c.go_far in
    λ t s going. far_goes a.keep.now a.code.now a.words.now a.marks.now a.cells.now a.values.now a.g back a.most t s going g.result f e.result e.new.marks e.new.cells (e.ensures t s (far_going a.keep.now a.code.now a.words.now a.marks.now a.cells.now a.values.now a.g back a.most t s going g.result f))
